-- Promises. Decoding a region of a stream: what is read of each block, the image, the answer and scratch.
use Rattle.std.specs.Prelude.{Bool, true, false, cond, ◌&&◌, List, ◌≡◌, ℕ, zero, suc, ◌+◌, ◌-◌, ◌*◌, ◌/◌, ◌%◌, ltb, get_or, Err, None, Ok, Result, Some, Option}
use Rattle.image_map.specs.Places.{width_of, sample_index, Changed}
use Rattle.stream.specs.Streams.{range_of, row_of}
use Rattle.stream.specs.Ranges.{part_of}
use Rattle.stream.specs.declared.header.FujiHeader.{FujiHeader}
use Rattle.stream.specs.declared.header.Refusal.TheVariants.{Truncated}
use Rattle.image_region.specs.Regions.{block_of, first_block, last_block, line_count}
use Rattle.image_region.specs.declared.Rect.{Rect}
use Rattle.read_block.specs.Lent.{Buffers, cleared_lines, cleared_records}
use Rattle.read_block.specs.Blocks.{State, read_lines, lines_of}
use Rattle.read_block.specs.declared.Form.{Form}
use Rattle.stream.specs.declared.header.Refusal.{Refusal}

-- ---- what is read

abbrev pub form_of : FujiHeader → Form
form_of h = record { bits = h.bits; xtrans = h.xtrans }

-- the bytes and the bases of block b
abbrev pub bytes_in : List ℕ → ℕ → List ℕ
bytes_in d b = part_of d (range_of d b)

abbrev pub bases_in : List ℕ → ℕ → List ℕ
bases_in d b = part_of d (row_of d b)

abbrev pub is_read : Option State → Bool
is_read None = false
is_read (Some r) = true

-- how many of a block's first n lines are read: those before the first truncated one
unfoldable pub lines_read : Form → List ℕ → List ℕ → ℕ → ℕ
lines_read F bases s zero = 0
lines_read F bases s (suc n) = cond (is_read (read_lines F bases s (suc n))) (suc n) (lines_read F bases s n)

-- and of block b, from line 0 to the region's last line
abbrev pub read_in : List ℕ → FujiHeader → Rect → ℕ → ℕ
read_in d h r b = lines_read (form_of h) (bases_in d b) (bytes_in d b) (line_count r)

-- ---- the image, which holds the region alone

-- the line of the picture that entry i comes from
abbrev pub line_of : Rect → ℕ → ℕ
line_of r i = (r.y + i / r.width) / 6

-- whether entry i is the region's, of a block below e, and its line was read
unfoldable pub is_decoded : List ℕ → FujiHeader → Rect → ℕ → ℕ → Bool
is_decoded d h r e i = ltb i (r.width * r.height) && ltb (block_of r i) e && ltb (line_of r i) (read_in d h r (block_of r i))

-- the sample of the picture in a row and a column of it: column mod 768 of its block, row mod 6 of its line
unfoldable pub picture_sample : List ℕ → FujiHeader → List ℕ → (row column : ℕ) → ℕ
picture_sample d h tile row column =
    let b = column / 768 in
    let lines = lines_of (read_lines (form_of h) (bases_in d b) (bytes_in d b) (suc (row / 6))) in
    get_or lines (sample_index h.xtrans (width_of h.xtrans) tile (row % 6) (column % 768)) 0

-- entry i of the image shows row y + ⌊i / width⌋ and column x + i mod width of the picture
abbrev pub decoded_sample : List ℕ → FujiHeader → Rect → List ℕ → ℕ → ℕ
decoded_sample d h r tile i = picture_sample d h tile (r.y + i / r.width) (r.x + i % r.width)

-- the image after the blocks below e; all other entries are what they were
abbrev pub Pictured : List ℕ → FujiHeader → Rect → List ℕ → ℕ → (before after : List ℕ) → Type 0
Pictured d h r tile e before after = Changed (is_decoded d h r e) (decoded_sample d h r tile) before after

-- ---- the answer

-- the answer of some blocks, or else that of the next one
abbrev pub or_else : Result Unit Refusal → Result Unit Refusal → Result Unit Refusal
or_else (Ok tt) x = x
or_else (Err r) x = Err r

-- what the first n lines of block b give, with the bytes s: refusal 14 with the first truncated line
abbrev pub block_answer : Form → (bases s : List ℕ) → ℕ → ℕ → Result Unit Refusal
block_answer F bases s b n = cond (ltb (lines_read F bases s n) n) (Err (Truncated b (lines_read F bases s n))) (Ok tt)

-- refusal 14 of the lowest failing block among n, from the region's first on, with its line
unfoldable pub answer_of : List ℕ → FujiHeader → Rect → ℕ → Result Unit Refusal
answer_of d h r zero = Ok tt
answer_of d h r (suc n) =
    let b = first_block r + n in
    or_else (answer_of d h r n) (block_answer (form_of h) (bases_in d b) (bytes_in d b) b (line_count r))

-- ---- a call

-- what a call leaves that reads a stream with this header
pub record Decoding (d : List ℕ) (h : FujiHeader) (r : Rect) (tile : List ℕ) (before after : Buffers) (answer : Result Unit Refusal) : Type 0 where
  pub answered : answer ≡ answer_of d h r (last_block r + 1 - first_block r)
  pub pictured : Pictured d h r tile (last_block r + 1) before.image after.image
  pub lines : after.lines ≡ cleared_lines h.xtrans before.lines
  pub records : after.records ≡ cleared_records before.records

-- what a call leaves, by how it begins
abbrev pub Left : List ℕ → Rect → List ℕ → Result (Option FujiHeader) Refusal → (before after : Buffers) → Result Unit Refusal → Type 0
Left d r tile (Err x) before after answer = (answer ≡ Err x) × (after ≡ before)
Left d r tile (Ok None) before after answer = (answer ≡ (Ok tt)) × (after ≡ before)
Left d r tile (Ok (Some h)) before after answer = Decoding d h r tile before after answer

-- the same without scratch, for a call that has its own
abbrev pub LeftImage : List ℕ → Rect → List ℕ → Result (Option FujiHeader) Refusal → (image image' : List ℕ) → Result Unit Refusal → Type 0
LeftImage d r tile (Err x) image image' answer = (answer ≡ Err x) × (image' ≡ image)
LeftImage d r tile (Ok None) image image' answer = (answer ≡ (Ok tt)) × (image' ≡ image)
LeftImage d r tile (Ok (Some h)) image image' answer =
    (answer ≡ answer_of d h r (last_block r + 1 - first_block r)) × Pictured d h r tile (last_block r + 1) image image'
