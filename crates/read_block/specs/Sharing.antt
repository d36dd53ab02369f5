-- Promises. Decoding a region for one of two cameras: which lines take an entry, where refusal 23 comes, and what a call leaves. What is read, and what it
-- shows, is that of `decode_region`. Assumes nothing.
use Rattle.std.specs.Prelude.{Bool, true, false, cond, ◌&&◌, List, ◌≡◌, ℕ, zero, suc, ◌+◌, ◌-◌, ◌*◌, ltb, eqb, Err, None, Ok, Option, Result, Some}
use Rattle.numbers.specs.Numbers.{least_from}
use Rattle.image_map.specs.Places.{Changed}
use Rattle.stream.specs.declared.header.FujiHeader.{FujiHeader}
use Rattle.stream.specs.declared.header.Refusal.TheVariants.{NoEntry}
use Rattle.image_region.specs.Regions.{block_of, first_block, last_block, line_count}
use Rattle.image_region.specs.declared.Rect.{Rect}
use Rattle.cameras.specs.Entries.{lines_with_entry, after_lines, taking_lines, is_stopped, handed_back, mended}
use Rattle.cameras.specs.declared.Camera.{Camera}
use Rattle.cameras.specs.declared.Entry.{Entry}
use Rattle.read_block.specs.Images.{bases_in, read_in, line_of, is_decoded, decoded_sample, answer_of}
use Rattle.read_block.specs.Lent.{Buffers, cleared_lines, cleared_records}
use Rattle.stream.specs.declared.header.Refusal.{Refusal}

-- ---- block b, before which the entries are l

-- how many of its lines, up to the region's last, have an entry
abbrev pub entry_lines : Camera → List ℕ → FujiHeader → Rect → ℕ → List Entry → ℕ
entry_lines c d h r b l = lines_with_entry c h.bits (bases_in d b) l (line_count r)

-- its lines take their entries as far as they are read, and the truncated one too
unfoldable pub block_entries : Camera → List ℕ → FujiHeader → Rect → ℕ → List Entry → List Entry
block_entries c d h r b l = after_lines c h.bits (bases_in d b) l (taking_lines (read_in d h r b) (entry_lines c d h r b l))

-- 23 comes in it
unfoldable pub stops_in : Camera → List ℕ → FujiHeader → Rect → ℕ → List Entry → Bool
stops_in c d h r b l = is_stopped (read_in d h r b) (entry_lines c d h r b l) (line_count r)

-- ---- the region's blocks, before the first of which the entries are l

abbrev pub block_count : Rect → ℕ
block_count r = last_block r + 1 - first_block r

-- the entries after the first n of them
unfoldable pub entries_after : Camera → List ℕ → FujiHeader → Rect → List Entry → ℕ → List Entry
entries_after c d h r l zero = l
entries_after c d h r l (suc n) = block_entries c d h r (first_block r + n) (entries_after c d h r l n)

-- how many come before the one with 23; all of them, if there is none
unfoldable pub blocks_before : Camera → List ℕ → FujiHeader → Rect → List Entry → ℕ
blocks_before c d h r l = least_from (block_count r) (λ n. stops_in c d h r (first_block r + n) (entries_after c d h r l n)) 0

-- whether there is one, and its block and line
unfoldable pub is_out : Camera → List ℕ → FujiHeader → Rect → List Entry → Bool
is_out c d h r l = ltb (blocks_before c d h r l) (block_count r)

abbrev pub out_block : Camera → List ℕ → FujiHeader → Rect → List Entry → ℕ
out_block c d h r l = first_block r + blocks_before c d h r l

unfoldable pub out_line : Camera → List ℕ → FujiHeader → Rect → List Entry → ℕ
out_line c d h r l = entry_lines c d h r (out_block c d h r l) (entries_after c d h r l (blocks_before c d h r l))

-- ---- what a call leaves that reads a stream with this header

-- 23, even if a line before it was truncated; or else what `decode_region` answers
unfoldable pub shared_answer : Camera → List ℕ → FujiHeader → Rect → List Entry → Result Unit Refusal
shared_answer c d h r l =
    cond (is_out c d h r l) (Err (NoEntry (out_block c d h r l) (out_line c d h r l))) (answer_of d h r (block_count r))

-- the entries after its last line
unfoldable pub last_entries : Camera → List ℕ → FujiHeader → Rect → List Entry → List Entry
last_entries c d h r l = let n = blocks_before c d h r l in entries_after c d h r l (cond (is_out c d h r l) (suc n) n)

-- the entries of the image that show something where 23 comes at line n of block b: those of blocks before it, and of its lines before that one
unfoldable pub is_before : List ℕ → FujiHeader → Rect → (b n i : ℕ) → Bool
is_before d h r b n i =
    let a = block_of r i in
    ltb i (r.width * r.height) && ltb a (b + 1) && ltb (line_of r i) (cond (eqb a b) n (read_in d h r a))

unfoldable pub is_shared : Camera → List ℕ → FujiHeader → Rect → List Entry → ℕ → Bool
is_shared c d h r l i =
    cond (is_out c d h r l) (is_before d h r (out_block c d h r l) (out_line c d h r l) i) (is_decoded d h r (last_block r + 1) i)

-- all other entries are what they were
abbrev pub PicturedShared : Camera → List ℕ → FujiHeader → Rect → List ℕ → List Entry → (before after : List ℕ) → Type 0
PicturedShared c d h r tile l before after = Changed (is_shared c d h r l) (decoded_sample d h r tile) before after

pub record SharedDecoding (c : Camera) (d : List ℕ) (h : FujiHeader) (r : Rect) (tile : List ℕ) (l : List Entry)
    (before after : Buffers) (answer : Result Unit Refusal) : Type 0 where
  pub answered : answer ≡ shared_answer c d h r l
  pub pictured : PicturedShared c d h r tile l before.image after.image
  pub lines : after.lines ≡ cleared_lines h.xtrans before.lines
  pub records : after.records ≡ cleared_records before.records

-- ---- a call, which mends the entries l that it is given, and hands back l'

abbrev pub is_refused : Result Unit Refusal → Bool
is_refused (Ok tt) = false
is_refused (Err x) = true

-- by how it begins, the entries before they are handed back, and what else it leaves
abbrev pub call_entries : Camera → List ℕ → Rect → Result (Option FujiHeader) Refusal → List Entry → List Entry
call_entries c d r (Err x) l = mended l
call_entries c d r (Ok None) l = mended l
call_entries c d r (Ok (Some h)) l = last_entries c d h r (mended l)

abbrev pub LeftBuffers : Camera → List ℕ → Rect → List ℕ → Result (Option FujiHeader) Refusal → List Entry → (before after : Buffers) → Result Unit Refusal → Type 0
LeftBuffers c d r tile (Err x) l before after answer = (answer ≡ Err x) × (after ≡ before)
LeftBuffers c d r tile (Ok None) l before after answer = (answer ≡ (Ok tt)) × (after ≡ before)
LeftBuffers c d r tile (Ok (Some h)) l before after answer = SharedDecoding c d h r tile (mended l) before after answer

abbrev pub LeftShared : Camera → List ℕ → Rect → List ℕ → Result (Option FujiHeader) Refusal → (l : List Entry) → (before after : Buffers) → Result Unit Refusal → (l' : List Entry) → Type 0
LeftShared c d r tile begins l before after answer l' =
    LeftBuffers c d r tile begins l before after answer × (l' ≡ handed_back c (is_refused answer) (call_entries c d r begins l))
