-- Promises. What a call answers and leaves that goes on in block b from the stored bytes s.
use Rattle.std.specs.Prelude.{Bool, cond, ◌&&◌, List, ◌≡◌, ℕ, zero, suc, ◌+◌, ◌-◌, ◌*◌, ◌/◌, ◌%◌, leb, ltb, eqb, length, get_or, Err, None, Ok, Result, Some, Option}
use Rattle.line_totals.specs.Totals.{no_totals}
use Rattle.line_totals.specs.declared.Totals.{Totals}
use Rattle.image_map.specs.Places.{width_of, sample_index, Changed}
use Rattle.stream.specs.declared.header.FujiHeader.{FujiHeader}
use Rattle.stream.specs.declared.header.Refusal.TheVariants.{Truncated, BadState, OtherState}
use Rattle.image_region.specs.Regions.{block_of, first_block, last_block, line_count}
use Rattle.image_region.specs.declared.Rect.{Rect}
use Rattle.saved_state.specs.Checkpoints.{next_line, position_in, checked_of}
use Rattle.admission.specs.Resumings.{resume_begins}
use Rattle.read_block.specs.Blocks.{State, read_from, lines_of, totals_in}
use Rattle.saved_state.specs.BlockStates.{loaded_state}
use Rattle.read_block.specs.Images.{form_of, bytes_in, bases_in, is_read, line_of}
use Rattle.read_block.specs.Lent.{Buffers, cleared_lines, cleared_records}
use Rattle.read_block.specs.Totals.{refused_by}
use Rattle.read_block.specs.declared.Counted.{Counted}
use Rattle.stream.specs.declared.header.Refusal.{Refusal}

-- ---- what is read

-- the reading of m lines of block b from the state that s holds, which begins with its next line
abbrev pub resumed_after : List ℕ → ℕ → FujiHeader → List ℕ → ℕ → Option State
resumed_after d b h s m = read_from (form_of h) (bases_in d b) (bytes_in d b) (next_line s) (loaded_state (form_of h) h.lossless (bases_in d b) s) m

-- how many of m lines are read: those before the first truncated one
unfoldable pub lines_resumed : List ℕ → ℕ → FujiHeader → List ℕ → ℕ → ℕ
lines_resumed d b h s zero = 0
lines_resumed d b h s (suc m) = cond (is_read (resumed_after d b h s (suc m))) (suc m) (lines_resumed d b h s m)

-- lines are read up to the region's last one, if the region touches the block
abbrev pub is_touched : Rect → ℕ → Bool
is_touched r b = leb (first_block r) b && leb b (last_block r)

abbrev pub lines_wanted : ℕ → List ℕ → Rect → ℕ
lines_wanted b s r = cond (is_touched r b) (line_count r - next_line s) 0

abbrev pub resumed_in : List ℕ → ℕ → FujiHeader → List ℕ → Rect → ℕ
resumed_in d b h s r = lines_resumed d b h s (lines_wanted b s r)

-- ---- the image

-- whether entry i is the region's and of this block, and its line was read now
unfoldable pub is_resumed : List ℕ → ℕ → FujiHeader → List ℕ → Rect → ℕ → Bool
is_resumed d b h s r i =
    ltb i (r.width * r.height) && eqb (block_of r i) b && leb (next_line s) (line_of r i) && ltb (line_of r i) (next_line s + resumed_in d b h s r)

-- the sample in a row and a column of the picture, as `picture_sample` has it
unfoldable pub resumed_picture : List ℕ → ℕ → FujiHeader → List ℕ → List ℕ → (row column : ℕ) → ℕ
resumed_picture d b h s tile row column =
    let lines = lines_of (resumed_after d b h s (suc (row / 6 - next_line s))) in
    get_or lines (sample_index h.xtrans (width_of h.xtrans) tile (row % 6) (column % 768)) 0

abbrev pub resumed_sample : List ℕ → ℕ → FujiHeader → List ℕ → Rect → List ℕ → ℕ → ℕ
resumed_sample d b h s r tile i = resumed_picture d b h s tile (r.y + i / r.width) (r.x + i % r.width)

-- ---- the answer

-- refusal 14 with the first truncated line
abbrev pub resumed_answer : List ℕ → ℕ → FujiHeader → List ℕ → Rect → Result Unit Refusal
resumed_answer d b h s r =
    cond (ltb (resumed_in d b h s r) (lines_wanted b s r)) (Err (Truncated b (next_line s + resumed_in d b h s r))) (Ok tt)

-- the totals of the lines that were read now
abbrev pub since_totals : ℕ → Totals → Totals
since_totals at t = record { bits = t.bits - at; long = t.long }

abbrev pub resumed_totals : List ℕ → ℕ → FujiHeader → List ℕ → Rect → Totals
resumed_totals d b h s r = since_totals (position_in s) (totals_in (resumed_after d b h s (resumed_in d b h s r)))

abbrev pub resumed_counted : List ℕ → ℕ → FujiHeader → List ℕ → Rect → Counted
resumed_counted d b h s r = record { answer = resumed_answer d b h s r; totals = resumed_totals d b h s r }

-- ---- a call

-- what the stored bytes are to it
abbrev pub checked_in : List ℕ → ℕ → FujiHeader → List ℕ → Result (ℕ × ℕ) Refusal
checked_in d b h s = checked_of (width_of h.xtrans) h.bits h.lines (length (bytes_in d b)) d b s

-- the answer and the image: refusal 21, refusal 22, or the lines from the next one on
abbrev pub Resumed : List ℕ → ℕ → FujiHeader → List ℕ → Rect → List ℕ → Result (ℕ × ℕ) Refusal → (image image' : List ℕ) → Counted → Type 0
Resumed d b h s r tile (Err x) image image' answer = (answer ≡ refused_by x) × (image' ≡ image)
Resumed d b h s r tile (Ok (k, at)) image image' answer =
    (answer ≡ resumed_counted d b h s r) × Changed (is_resumed d b h s r) (resumed_sample d b h s r tile) image image'

-- what a call leaves that goes on in a stream with this header
pub record Resuming (d : List ℕ) (b : ℕ) (h : FujiHeader) (s : List ℕ) (r : Rect) (tile : List ℕ) (before after : Buffers) (answer : Counted) : Type 0 where
  pub resumed : Resumed d b h s r tile (checked_in d b h s) before.image after.image answer
  pub lines : after.lines ≡ cleared_lines h.xtrans before.lines
  pub records : after.records ≡ cleared_records before.records

-- what a call leaves, by how it begins
abbrev pub ResumedBy : List ℕ → ℕ → List ℕ → Rect → List ℕ → Result (Option FujiHeader) Refusal → (before after : Buffers) → Counted → Type 0
ResumedBy d b s r tile (Err x) before after answer = (answer ≡ refused_by x) × (after ≡ before)
ResumedBy d b s r tile (Ok None) before after answer = (answer ≡ record { answer = (Ok tt); totals = no_totals }) × (after ≡ before)
ResumedBy d b s r tile (Ok (Some h)) before after answer = Resuming d b h s r tile before after answer

abbrev pub LeftResumed : List ℕ → ℕ → List ℕ → Rect → List ℕ → (before after : Buffers) → Counted → Type 0
LeftResumed d b s r tile before after answer =
    let begins = resume_begins d b r (length before.image) (length before.lines) (length before.records) in
    ResumedBy d b s r tile begins before after answer
