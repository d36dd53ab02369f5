-- Promises. What `tighten` and `lossy_copy` leave.
use Rattle.std.specs.Prelude.{Bool, cond, not, ◌||◌, List, [], ◌++◌, ◌≡◌, ℕ, suc, ◌+◌, ◌*◌, ltb, eqb, length, take, drop, replicate, Err, Ok, Result}
use Rattle.numbers.specs.Numbers.{least_from}
use Rattle.statistics.specs.declared.Record.{Record}
use Rattle.image_map.specs.Places.{width_of}
use Rattle.colour_lines.specs.Sets.{set_size}
use Rattle.pass_schedule.specs.Steps.{upto}
use Rattle.stream.specs.declared.header.FujiHeader.{FujiHeader}
use Rattle.stream.specs.declared.header.Refusal.TheVariants.{WrongBases, WrongCount, ShortScratch, ShortOutput, Truncated}
use Rattle.stream.specs.Streams.{row_start}
use Rattle.admission.specs.Beginnings.{is_short_scratch}
use Rattle.read_block.specs.Images.{form_of, bytes_in, bases_in, lines_read}
use Rattle.read_block.specs.Lent.{cleared_lines, cleared_records}
use Rattle.write_block.specs.WrittenBlocks.{written_block}
use Rattle.theorem_whole_streams.specs.Assembled.{length_of, assembled}
use Rattle.theorem_whole_streams.specs.Kinds.{flagged, with_flag, set_in}
use Rattle.stream.specs.declared.header.Refusal.{Refusal}

-- what a call is lent
pub record Lent : Type 0 where
  pub out : List ℕ
  pub set : List ℕ
  pub lines : List ℕ
  pub records : List Record

-- bases, a byte for each line of each block; none for a tight stream
abbrev pub is_tight_call : List ℕ → Bool
is_tight_call rows = eqb (length rows) 0

abbrev pub bases_of : FujiHeader → List ℕ → ℕ → List ℕ
bases_of h rows b = cond (is_tight_call rows) [] (take h.lines (drop (b * h.lines) rows))

abbrev pub new_header : FujiHeader → List ℕ → FujiHeader
new_header h rows = with_flag (is_tight_call rows) h

-- block b of the new stream, what stands before the blocks, and the stream
abbrev pub new_block : List ℕ → FujiHeader → List ℕ → ℕ → List ℕ
new_block d h rows b = written_block (form_of h) (bases_of h rows b) h.lines (set_in d h b)

abbrev pub new_front : FujiHeader → List ℕ → ℕ
new_front h rows = row_start (new_header h rows) h.blocks

abbrev pub new_stream : List ℕ → FujiHeader → List ℕ → List ℕ
new_stream d h rows = assembled (flagged (is_tight_call rows) d) (new_header h rows) (bases_of h rows) (new_block d h rows)

-- the lowest block that is truncated, or for which there is no room; or their number
abbrev pub is_cut : List ℕ → FujiHeader → ℕ → Bool
is_cut d h b = ltb (lines_read (form_of h) (bases_in d b) (bytes_in d b) h.lines) h.lines

unfoldable pub made : List ℕ → FujiHeader → List ℕ → ℕ → ℕ
made d h rows room = least_from h.blocks (λ b. is_cut d h b || ltb room (new_front h rows + length_of (new_block d h rows) (suc b))) 0

-- refusal 14 of that block before 13
abbrev pub stop_answer : List ℕ → FujiHeader → ℕ → Result ℕ Refusal
stop_answer d h b =
    cond (is_cut d h b) (Err (Truncated b (lines_read (form_of h) (bases_in d b) (bytes_in d b) h.lines))) (Err ShortOutput)

-- the answer, with so many bytes of output
abbrev pub made_answer : List ℕ → FujiHeader → List ℕ → ℕ → Result ℕ Refusal
made_answer d h rows room =
    let b = made d h rows room in
    cond (ltb b h.blocks) (stop_answer d h b) (Ok (length (new_stream d h rows)))

-- and the bytes that are put: one that is refused on the way leaves zeros for what stands before the blocks, so that its output does not open
abbrev pub made_bytes : List ℕ → FujiHeader → List ℕ → ℕ → List ℕ
made_bytes d h rows room =
    let b = made d h rows room in
    cond (ltb b h.blocks) (replicate (new_front h rows) 0 ++ upto (new_block d h rows) b) (new_stream d h rows)

-- what a call leaves that makes blocks
pub record Making (d : List ℕ) (h : FujiHeader) (rows : List ℕ) (before after : Lent) (answer : Result ℕ Refusal) : Type 0 where
  pub answered : answer ≡ made_answer d h rows (length before.out)
  pub output : after.out ≡ made_bytes d h rows (length before.out) ++ drop (length (made_bytes d h rows (length before.out))) before.out
  -- the lent set is scratch, and cleared as the rest
  pub set : after.set ≡ replicate (length before.set) 0
  pub lines : after.lines ≡ cleared_lines h.xtrans before.lines
  pub records : after.records ≡ cleared_records before.records

-- refusals 9 and 10, and 13 for what stands before the blocks, before anything is touched; with so many bytes, samples and records lent
unfoldable pub with_room : FujiHeader → Bool → (room count samples records : ℕ) → Result FujiHeader Refusal
with_room h tight room count samples records =
    cond (eqb count (set_size (width_of h.xtrans) h.lines))
    (cond (is_short_scratch h.xtrans samples records) (Err ShortScratch)
    (cond (ltb room (row_start (with_flag tight h) h.blocks)) (Err ShortOutput) (Ok h)))
    (Err WrongCount)

-- refusal 17 before them. `tighten` is the call without rows, and has no 17
abbrev pub begins : Bool → FujiHeader → List ℕ → Lent → Result FujiHeader Refusal
begins lossy h rows before =
    cond (not lossy || eqb (length rows) (h.blocks * h.lines))
    (with_room h (is_tight_call rows) (length before.out) (length before.set) (length before.lines) (length before.records))
    (Err WrongBases)

abbrev pub making_begins : Bool → Result FujiHeader Refusal → List ℕ → Lent → Result FujiHeader Refusal
making_begins lossy (Err x) rows before = Err x
making_begins lossy (Ok h) rows before = begins lossy h rows before

abbrev pub LeftMade : List ℕ → List ℕ → Result FujiHeader Refusal → (before after : Lent) → Result ℕ Refusal → Type 0
LeftMade d rows (Err x) before after answer = (answer ≡ Err x) × (after ≡ before)
LeftMade d rows (Ok h) before after answer = Making d h rows before after answer
