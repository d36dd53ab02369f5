-- Promises. What `read_set` leaves.
use Rattle.std.specs.Prelude.{cond, List, ◌++◌, ◌≡◌, ℕ, ◌+◌, ltb, eqb, length, take, drop, Err, Ok, Result}
use Rattle.statistics.specs.declared.Record.{Record}
use Rattle.image_map.specs.Places.{width_of}
use Rattle.colour_lines.specs.Sets.{set_size}
use Rattle.stream.specs.declared.header.FujiHeader.{FujiHeader}
use Rattle.stream.specs.declared.header.Refusal.TheVariants.{NoBlock, WrongCount}
use Rattle.stream.specs.Streams.{open_of}
use Rattle.admission.specs.Beginnings.{with_scratch}
use Rattle.read_block.specs.Records.{table}
use Rattle.read_block.specs.Images.{form_of, bytes_in, bases_in, lines_read}
use Rattle.read_block.specs.Lent.{cleared_lines, cleared_records}
use Rattle.read_block.specs.TightBlocks.{read_sample}
use Rattle.read_block.specs.Totals.{refused_by}
use Rattle.read_block.specs.BlockReadings.{read_counted}
use Rattle.read_block.specs.declared.Counted.{Counted}
use Rattle.read_block.specs.declared.Form.{Form}
use Rattle.stream.specs.declared.header.Refusal.{Refusal}

-- the set of the first n lines of the block s with these bases
unfoldable pub set_with : Form → (bases : List ℕ) → ℕ → List ℕ → List ℕ
set_with F bases n s = table (read_sample F bases s) (set_size (width_of F.xtrans) n)

-- s stands over d from `at` on
abbrev pub put_over : List ℕ → ℕ → List ℕ → List ℕ
put_over d at s = take at d ++ (s ++ drop (at + length s) d)

-- ---- a call

pub record Sets : Type 0 where
  pub set : List ℕ
  pub lines : List ℕ
  pub records : List Record

-- refusals 5, 9 and 10
abbrev pub with_set : FujiHeader → ℕ → ℕ → ℕ → ℕ → Result FujiHeader Refusal
with_set h b count samples records =
    cond (ltb b h.blocks)
    (cond (eqb count (set_size (width_of h.xtrans) h.lines)) (with_scratch h samples records) (Err WrongCount))
    (Err NoBlock)

-- after 1 to 4
abbrev pub with_opened : Result FujiHeader Refusal → ℕ → ℕ → ℕ → ℕ → Result FujiHeader Refusal
with_opened (Err x) b count samples records = Err x
with_opened (Ok h) b count samples records = with_set h b count samples records

unfoldable pub set_begins : List ℕ → ℕ → ℕ → ℕ → ℕ → Result FujiHeader Refusal
set_begins d b count samples records = with_opened (open_of d) b count samples records

-- what a call leaves that reads: the answer and the totals of `read_block`; the samples of the lines that were read, and the rest of the set as it was
pub record SetReading (d : List ℕ) (b : ℕ) (h : FujiHeader) (before after : Sets) (answer : Counted) : Type 0 where
  pub answered : answer ≡ read_counted d b h
  pub set : let n = lines_read (form_of h) (bases_in d b) (bytes_in d b) h.lines in
      after.set ≡ put_over before.set 0 (set_with (form_of h) (bases_in d b) n (bytes_in d b))
  pub lines : after.lines ≡ cleared_lines h.xtrans before.lines
  pub records : after.records ≡ cleared_records before.records

abbrev pub LeftSet : List ℕ → ℕ → Result FujiHeader Refusal → (before after : Sets) → Counted → Type 0
LeftSet d b (Err x) before after answer = (answer ≡ refused_by x) × (after ≡ before)
LeftSet d b (Ok h) before after answer = SetReading d b h before after answer
