-- Promises. What a call that reads one block answers and leaves: the ordinary reading, and the tight one.
use Rattle.std.specs.Prelude.{List, [], ◌≡◌, ℕ, length, Err, Ok, Result}
use Rattle.stream.specs.declared.header.FujiHeader.{FujiHeader}
use Rattle.admission.specs.Beginnings.{read_begins, tight_begins}
use Rattle.read_block.specs.Images.{form_of, bytes_in, bases_in, block_answer}
use Rattle.read_block.specs.Lent.{Scratch, cleared_lines, cleared_records}
use Rattle.read_block.specs.TightBlocks.{tight_answer}
use Rattle.read_block.specs.Totals.{lines_counted, counted, refused_by, TotalsOf}
use Rattle.read_block.specs.declared.Counted.{Counted}
use Rattle.read_block.specs.declared.Form.{Form}
use Rattle.stream.specs.declared.header.Refusal.{Refusal}

-- ---- the answers for block b of a stream with this header

abbrev pub read_counted : List ℕ → ℕ → FujiHeader → Counted
read_counted d b h =
    counted (form_of h) (bases_in d b) (bytes_in d b) h.lines (block_answer (form_of h) (bases_in d b) (bytes_in d b) b h.lines)

abbrev pub tight_counted : List ℕ → ℕ → FujiHeader → Counted
tight_counted d b h = counted (form_of h) [] (bytes_in d b) h.lines (tight_answer (form_of h) b h.lines (bytes_in d b))

-- ---- a call

-- what a call leaves that reads a block of a stream with this header, and is to answer so
pub record BlockReading (h : FujiHeader) (expected : Counted) (before after : Scratch) (answer : Counted) : Type 0 where
  pub answered : answer ≡ expected
  pub lines : after.lines ≡ cleared_lines h.xtrans before.lines
  pub records : after.records ≡ cleared_records before.records

-- what a call leaves, by how it begins
abbrev pub LeftBlock : Result FujiHeader Refusal → (FujiHeader → Counted) → (before after : Scratch) → Counted → Type 0
LeftBlock (Err x) expected before after answer = (answer ≡ refused_by x) × (after ≡ before)
LeftBlock (Ok h) expected before after answer = BlockReading h (expected h) before after answer

abbrev pub LeftRead : List ℕ → ℕ → (before after : Scratch) → Counted → Type 0
LeftRead d b before after answer =
    LeftBlock (read_begins d b (length before.lines) (length before.records)) (read_counted d b) before after answer

abbrev pub LeftTight : List ℕ → ℕ → (before after : Scratch) → Counted → Type 0
LeftTight d b before after answer =
    LeftBlock (tight_begins d b (length before.lines) (length before.records)) (tight_counted d b) before after answer

-- ---- the totals of every answer are those of the lines that it counts

abbrev pub ReadTotals : Type 0
ReadTotals =
    (F : Form) (bases s : List ℕ) (b lines : ℕ) → let answer = block_answer F bases s b lines in
    TotalsOf F bases s (lines_counted answer lines) (counted F bases s lines answer).totals

abbrev pub TightTotals : Type 0
TightTotals =
    (F : Form) (s : List ℕ) (b lines : ℕ) → let answer = tight_answer F b lines s in
    TotalsOf F [] s (lines_counted answer lines) (counted F [] s lines answer).totals
