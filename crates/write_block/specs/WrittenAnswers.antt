-- Promises. What a call of the writer answers and leaves, and a call that only measures; the lossless writer is the case without bases.
use Rattle.std.specs.Prelude.{cond, List, [], ◌++◌, ◌≡◌, ℕ, ltb, length, drop, Err, Ok, Result, None, Option, Some}
use Rattle.quantiser.specs.Quantisers.{largest}
use Rattle.stream.specs.declared.header.FujiHeader.{FujiHeader}
use Rattle.stream.specs.declared.header.Refusal.TheVariants.{AboveLargest, NotPredicted, ShortOutput}
use Rattle.admission.specs.Above.{is_ignored, first_above}
use Rattle.read_block.specs.Images.{form_of}
use Rattle.read_block.specs.Lent.{Outputs, Scratch, cleared_lines, cleared_records}
use Rattle.write_block.specs.WrittenBlocks.{is_strict, write_lines, written_block}
use Rattle.read_block.specs.declared.Form.{Form}
use Rattle.stream.specs.declared.header.Refusal.{Refusal}

-- ---- the answer

-- refusal 13, or the length of the block
abbrev pub length_answer : ℕ → ℕ → Result ℕ Refusal
length_answer n room = cond (ltb room n) (Err ShortOutput) (Ok n)

-- refusal 12 before it
abbrev pub predicted_answer : Option ℕ → ℕ → ℕ → Result ℕ Refusal
predicted_answer None n room = length_answer n room
predicted_answer (Some j) n room = Err (NotPredicted j)

-- refusal 11 before that
abbrev pub range_answer : Option ℕ → Result ℕ Refusal → Result ℕ Refusal
range_answer None a = a
range_answer (Some i) a = Err (AboveLargest i)

-- the answer for a set t whose samples with a code are in range, with these bases and so many bytes of output
unfoldable pub measured_answer : Form → List ℕ → ℕ → List ℕ → ℕ → Result ℕ Refusal
measured_answer F bases lines t room = predicted_answer (write_lines F bases t lines).wrong (length (written_block F bases lines t)) room

-- refusal 11 looks at all samples of a set without bases, and at those with a code of any other
abbrev pub above_in : Form → (bases t : List ℕ) → Option ℕ
above_in F bases t = first_above (is_ignored F.xtrans (is_strict bases)) (largest F.bits) 0 t

-- the answer for any set t of the right size
unfoldable pub set_answer : Form → List ℕ → ℕ → List ℕ → ℕ → Result ℕ Refusal
set_answer F bases lines t room = range_answer (above_in F bases t) (measured_answer F bases lines t room)

-- lossless
abbrev pub written_answer : Form → ℕ → List ℕ → ℕ → Result ℕ Refusal
written_answer F lines t room = set_answer F [] lines t room

-- the answer for a set that is only measured: that of the writer with an output of exactly the block's length
unfoldable pub exact_answer : Form → List ℕ → ℕ → List ℕ → Result ℕ Refusal
exact_answer F bases lines t = set_answer F bases lines t (length (written_block F bases lines t))

-- the output afterwards: the block and what follows it, or what it was
abbrev pub written_out : Result ℕ Refusal → List ℕ → List ℕ → List ℕ
written_out (Ok n) block out = block ++ drop n out
written_out (Err x) block out = out

-- ---- a call

-- what a call leaves that writes the set t with these bases under this header
pub record SetWriting (bases t : List ℕ) (h : FujiHeader) (before after : Outputs) (answer : Result ℕ Refusal) : Type 0 where
  pub answered : answer ≡ set_answer (form_of h) bases h.lines t (length before.out)
  pub output : after.out ≡ written_out answer (written_block (form_of h) bases h.lines t) before.out
  pub lines : after.lines ≡ cleared_lines h.xtrans before.lines
  pub records : after.records ≡ cleared_records before.records

-- what a call of the lossy writer leaves, by how it begins
abbrev pub LeftLossy : (bases t : List ℕ) → Result FujiHeader Refusal → (before after : Outputs) → Result ℕ Refusal → Type 0
LeftLossy bases t (Err x) before after answer = (answer ≡ Err x) × (after ≡ before)
LeftLossy bases t (Ok h) before after answer = SetWriting bases t h before after answer

-- the lossless writer has no bases
abbrev pub LeftWritten : List ℕ → Result FujiHeader Refusal → (before after : Outputs) → Result ℕ Refusal → Type 0
LeftWritten t begins before after answer = LeftLossy [] t begins before after answer

-- ---- a call that only measures

pub record SetMeasuring (bases t : List ℕ) (h : FujiHeader) (before after : Scratch) (answer : Result ℕ Refusal) : Type 0 where
  pub answered : answer ≡ exact_answer (form_of h) bases h.lines t
  pub lines : after.lines ≡ cleared_lines h.xtrans before.lines
  pub records : after.records ≡ cleared_records before.records

abbrev pub MeasuredWith : (bases t : List ℕ) → Result FujiHeader Refusal → (before after : Scratch) → Result ℕ Refusal → Type 0
MeasuredWith bases t (Err x) before after answer = (answer ≡ Err x) × (after ≡ before)
MeasuredWith bases t (Ok h) before after answer = SetMeasuring bases t h before after answer

abbrev pub LeftMeasured : List ℕ → Result FujiHeader Refusal → (before after : Scratch) → Result ℕ Refusal → Type 0
LeftMeasured t begins before after answer = MeasuredWith [] t begins before after answer
