-- Promises. Calls of the writer: from what `write_block` and its function for C promise (crates/block), whatever output and scratch held before.
-- For the set of a tight block they write that block, answer its length, and leave the rest of the output as it was, exactly if output and scratch
-- are long enough. Assumes nothing.
use Rattle.std.specs.Prelude.{true, List, [], ◌∷◌, ◌++◌, ◌↔◌, ◌≡◌, ℕ, ◌≤◌, length, drop, Ok, Result}
use Rattle.stream.specs.Headers.{parse_of}
use Rattle.stream.specs.Refusals.{no_refusal}
use Rattle.stream.specs.declared.header.FujiHeader.{FujiHeader}
use Rattle.admission.specs.Beginnings.{samples_needed, records_needed}
use Rattle.admission.specs.Writings.{writing_begins}
use Rattle.read_block.specs.Images.{form_of}
use Rattle.read_block.specs.Lent.{Outputs}
use Rattle.write_block.specs.Words.{ToldWritten}
use Rattle.write_block.specs.WrittenAnswers.{LeftWritten}
use Rattle.theorem_one_to_one.specs.Correspondence.{TightBlockOf}
use Rattle.stream.specs.declared.header.Refusal.{Refusal}

-- the output has room for the block, and scratch is not refused by 10
pub record LongEnough (h : FujiHeader) (block : List ℕ) (before : Outputs) : Type 0 where
  pub out : length block ≤ length before.out
  pub lines : samples_needed h.xtrans ≤ length before.lines
  pub records : records_needed ≤ length before.records

-- the block is at the start of the output, and what follows it is what it was
abbrev pub Starts : List ℕ → (before after : Outputs) → Type 0
Starts block before after = after.out ≡ block ++ drop (length block) before.out

abbrev pub CorrespondenceOfCalls : Type 0
CorrespondenceOfCalls =
    (d : List ℕ) (h : FujiHeader) → parse_of d ≡ Ok h → h.lossless ≡ true
    → (t : List ℕ) (b : TightBlockOf (form_of h) h.lines t) (before after : Outputs) (answer : Result ℕ Refusal)
    → LeftWritten t (writing_begins d (length t) (length before.lines) (length before.records)) before after answer
    → ((answer ≡ Ok (length b.block)) × Starts b.block before after) ↔ LongEnough h b.block before

-- the same from C: the length, no refusal, and the block
abbrev pub CorrespondenceOfCallsFromC : Type 0
CorrespondenceOfCallsFromC =
    (d : List ℕ) (h : FujiHeader) → parse_of d ≡ Ok h → h.lossless ≡ true
    → (t : List ℕ) (b : TightBlockOf (form_of h) h.lines t) (before after : Outputs) (size words : List ℕ)
    → ToldWritten d t before after size words
    → ((size ≡ length b.block ∷ []) × (words ≡ no_refusal) × Starts b.block before after) ↔ LongEnough h b.block before
