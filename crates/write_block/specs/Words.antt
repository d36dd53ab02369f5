-- Promises. What calls of the writer from C leave: what the same call leaves here, with the length, 0 where it is refused, and a refusal's words.
use Rattle.std.specs.Prelude.{List, ◌≡◌, ℕ, length, Result}
use Rattle.stream.specs.Lengths.{length_word, length_refusal}
use Rattle.admission.specs.Writings.{writing_begins, lossy_begins}
use Rattle.read_block.specs.Lent.{Scratch, Outputs}
use Rattle.write_block.specs.WrittenAnswers.{LeftWritten, LeftLossy, LeftMeasured}
use Rattle.stream.specs.declared.header.Refusal.{Refusal}

pub record ToldWritten (d t : List ℕ) (before after : Outputs) (size words : List ℕ) : Type 0 where
  pub answer : Result ℕ Refusal
  pub left : LeftWritten t (writing_begins d (length t) (length before.lines) (length before.records)) before after answer
  pub told_size : size ≡ length_word answer
  pub told : words ≡ length_refusal answer

pub record ToldLossy (d bases t : List ℕ) (before after : Outputs) (size words : List ℕ) : Type 0 where
  pub answer : Result ℕ Refusal
  pub left : LeftLossy bases t (lossy_begins d (length bases) (length t) (length before.lines) (length before.records)) before after answer
  pub told_size : size ≡ length_word answer
  pub told : words ≡ length_refusal answer

pub record ToldMeasured (d t : List ℕ) (before after : Scratch) (size words : List ℕ) : Type 0 where
  pub answer : Result ℕ Refusal
  pub left : LeftMeasured t (writing_begins d (length t) (length before.lines) (length before.records)) before after answer
  pub told_size : size ≡ length_word answer
  pub told : words ≡ length_refusal answer
