-- Promises. What calls of `tighten` and `lossy_copy` from C leave: what the same call leaves here, with the length, 0 where it is refused, and a refusal's words. Assumes
-- nothing.
use Rattle.std.specs.Prelude.{true, false, List, [], ◌≡◌, ℕ, Result}
use Rattle.stream.specs.Lengths.{length_word, length_refusal}
use Rattle.stream.specs.Streams.{open_of}
use Rattle.stream_copies.specs.MadeStreams.{Lent, making_begins, LeftMade}
use Rattle.stream.specs.declared.header.Refusal.{Refusal}

pub record ToldTightened (d : List ℕ) (before after : Lent) (size words : List ℕ) : Type 0 where
  pub answer : Result ℕ Refusal
  pub left : LeftMade d [] (making_begins false (open_of d) [] before) before after answer
  pub told_size : size ≡ length_word answer
  pub told : words ≡ length_refusal answer

pub record ToldCopy (d bases : List ℕ) (before after : Lent) (size words : List ℕ) : Type 0 where
  pub answer : Result ℕ Refusal
  pub left : LeftMade d bases (making_begins true (open_of d) bases before) before after answer
  pub told_size : size ≡ length_word answer
  pub told : words ≡ length_refusal answer
