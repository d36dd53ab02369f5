-- Promises. What a call of `put_front` from C leaves: what the same call leaves here, with the length, 0 where it is refused, and a refusal's words.
use Rattle.std.specs.Prelude.{List, ◌≡◌, ℕ, Result}
use Rattle.stream.specs.Headers.{parse_of}
use Rattle.stream.specs.Lengths.{length_word, length_refusal}
use Rattle.stream_front.specs.Fronts.{LeftFront}
use Rattle.stream.specs.declared.header.Refusal.{Refusal}

pub record ToldFront (d rows lengths out out' size words : List ℕ) : Type 0 where
  pub answer : Result ℕ Refusal
  pub left : LeftFront d rows lengths (parse_of d) out out' answer
  pub told_size : size ≡ length_word answer
  pub told : words ≡ length_refusal answer
