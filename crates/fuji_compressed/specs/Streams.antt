-- Promises. A header, a width and a range as words, all 0 where it is refused.
use Rattle.std.specs.Prelude.{List, [], ◌∷◌, ℕ, replicate, Err, Ok, Result}
use Rattle.stream.specs.Words.{header_words}
use Rattle.bits.specs.declared.ByteOffset.{ByteOffset}
use Rattle.stream.specs.declared.header.FujiHeader.{FujiHeader}
use Rattle.stream.specs.declared.header.Refusal.{Refusal}

abbrev pub parsed_words : Result FujiHeader Refusal → List ℕ
parsed_words (Ok h) = header_words h
parsed_words (Err r) = replicate 9 0

-- an offset and a length
abbrev pub ranged_words : Result (ByteOffset × ℕ) Refusal → List ℕ
ranged_words (Ok (from, n)) = from.0 ∷ n ∷ []
ranged_words (Err r) = replicate 2 0

abbrev pub width_words : Result ℕ Refusal → List ℕ
width_words (Ok n) = n ∷ []
width_words (Err r) = replicate 1 0
