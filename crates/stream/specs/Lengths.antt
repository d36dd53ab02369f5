-- Rules. The length of a block in bytes: a bound by the header alone, and a length as C gets it.
use Rattle.std.specs.Prelude.{cond, List, [], ◌∷◌, ℕ, ◌*◌, Err, Ok, Result}
use Rattle.stream.specs.Refusals.{refusal_in}
use Rattle.stream.specs.declared.header.FujiHeader.{FujiHeader}
use Rattle.stream.specs.declared.header.Refusal.TheVariants.{Lossy}
use Rattle.stream.specs.declared.header.Refusal.{Refusal}

-- a line has 4608 codes, and a tight code has at most 4·bits bits
abbrev pub length_bound : FujiHeader → ℕ
length_bound h = h.lines * 2304 * h.bits

-- refusal 8 after those of the header, or the bound
abbrev pub bound_answer : Result FujiHeader Refusal → Result ℕ Refusal
bound_answer (Err x) = Err x
bound_answer (Ok h) = cond h.lossless (Ok (length_bound h)) (Err Lossy)

-- ---- for C

-- the length, 0 where it is refused
abbrev pub length_word : Result ℕ Refusal → List ℕ
length_word (Ok n) = n ∷ []
length_word (Err x) = 0 ∷ []

abbrev pub length_refusal : Result ℕ Refusal → List ℕ
length_refusal a = refusal_in a
