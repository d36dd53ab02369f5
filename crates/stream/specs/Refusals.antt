-- Promises. The refusals: the number of each, and the values that it names.
use Rattle.std.specs.Prelude.{ℕ, List, [], ◌∷◌, None, Option, Some, Result, Ok, Err}
use Rattle.stream.specs.declared.header.Refusal.{Refusal}
use Rattle.stream.specs.declared.header.Refusal.TheVariants.{ShortHeader, BadHeader, ShortSizes, ShortBases, NoBlock, WrongSize, OutsideImage, Lossy, WrongCount, ShortScratch, AboveLargest, NotPredicted, ShortOutput, Truncated, NotTight, Lossless, WrongBases, BadRecord, HeldTwice, NotHeld, BadState, OtherState, NoEntry, OutsideSheet, WrongLengths, LongBlock}

-- what a refusal says: its number, and the block, the line and the index that it names
pub record Meaning : Type 0 where
  pub number : ℕ
  pub block : Option ℕ
  pub line : Option ℕ
  pub index : Option ℕ

abbrev naming : ℕ → Option ℕ → Option ℕ → Option ℕ → Meaning
naming n b l i = record { number = n; block = b; line = l; index = i }

-- each refusal, by its number
abbrev pub meaning_of : Refusal → Meaning
meaning_of ShortHeader = naming 1 None None None
meaning_of BadHeader = naming 2 None None None
meaning_of ShortSizes = naming 3 None None None
meaning_of (ShortBases block) = naming 4 (Some block) None None
meaning_of NoBlock = naming 5 None None None
meaning_of WrongSize = naming 6 None None None
meaning_of OutsideImage = naming 7 None None None
meaning_of Lossy = naming 8 None None None
meaning_of WrongCount = naming 9 None None None
meaning_of ShortScratch = naming 10 None None None
meaning_of (AboveLargest index) = naming 11 None None (Some index)
meaning_of (NotPredicted index) = naming 12 None None (Some index)
meaning_of ShortOutput = naming 13 None None None
meaning_of (Truncated block line) = naming 14 (Some block) (Some line) None
meaning_of (NotTight line) = naming 15 None (Some line) None
meaning_of Lossless = naming 16 None None None
meaning_of WrongBases = naming 17 None None None
meaning_of (BadRecord index) = naming 18 None None (Some index)
meaning_of (HeldTwice line) = naming 19 None (Some line) None
meaning_of (NotHeld line) = naming 20 None (Some line) None
meaning_of BadState = naming 21 None None None
meaning_of OtherState = naming 22 None None None
meaning_of (NoEntry block line) = naming 23 (Some block) (Some line) None
meaning_of OutsideSheet = naming 24 None None None
meaning_of WrongLengths = naming 25 None None None
meaning_of (LongBlock block) = naming 26 (Some block) None None

abbrev pub refusal_number : Refusal → ℕ
refusal_number r = (meaning_of r).number

-- ---- for C

-- a value that is not named is 0
abbrev pub or_zero : Option ℕ → ℕ
or_zero None = 0
or_zero (Some n) = n

-- number, block, line, index
abbrev pub words_of : Meaning → List ℕ
words_of m = m.number ∷ or_zero m.block ∷ or_zero m.line ∷ or_zero m.index ∷ []

abbrev pub refusal_words : Refusal → List ℕ
refusal_words r = words_of (meaning_of r)

-- all 0 where nothing is refused
abbrev pub no_refusal : List ℕ
no_refusal = 0 ∷ 0 ∷ 0 ∷ 0 ∷ []

-- an answer's refusal as words
abbrev pub refusal_in : {T : Type 0} → Result T Refusal → List ℕ
refusal_in (Ok x) = no_refusal
refusal_in (Err r) = refusal_words r
