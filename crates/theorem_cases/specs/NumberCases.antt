-- Promises. Worked cases for every number of the two lists of refusals, and for the reasons why a code is bad.
use Rattle.std.specs.Prelude.{true, false, ◌&&◌, List, [], ◌∷◌, ◌≡◌, ℕ, ◌/◌, ◌^◌, leb, ltb, Some, None}
use Rattle.bits.specs.declared.BitPosition.{BitPosition}
use Rattle.code.specs.Codes.{code_at}
use Rattle.code.specs.Reasons.{reason_of}
use Rattle.code.specs.declared.Code.{Code}
use Rattle.code.specs.declared.reasons.Reason.TheVariants.{Large, Escape, Zeros}
use Rattle.stream.specs.Refusals.{Meaning, meaning_of, refusal_words}
use Rattle.stream.specs.declared.header.Refusal.TheVariants.{ShortHeader, BadHeader, ShortSizes, ShortBases, NoBlock, WrongSize, OutsideImage, Lossy}
use Rattle.stream.specs.declared.header.Refusal.TheVariants.{WrongCount, ShortScratch, AboveLargest, NotPredicted, ShortOutput, Truncated, NotTight}
use Rattle.stream.specs.declared.header.Refusal.TheVariants.{Lossless, WrongBases, BadRecord, HeldTwice, NotHeld, BadState, OtherState, NoEntry}
use Rattle.stream.specs.declared.header.Refusal.TheVariants.{OutsideSheet, WrongLengths, LongBlock}
use Rattle.tight_diagnosis.specs.Faults.{reason_word, fault_words}
use Rattle.tight_diagnosis.specs.declared.Fault.TheVariants as Fault

-- a refusal that names nothing; a block; a line; an index; a block and its line
abbrev pub says : (number : ℕ) → Meaning
says number = record { number = number; block = None; line = None; index = None }

abbrev pub says_block : (number block : ℕ) → Meaning
says_block number block = record { number = number; block = Some block; line = None; index = None }

abbrev pub says_line : (number line : ℕ) → Meaning
says_line number line = record { number = number; block = None; line = Some line; index = None }

abbrev pub says_index : (number index : ℕ) → Meaning
says_index number index = record { number = number; block = None; line = None; index = Some index }

abbrev pub says_line_of : (number block line : ℕ) → Meaning
says_line_of number block line = record { number = number; block = Some block; line = Some line; index = None }

-- each refusal's number and the values that it names, in the order of the papers
pub record RefusalNumbers : Type 0 where
  -- document 01
  pub n1 : meaning_of ShortHeader ≡ says 1
  pub n2 : meaning_of BadHeader ≡ says 2
  pub n3 : meaning_of ShortSizes ≡ says 3
  pub n4 : (block : ℕ) → meaning_of (ShortBases block) ≡ says_block 4 block
  pub n5 : meaning_of NoBlock ≡ says 5
  pub n6 : meaning_of WrongSize ≡ says 6
  pub n7 : meaning_of OutsideImage ≡ says 7
  pub n8 : meaning_of Lossy ≡ says 8
  pub n9 : meaning_of WrongCount ≡ says 9
  pub n10 : meaning_of ShortScratch ≡ says 10
  pub n11 : (index : ℕ) → meaning_of (AboveLargest index) ≡ says_index 11 index
  pub n12 : (index : ℕ) → meaning_of (NotPredicted index) ≡ says_index 12 index
  pub n13 : meaning_of ShortOutput ≡ says 13
  pub n14 : (block line : ℕ) → meaning_of (Truncated block line) ≡ says_line_of 14 block line
  pub n15 : (line : ℕ) → meaning_of (NotTight line) ≡ says_line 15 line
  -- document 02
  pub n16 : meaning_of Lossless ≡ says 16
  pub n17 : meaning_of WrongBases ≡ says 17
  pub n18 : (index : ℕ) → meaning_of (BadRecord index) ≡ says_index 18 index
  pub n19 : (line : ℕ) → meaning_of (HeldTwice line) ≡ says_line 19 line
  pub n20 : (line : ℕ) → meaning_of (NotHeld line) ≡ says_line 20 line
  pub n21 : meaning_of BadState ≡ says 21
  pub n22 : meaning_of OtherState ≡ says 22
  pub n23 : (block line : ℕ) → meaning_of (NoEntry block line) ≡ says_line_of 23 block line
  pub n24 : meaning_of OutsideSheet ≡ says 24
  -- whole streams
  pub n25 : meaning_of WrongLengths ≡ says 25
  pub n26 : (block : ℕ) → meaning_of (LongBlock block) ≡ says_block 26 block
  -- as words for C: number, block, line, index
  pub words_14 : (block line : ℕ) → refusal_words (Truncated block line) ≡ 14 ∷ block ∷ line ∷ 0 ∷ []
  pub words_12 : (index : ℕ) → refusal_words (NotPredicted index) ≡ 12 ∷ 0 ∷ 0 ∷ index ∷ []

-- ---- reasons

-- at 14 bits, limit 41 and raw 14, with k 9: 41 zeros, a one and 14 ones. The code is 16384, which is 2^14, and its short form would fit
abbrev pub bytes_of_both : List ℕ
bytes_of_both = 0 ∷ 0 ∷ 0 ∷ 0 ∷ 0 ∷ 0x7F ∷ 0xFF ∷ []

abbrev pub code_of_both : Code
code_of_both = record { zeros = 41; value = 16384; minimal = false; long = true; used = 56; after = record { 0 = 56 } }

-- with k 8: 42 zeros, a one and 14 zeros. The short form fits, and there is a zero too many
abbrev pub bytes_of_escape : List ℕ
bytes_of_escape = 0 ∷ 0 ∷ 0 ∷ 0 ∷ 0 ∷ 0x20 ∷ 0 ∷ 0 ∷ []

abbrev pub code_of_escape : Code
code_of_escape = record { zeros = 42; value = 1; minimal = false; long = true; used = 57; after = record { 0 = 57 } }

-- with k 0: 42 zeros, a one and 14 bits of the number 99. The short form does not fit
abbrev pub bytes_of_zeros : List ℕ
bytes_of_zeros = 0 ∷ 0 ∷ 0 ∷ 0 ∷ 0 ∷ 0x20 ∷ 0x31 ∷ 0x80 ∷ []

abbrev pub code_of_zeros : Code
code_of_zeros = record { zeros = 42; value = 100; minimal = false; long = true; used = 57; after = record { 0 = 57 } }

-- with k 0: 41 zeros, a one and the same 14 bits: tight
abbrev pub bytes_of_tight : List ℕ
bytes_of_tight = 0 ∷ 0 ∷ 0 ∷ 0 ∷ 0 ∷ 0x40 ∷ 0x63 ∷ []

abbrev pub code_of_tight : Code
code_of_tight = record { zeros = 41; value = 100; minimal = true; long = true; used = 56; after = record { 0 = 56 } }

pub record ReasonCases : Type 0 where
  -- both `large` and `escape` hold: `large` is given
  pub both_read : code_at bytes_of_both 0 9 41 14 ≡ Some code_of_both
  pub both_hold : (ltb 16383 code_of_both.value ≡ true) × ((leb 41 code_of_both.zeros && ltb (code_of_both.value / 2 ^ 9) 41) ≡ true)
  pub both : reason_of 16383 9 41 code_of_both ≡ Some Large
  -- both `escape` and `zeros` hold: `escape` is given
  pub escape_read : code_at bytes_of_escape 0 8 41 14 ≡ Some code_of_escape
  pub escape : reason_of 16383 8 41 code_of_escape ≡ Some Escape
  -- `zeros` alone, and none
  pub zeros_read : code_at bytes_of_zeros 0 0 41 14 ≡ Some code_of_zeros
  pub zeros : reason_of 16383 0 41 code_of_zeros ≡ Some Zeros
  pub tight_read : code_at bytes_of_tight 0 0 41 14 ≡ Some code_of_tight
  pub tight : reason_of 16383 0 41 code_of_tight ≡ None
  -- the numbers for C: 1 large, 2 escape, 3 zeros, 4 tail
  pub large_word : reason_word Large ≡ 1
  pub escape_word : reason_word Escape ≡ 2
  pub zeros_word : reason_word Zeros ≡ 3
  pub tail_words : (lines : ℕ) (at : BitPosition) → fault_words (Some (Fault.Tail lines at)) ≡ lines ∷ 0 ∷ 0 ∷ 0 ∷ at.0 ∷ 4 ∷ []
