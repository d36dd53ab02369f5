-- Promises. Calls that are refused before anything is read or written, worked out: which refusal each gets, and which comes first. Their numbers are in
-- NumberCases.
use Rattle.std.specs.Prelude.{List, [], ◌∷◌, ◌++◌, ◌≡◌, ℕ, Err, None, Ok}
use Rattle.stream.specs.Headers.{parse_of}
use Rattle.stream.specs.Streams.{open_of}
use Rattle.stream.specs.declared.header.Refusal.TheVariants.{ShortHeader, ShortBases, NoBlock, WrongSize, OutsideImage, Lossy, WrongCount, ShortScratch}
use Rattle.stream.specs.declared.header.Refusal.TheVariants.{Lossless, WrongBases, BadRecord, HeldTwice, NotHeld, OutsideSheet}
use Rattle.image_region.specs.declared.Rect.{Rect}
use Rattle.admission.specs.Beginnings.{region_begins, image_begins, read_begins, tight_begins}
use Rattle.admission.specs.Writings.{writing_begins, lossy_begins}
use Rattle.base_plan.specs.Plans.{planned_answer}
use Rattle.short_codes.specs.Sheets.{listed_answer}
use Rattle.theorem_cases.specs.Cases.{bytes_k}

-- the lossless stream of case l, with one block and one line of 14 bits: 768 columns, 6 rows, W 384
abbrev pub lossless_stream : List ℕ
lossless_stream = bytes_k 0x0E ++ 0 ∷ 0 ∷ 0 ∷ 0 ∷ []

-- that header, lossy; with a size, no base row; and with a size, padding and a base row of one byte
abbrev pub lossy_header : List ℕ
lossy_header =
    0x49 ∷ 0x53 ∷ 0x00 ∷ 0x00 ∷ 0x0E ∷ 0x00 ∷ 0x06 ∷ 0x03 ∷ 0x00 ∷ 0x03 ∷ 0x00 ∷ 0x03 ∷ 0x00 ∷ 0x01 ∷ 0x00 ∷ 0x01 ∷ []

abbrev pub lossy_without_bases : List ℕ
lossy_without_bases = lossy_header ++ 0 ∷ 0 ∷ 0 ∷ 0 ∷ []

abbrev pub lossy_stream : List ℕ
lossy_stream = lossy_header ++ 0 ∷ 0 ∷ 0 ∷ 0 ∷ 0 ∷ 0 ∷ 0 ∷ 0 ∷ 0 ∷ 0 ∷ 0 ∷ 0 ∷ 0 ∷ 0 ∷ 0 ∷ 0 ∷ 7 ∷ []

abbrev pub rows : (height : ℕ) → Rect
rows height = record { x = 0; y = 0; width = 768; height = height }

-- 18·(W + 2) is 6948, and the set has 12·W = 4608 samples
pub record RefusedCalls : Type 0 where
  pub n1 : parse_of [] ≡ Err ShortHeader
  pub n4 : open_of lossy_without_bases ≡ Err (ShortBases 0)
  pub n5 : read_begins lossless_stream 1 6948 336 ≡ Err NoBlock
  pub n6 : image_begins lossless_stream 768 12 9216 6948 336 ≡ Err WrongSize
  -- the edge is passed; the image is a sample short
  pub n7_edge : region_begins lossless_stream (rows 7) 9216 6948 336 ≡ Err OutsideImage
  pub n7_image : region_begins lossless_stream (rows 6) 4607 6948 336 ≡ Err OutsideImage
  -- an empty region returns before 10
  pub n7_empty : region_begins lossless_stream (rows 0) 0 0 0 ≡ (Ok None)
  pub n8_tight : tight_begins lossy_stream 0 6948 336 ≡ Err Lossy
  pub n8_writer : writing_begins lossy_header 4608 6948 336 ≡ Err Lossy
  pub n9 : writing_begins (bytes_k 0x0E) 4607 6948 336 ≡ Err WrongCount
  pub n10_samples : writing_begins (bytes_k 0x0E) 4608 6947 336 ≡ Err ShortScratch
  pub n10_records : writing_begins (bytes_k 0x0E) 4608 6948 335 ≡ Err ShortScratch
  -- in checking order: 5 before 8, 8 before 9, 9 before 10
  pub before_8 : tight_begins lossy_stream 1 0 0 ≡ Err NoBlock
  pub before_9 : writing_begins lossy_header 0 0 0 ≡ Err Lossy
  pub before_10 : writing_begins (bytes_k 0x0E) 0 0 0 ≡ Err WrongCount
  -- the lossy writer: 16 in the place of 8, 17 straight after it
  pub n16 : lossy_begins (bytes_k 0x0E) 0 0 0 0 ≡ Err Lossless
  pub n17 : lossy_begins lossy_header 2 0 0 0 ≡ Err WrongBases
  pub after_17 : lossy_begins lossy_header 1 0 0 0 ≡ Err WrongCount
  -- plans for one line: no text, a newline alone, and twice the record of line 0 with base 5
  pub plan_16 : planned_answer (bytes_k 0x0E) (10 ∷ []) 2 ≡ Err Lossless
  pub plan_17 : planned_answer lossy_header (10 ∷ []) 2 ≡ Err WrongBases
  pub n18 : planned_answer lossy_header (10 ∷ []) 1 ≡ Err (BadRecord 1)
  pub n19 : planned_answer lossy_header (48 ∷ 9 ∷ 48 ∷ 9 ∷ 53 ∷ 10 ∷ 48 ∷ 9 ∷ 48 ∷ 9 ∷ 53 ∷ 10 ∷ []) 1 ≡ Err (HeldTwice 0)
  pub n20 : planned_answer lossy_header [] 1 ≡ Err (NotHeld 0)
  -- a depth of 13, a k of 16, a length of 0 and of 17
  pub n24_depth : listed_answer 13 0 1 ≡ Err OutsideSheet
  pub n24_k : listed_answer 12 16 1 ≡ Err OutsideSheet
  pub n24_none : listed_answer 12 0 0 ≡ Err OutsideSheet
  pub n24_long : listed_answer 12 0 17 ≡ Err OutsideSheet
