-- Promises. Lengths of tight blocks: the header's bound holds of all of them, and measuring answers the length that the writer does.
use Rattle.std.specs.Prelude.{true, List, ◌↔◌, ◌≢◌, ◌≡◌, ℕ, ◌≤◌, ◌<◌, length, Err, Ok, Result}
use Rattle.stream.specs.Headers.{parse_of}
use Rattle.stream.specs.Lengths.{length_bound}
use Rattle.stream.specs.declared.header.FujiHeader.{FujiHeader}
use Rattle.stream.specs.declared.header.Refusal.{Refusal}
use Rattle.stream.specs.declared.header.Refusal.TheVariants.{ShortOutput}
use Rattle.admission.specs.Writings.{writing_begins}
use Rattle.read_block.specs.Images.{form_of}
use Rattle.read_block.specs.Lent.{Scratch, Outputs}
use Rattle.read_block.specs.TightBlocks.{Tight}
use Rattle.write_block.specs.WrittenAnswers.{LeftWritten, LeftMeasured}

-- no tight block under a lossless header is longer than the bound that `length_bound` answers
abbrev pub Bounds : Type 0
Bounds =
    (d : List ℕ) (h : FujiHeader) → parse_of d ≡ Ok h → h.lossless ≡ true
    → (s : List ℕ) → Tight (form_of h) h.lines s → length s ≤ length_bound h

-- what the writer answers with so many bytes of output, by what measuring answers
pub record Agrees (room : ℕ) (measured written : Result ℕ Refusal) : Type 0 where
  -- the length n exactly if that is measured and there is room for it
  pub length_is : (n : ℕ) → (written ≡ Ok n) ↔ ((measured ≡ Ok n) × (n ≤ room))
  -- 13 exactly if a length is measured that there is no room for
  pub short : (written ≡ Err ShortOutput) ↔ ((n : ℕ) × ((measured ≡ Ok n) × (room < n)))
  -- every other refusal exactly if measuring is refused so
  pub refused : (x : Refusal) → x ≢ ShortOutput → (written ≡ Err x) ↔ (measured ≡ Err x)
  -- and measuring never answers 13
  pub never_short : measured ≢ Err ShortOutput

-- a call of the writer and one that measures, with one header, one set and scratch of one size
abbrev pub AgreementOfCalls : Type 0
AgreementOfCalls =
    (d t : List ℕ) (samples records : ℕ) (before after : Outputs) (written : Result ℕ Refusal) (before' after' : Scratch) (measured : Result ℕ Refusal)
    → LeftWritten t (writing_begins d (length t) samples records) before after written
    → LeftMeasured t (writing_begins d (length t) samples records) before' after' measured
    → Agrees (length before.out) measured written

-- a length that is measured is within the bound, and so an output of that many bytes is never too short
abbrev pub MeasuredWithinBound : Type 0
MeasuredWithinBound =
    (d t : List ℕ) (h : FujiHeader) (samples records : ℕ) (before after : Scratch) (n : ℕ) → parse_of d ≡ Ok h
    → LeftMeasured t (writing_begins d (length t) samples records) before after (Ok n) → n ≤ length_bound h
