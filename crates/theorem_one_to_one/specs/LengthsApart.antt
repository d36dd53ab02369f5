-- Promises. Item 2, lengths of two calls: the length that is measured and the length that is written are equal, each call with scratch of its own size.
use Rattle.std.specs.Prelude.{List, ◌≢◌, ◌≡◌, ℕ, length, Err, Ok, Result}
use Rattle.stream.specs.declared.header.Refusal.TheVariants.{ShortScratch}
use Rattle.admission.specs.Writings.{writing_begins}
use Rattle.read_block.specs.Lent.{Scratch, Outputs}
use Rattle.write_block.specs.WrittenAnswers.{LeftWritten, LeftMeasured}
use Rattle.theorem_one_to_one.specs.Lengths.{Agrees}
use Rattle.stream.specs.declared.header.Refusal.{Refusal}

-- a call of `write_block`, and one of `measure_block`, by what they promise
abbrev pub WriteCall : (d t : List ℕ) (before after : Outputs) → Result ℕ Refusal → Type 0
WriteCall d t before after answer = LeftWritten t (writing_begins d (length t) (length before.lines) (length before.records)) before after answer

abbrev pub MeasureCall : (d t : List ℕ) (before after : Scratch) → Result ℕ Refusal → Type 0
MeasureCall d t before after answer = LeftMeasured t (writing_begins d (length t) (length before.lines) (length before.records)) before after answer

-- with one header and one set, where neither is refused by 10, the answers agree
abbrev pub LengthsApart : Type 0
LengthsApart =
    (d t : List ℕ) (before after : Outputs) (written : Result ℕ Refusal) (before' after' : Scratch) (measured : Result ℕ Refusal)
    → WriteCall d t before after written → MeasureCall d t before' after' measured → written ≢ Err ShortScratch → measured ≢ Err ShortScratch
    → Agrees (length before.out) measured written

-- so two lengths are one
abbrev pub LengthsEqual : Type 0
LengthsEqual =
    (d t : List ℕ) (before after : Outputs) (n : ℕ) (before' after' : Scratch) (m : ℕ)
    → WriteCall d t before after (Ok n) → MeasureCall d t before' after' (Ok m) → n ≡ m
