-- Promises. Item 5: samples at interpolated positions are ignored, by refusal 11 too. Assumes nothing.
use Rattle.std.specs.Prelude.{Bool, false, List, ◌≡◌, ℕ, ◌<◌, length, get_or, Ok, Result}
use Rattle.pass_schedule.specs.Steps.{is_interpolated}
use Rattle.image_map.specs.Places.{width_of}
use Rattle.colour_lines.specs.Sets.{colour_line_at, position_at}
use Rattle.stream.specs.Headers.{parse_of}
use Rattle.stream.specs.declared.header.FujiHeader.{FujiHeader}
use Rattle.admission.specs.Writings.{lossy_begins}
use Rattle.read_block.specs.Lent.{Outputs}
use Rattle.write_block.specs.WrittenAnswers.{LeftLossy}
use Rattle.stream.specs.declared.header.Refusal.{Refusal}

-- two sets of one size that have the same samples at all positions that are not interpolated
pub record SameWhereCoded (xtrans : Bool) (t u : List ℕ) : Type 0 where
  pub as_long : length t ≡ length u
  pub same : let W = width_of xtrans in
      (j : ℕ) → j < length t → is_interpolated xtrans (colour_line_at W j) (position_at W j) ≡ false → get_or t j 0 ≡ get_or u j 0

-- two calls of `write_lossy` with such sets answer the same and leave the same output and scratch
abbrev pub IgnoredSamples : Type 0
IgnoredSamples =
    (d bases t u : List ℕ) (h : FujiHeader) (before after after' : Outputs) (answer answer' : Result ℕ Refusal)
    → parse_of d ≡ Ok h → SameWhereCoded h.xtrans t u
    → LeftLossy bases t (lossy_begins d (length bases) (length t) (length before.lines) (length before.records)) before after answer
    → LeftLossy bases u (lossy_begins d (length bases) (length u) (length before.lines) (length before.records)) before after' answer'
    → (answer ≡ answer') × (after ≡ after')
