-- Inside. What only our own functions say.
use Rattle.std.specs.Prelude.{List, ℕ, ◌+◌, ◌*◌, eqb, take, drop}
use Rattle.code.specs.declared.Place.{Place}
use Rattle.line_totals.specs.declared.Totals.{Totals}
use Rattle.line_totals.specs.declared.TightLines.{TightLines}
use Rattle.colour_lines.specs.Sets.{line_of_rank}
use Rattle.pass_schedule.specs.Steps.{upto}

-- the twelve colour lines of these lines, W samples each, without guards
unfoldable pub twelve : ℕ → List ℕ → List ℕ
twelve W lines = upto (λ c. take W (drop (line_of_rank c * (W + 2) + 1) lines)) 12

-- the place that one line left, by what was counted up to there and whether that line is among the tight ones
abbrev pub next_place : Totals → TightLines → Place
next_place all tight = record { at = record { 0 = all.bits }; tight = eqb tight.lines 1; long = all.long }
