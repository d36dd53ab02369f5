-- Inside. What only our own functions say.
use Rattle.std.specs.Prelude.{Bool, cond, ◌&&◌, ℕ, ◌+◌, eqb}
use Rattle.line_totals.specs.declared.Totals.{Totals}
use Rattle.line_totals.specs.declared.TightLines.{TightLines}

-- line n joins the tight lines if all lines before it are among them and its codes are tight
abbrev pub with_line : TightLines → ℕ → Bool → Totals → TightLines
with_line before n tight totals = cond (eqb before.lines n && tight) (record { lines = n + 1; totals = totals }) before
