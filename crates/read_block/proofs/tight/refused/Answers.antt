-- `read_block::tight::refused` meets its contract. Assumes nothing.
use mathlib.Core.Path.{◌≡◌}
use Rattle.line_totals.specs.Totals.{no_totals}
use Rattle.line_totals.specs.declared.Totals.{Totals}
use Rattle.stream.specs.declared.header.Refusal.{Refusal}
use Rattle.read_block.specs.Totals.{refused_by}
use Rattle.read_block.proofs.tight.refused.Goals as goal
use Rattle.std.specs.Prelude.{Err}

with_none : (x : Refusal) (t : Totals) → t ≡ no_totals → record { answer = Err x; totals = t } ≡ refused_by x
with_none x t e = rw e

pub returns : goal.returns
returns c = with_none _ _ c.none-totals.ensures
