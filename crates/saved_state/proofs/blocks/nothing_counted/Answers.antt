-- `saved_state::blocks::nothing_counted` meets its contract. Assumes nothing.
use mathlib.Core.Path.{◌≡◌}
use Rattle.line_totals.specs.Totals.{no_totals}
use Rattle.line_totals.specs.declared.Totals.{Totals}
use Rattle.read_block.specs.declared.Counted.{Counted}
use Rattle.saved_state.proofs.blocks.nothing_counted.Goals as goal
use Rattle.std.specs.Prelude.{Ok}

of_none : (t : Totals) → t ≡ no_totals → ◌≡◌ {A = Counted} (record { answer = (Ok tt); totals = t }) (record { answer = (Ok tt); totals = no_totals })
of_none t e = rw e

pub returns : goal.returns
returns c = of_none _ c.none-totals.ensures
