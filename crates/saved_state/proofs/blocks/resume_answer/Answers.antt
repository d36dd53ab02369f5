-- `saved_state::blocks::resume_answer` meets its contract. Assumes nothing.
use mathlib.Core.Path.{◌≡◌}
use Prim.Native.Nat.{ℕ, ◌-◌}
use Rattle.line_totals.specs.declared.Totals.{Totals}
use Rattle.saved_state.specs.Calls.{since_counted}
use Rattle.read_block.specs.Inside.{walked_counted}
use Rattle.read_block.specs.declared.Counted.{Counted}
use Rattle.saved_state.proofs.blocks.resume_answer.Goals as goal
use Rattle.std.specs.Prelude.{Result}
use Rattle.line_totals.specs.declared.TightLines.{TightLines}

since_is : (b at : ℕ) (w : Result (Totals × TightLines) (ℕ × Totals)) (all : Counted) (t : Totals) → all ≡ walked_counted b w
    → t ≡ record { bits = all.totals.bits - at; long = all.totals.long } → ◌≡◌ {A = Counted} (record { answer = all.answer; totals = t }) (since_counted b at w)
since_is b at w all t ea et = rw (et, ea)

pub returns : goal.returns
returns c = since_is c.args.b c.args.at c.args.got _ _ c.read_answer-all.ensures c.since-totals.ensures
