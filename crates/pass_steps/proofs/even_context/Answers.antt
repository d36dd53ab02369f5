-- `pass_steps::even_context` meets its contract. Assumes nothing.
use mathlib.Core.List.{List}
use mathlib.Core.Path.{◌≡◌}
use Prim.Native.Nat.{ℕ, ◌+◌, ◌-◌, ◌*◌}
use lib.ListN.{get_or}
use Rattle.prediction.specs.Predictions.{even_context}
use Rattle.prediction.specs.declared.Context.{Context}
use Rattle.pass_steps.specs.Values.{even_at}
use Rattle.pass_steps.proofs.even_context.Goals as goal

made : (lines : List ℕ) (S i rf rc rb rd : ℕ) (x : Context) → rf ≡ get_or lines (i + 1 - 2 * S) 0 → rc ≡ get_or lines (i - S) 0
    → rb ≡ get_or lines (i + 1 - S) 0 → rd ≡ get_or lines (i + 2 - S) 0 → x ≡ even_context rf rc rb rd → x ≡ even_at lines S i
unfolding even_at
made lines S i rf rc rb rd x ef ec eb ed e = rw (e, ef, ec, eb, ed)

pub returns : goal.returns
returns c =
    (made _ c.args.s c.args.i _ _ _ _ _ c.from.ensures c.from-2.ensures c.from-3.ensures c.from-4.ensures c.even.ensures.0, c.even.ensures.1)
