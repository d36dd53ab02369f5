-- `pass_steps::odd_context` meets its contract. Assumes nothing.
use mathlib.Core.List.{List}
use mathlib.Core.Path.{◌≡◌}
use Prim.Native.Nat.{ℕ, ◌+◌, ◌-◌}
use lib.ListN.{get_or}
use Rattle.prediction.specs.Predictions.{odd_context}
use Rattle.prediction.specs.declared.Context.{Context}
use Rattle.pass_steps.specs.Values.{odd_at}
use Rattle.pass_steps.proofs.odd_context.Goals as goal

made : (lines : List ℕ) (S i ra rg rb rc rd : ℕ) (x : Context) → ra ≡ get_or lines i 0 → rg ≡ get_or lines (i + 2) 0 → rb ≡ get_or lines (i + 1 - S) 0
    → rc ≡ get_or lines (i - S) 0 → rd ≡ get_or lines (i + 2 - S) 0 → x ≡ odd_context ra rg rb rc rd → x ≡ odd_at lines S i
unfolding odd_at
made lines S i ra rg rb rc rd x ea eg eb ec ed e = rw (e, ea, eg, eb, ec, ed)

pub returns : goal.returns
returns c =
    let e = made _ c.args.s c.args.i _ _ _ _ _ _ c.from.ensures c.from-2.ensures c.from-3.ensures c.from-4.ensures c.from-5.ensures in
    (e c.odd.ensures.0, c.odd.ensures.1)
