-- `prediction::odd` meets its contract. Assumes nothing.
use mathlib.Core.Path.{◌≡◌, ap}
use Prim.Native.Nat.{ℕ}
use native.Mathlib.Omega.{arith}
use Rattle.numbers.specs.Numbers.{minus}
use Rattle.numbers.specs.declared.Signed.{Signed}
use Rattle.prediction.specs.Predictions.{odd_prediction, odd_context}
use Rattle.prediction.specs.declared.Context.{Context}
use Rattle.prediction.proofs.odd.Goals as goal

made : (ra rg rb rc rd p : ℕ) (x y : Signed) → p ≡ odd_prediction ra rg rb rc rd → x ≡ minus rb rc → y ≡ minus rc ra
    → ◌≡◌ {A = Context} (record { prediction = p; first = x; second = y }) (odd_context ra rg rb rc rd)
unfolding odd_context
made ra rg rb rc rd p x y ep ex ey = rw (ep, ex, ey)

pub returns : goal.returns
returns c =
    let ex = ap (λ (v : Signed). v.size) c.difference.ensures in
    let ey = ap (λ (v : Signed). v.size) c.difference-2.ensures in (
      made _ _ _ _ _ c.odd_prediction.result c.difference.result c.difference-2.result c.odd_prediction.ensures.0 c.difference.ensures c.difference-2.ensures,
      record { prediction = c.odd_prediction.ensures.1; first = omega arith; second = omega arith },
    )
