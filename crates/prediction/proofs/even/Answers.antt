-- `prediction::even` meets its contract. Assumes nothing.
use mathlib.Core.Path.{◌≡◌, ap}
use Prim.Native.Nat.{ℕ}
use native.Mathlib.Omega.{arith}
use Rattle.numbers.specs.Numbers.{minus}
use Rattle.numbers.specs.declared.Signed.{Signed}
use Rattle.prediction.specs.Predictions.{even_prediction, even_context}
use Rattle.prediction.specs.declared.Context.{Context}
use Rattle.prediction.proofs.even.Goals as goal

made : (rf rc rb rd p : ℕ) (x y : Signed) → p ≡ even_prediction rf rc rb rd → x ≡ minus rb rf → y ≡ minus rc rb
    → ◌≡◌ {A = Context} (record { prediction = p; first = x; second = y }) (even_context rf rc rb rd)
unfolding even_context
made rf rc rb rd p x y ep ex ey = rw (ep, ex, ey)

pub returns : goal.returns
returns c =
    let ex = ap (λ (v : Signed). v.size) c.difference.ensures in
    let ey = ap (λ (v : Signed). v.size) c.difference-2.ensures in (
      made _ _ _ _ c.even_prediction.result c.difference.result c.difference-2.result c.even_prediction.ensures.0 c.difference.ensures c.difference-2.ensures,
      record { prediction = c.even_prediction.ensures.1; first = omega arith; second = omega arith },
    )
