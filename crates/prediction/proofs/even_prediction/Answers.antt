-- `prediction::even_prediction` meets its contract. Assumes nothing.
use mathlib.Core.Path.{◌≡◌}
use Prim.Native.Nat.{ℕ, ◌+◌, ◌-◌, ◌*◌, ◌/◌, ◌^◌}
use native.Mathlib.Omega.{arith}
use lib.Pow.{le_ones, lt_of_le_ones}
use Rattle.numbers.specs.Numbers.{distance}
use Rattle.prediction.specs.Predictions.{dropped_of, even_prediction}
use Rattle.prediction.proofs.PredictionLaws.{even_le}
use Rattle.prediction.proofs.even_prediction.Goals as goal

made : (rf rc rb rd f c d x : ℕ) → f ≡ distance rb rf → c ≡ distance rc rb → d ≡ distance rd rb → x ≡ dropped_of rf rc rd f c d
    → (rf + rc + rd - x + 2 * rb) / 4 ≡ even_prediction rf rc rb rd
unfolding even_prediction
made rf rc rb rd f c d x ef ec ed ex = let turned : f ≡ distance rf rb = omega arith in rw (ex, turned, ec, ed)

pub returns : goal.returns
returns c =
    let e = made c.args.rf c.args.rc c.args.rb c.args.rd _ _ _ c.dropped.result c.abs_diff-f.ensures c.abs_diff-c.ensures c.abs_diff-d.ensures c.dropped.ensures.0 in
    let l = even_le (2 ^ 16 - 1) c.args.rf c.args.rc c.args.rb c.args.rd (le_ones 16 c.requires.0) (le_ones 16 c.requires.1.0) (le_ones 16 c.requires.1.1.0) (le_ones 16 c.requires.1.1.1) in
    (e, rw e (lt_of_le_ones 16 l))
