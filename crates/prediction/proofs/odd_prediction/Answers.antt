-- `prediction::odd_prediction` meets its contract. Assumes nothing.
use mathlib.Core.Bool.{Bool, cond}
use mathlib.Core.Path.{◌≡◌}
use Prim.Native.Nat.{ℕ, ◌+◌, ◌-◌, ◌*◌, ◌/◌, ◌^◌, ◌<◌}
use lib.Pow.{le_ones, lt_of_le_ones}
use Rattle.prediction.specs.Predictions.{extreme, odd_prediction}
use Rattle.prediction.proofs.PredictionLaws.{odd_le}
use Rattle.prediction.proofs.odd_prediction.Goals as goal

picked : (ra rg rb rc rd r : ℕ) (t : Bool) → ra < 2 ^ 16 → rg < 2 ^ 16 → rb < 2 ^ 16 → t ≡ extreme rb rc rd
    → r ≡ cond t ((ra + rg + 2 * rb) / 4) ((ra + rg) / 2)
    → (r ≡ odd_prediction ra rg rb rc rd) × (r < 2 ^ 16)
unfolding odd_prediction
picked ra rg rb rc rd r t ha hg hb et er =
    let e : r ≡ odd_prediction ra rg rb rc rd = rw (er, et) in
    let l = odd_le (2 ^ 16 - 1) ra rg rb rc rd (le_ones 16 ha) (le_ones 16 hg) (le_ones 16 hb) in
    (e, rw e (lt_of_le_ones 16 l))

pub returns : goal.returns
returns c =
    picked _ _ _ _ _ _ _ c.requires.0 c.requires.1.0 c.requires.1.1 c.is_extreme.ensures c.pick.ensures
