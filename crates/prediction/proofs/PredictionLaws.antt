-- Predictions lie among the samples that they are made from. Assumes nothing.
use mathlib.Core.Bool.{Bool, true, false, cond}
use Prim.Native.Nat.{ℕ, ◌+◌, ◌-◌, ◌*◌, ◌/◌, ◌≤◌}
use native.Mathlib.Omega.{arith}
use Rattle.numbers.specs.Numbers.{distance}
use Rattle.numbers.proofs.OrderLaws.{cond_le}
use Rattle.prediction.specs.Predictions.{most, dropped_of, even_prediction, extreme, odd_prediction}

-- what is dropped is one of the three
pub dropped_le : (rf rc rd : ℕ) (s t : Bool) → cond s rc (cond t rd rf) ≤ rf + rc + rd
dropped_le rf rc rd true t = omega arith
dropped_le rf rc rd false true = omega arith
dropped_le rf rc rd false false = omega arith

-- one of three is dropped, and what is left of the three is at most twice their bound
kept_le : (m rf rc rd : ℕ) (s t : Bool) → rf ≤ m → rc ≤ m → rd ≤ m → rf + rc + rd - cond s rc (cond t rd rf) ≤ 2 * m
kept_le m rf rc rd true t hf hc hd = omega arith
kept_le m rf rc rd false true hf hc hd = omega arith
kept_le m rf rc rd false false hf hc hd = omega arith

quarter : (m k rb : ℕ) → k ≤ 2 * m → rb ≤ m → (k + 2 * rb) / 4 ≤ m
quarter m k rb hk hb = omega arith

-- where no neighbour is above m, no prediction is
pub even_le : (m rf rc rb rd : ℕ) → rf ≤ m → rc ≤ m → rb ≤ m → rd ≤ m → even_prediction rf rc rb rd ≤ m
unfolding even_prediction
even_le m rf rc rb rd hf hc hb hd =
    let f : ℕ = distance rf rb in
    let c : ℕ = distance rc rb in
    let d : ℕ = distance rd rb in
    quarter m (rf + rc + rd - dropped_of rf rc rd f c d) rb (kept_le m rf rc rd (most c f d) (most d f c) hf hc hd) hb

pub odd_le : (m ra rg rb rc rd : ℕ) → ra ≤ m → rg ≤ m → rb ≤ m → odd_prediction ra rg rb rc rd ≤ m
unfolding odd_prediction
odd_le m ra rg rb rc rd ha hg hb =
    cond_le m (extreme rb rc rd) ((ra + rg + 2 * rb) / 4) ((ra + rg) / 2) (omega arith) (omega arith)
