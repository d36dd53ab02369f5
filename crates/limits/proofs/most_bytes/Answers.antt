-- `limits::most_bytes` meets its contract. Assumes nothing.
use borrow.Author.Rules.{rules}
use Prim.Native.Nat.{ℕ, ◌*◌, ◌^◌, ◌≤◌, ◌<◌}
use native.Mathlib.Nat.{mul-le-mul_left}
use native.Mathlib.Omega.{arith}
use Rattle.limits.proofs.most_bytes.Goals as goal

-- below 2^16·2304·16
small : (bits lines : ℕ) → (bits ≤ 16) × (lines < 2 ^ 16) → lines * 2304 * bits < 2 ^ 32
small bits lines k =
    let m : lines * 2304 * bits ≤ lines * 2304 * 16 = mul-le-mul_left (lines * 2304) k.0 in
    omega (arith, k.1)

pub overflow_mul-result-2 : goal.overflow_mul-result-2
overflow_mul-result-2 c = search (rules, small _ _ c.requires)
