-- `short_codes::count_of` meets its contract. Assumes nothing.
use mathlib.Core.Path.{◌≡◌}
use Prim.Native.Nat.{ℕ, ◌-◌, ◌*◌, ◌^◌, ◌≤◌, min}
use native.Mathlib.Nat.{mul-le-mul}
use native.Mathlib.Omega.{arith}
use lib.Pow.{pow_mono}
use Rattle.short_codes.specs.Sheets.{count_of}
use Rattle.short_codes.proofs.count_of.Goals as goal

-- the product is small
product_small : (n k a p : ℕ) → n ≤ 16 → k ≤ 15 → a ≡ n - k → p ≡ 2 ^ k → a * p ≤ 16 * 2 ^ 15
product_small n k a p hn hk ea ep = mul-le-mul {n₁ = a} {m₁ = p} {n₂ = 16} {m₂ = 2 ^ 15} (omega arith) (rw ep (pow_mono hk))

count_is : (d k n a p q r : ℕ) → a ≡ n - k → p ≡ 2 ^ k → q ≡ 2 ^ d → r ≡ min (a * p) q → r ≡ count_of d k n
unfolding count_of
count_is d k n a p q r ea ep eq e = rw (e, ea, ep, eq)

pub overflow_mul-room : goal.overflow_mul-room
overflow_mul-room c =
    omega (arith, product_small c.args.longest c.args.k _ _ c.requires.2 c.requires.1 c.saturating_sub.ensures c.power.ensures.0)

pub returns : goal.returns
returns c =
    let small = product_small c.args.longest c.args.k _ _ c.requires.2 c.requires.1 c.saturating_sub.ensures c.power.ensures.0 in
    (count_is c.args.depth c.args.k c.args.longest _ _ _ _ c.saturating_sub.ensures c.power.ensures.0 c.power-2.ensures.0 c.min.ensures, omega (arith, small))
