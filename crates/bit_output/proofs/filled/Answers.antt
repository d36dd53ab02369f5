-- `bit_output::filled` meets its contract: the shifts lose nothing, and the sum is a byte. Assumes nothing.
use mathlib.Core.Path.{◌≡◌}
use Prim.Native.Nat.{ℕ, ◌+◌, ◌-◌, ◌*◌, ◌/◌, ◌%◌, ◌^◌, ◌<◌}
use native.Mathlib.Omega.{arith}
use lib.Arith.{digits_lt}
use lib.Pow.{pow-add, shr_lt, shl_lt, shl_exact}
use Rattle.bit_output.proofs.filled.Goals as goal

module _ (x u t part j k : ℕ) (hx : x < 256) (hj : u + j ≡ 8) (hk : t + k ≡ j) (hp : part < 2 ^ t) where
  kept-lt : x / 2 ^ j < 2 ^ u
  kept-lt = shr_lt u j (rw hj hx)

  low-lt : part * 2 ^ k < 2 ^ j
  low-lt = rw hk at (shl_lt t k hp)

  kept-is : (x / 2 ^ j * 2 ^ j) % 2 ^ 32 ≡ x / 2 ^ j * 2 ^ j
  kept-is = shl_exact u j 32 kept-lt (omega arith)

  low-is : (part * 2 ^ k) % 2 ^ 32 ≡ part * 2 ^ k
  low-is = shl_exact t k 32 hp (omega arith)

  sum_is : (x / 2 ^ j * 2 ^ j) % 2 ^ 32 + (part * 2 ^ k) % 2 ^ 32 ≡ x / 2 ^ j * 2 ^ j + part * 2 ^ k
  sum_is = rw (kept-is, low-is)

  sum_lt : (x / 2 ^ j * 2 ^ j) % 2 ^ 32 + (part * 2 ^ k) % 2 ^ 32 < 256
  sum_lt = rw (sum_is) (rw (← pow-add 2 u j, hj) at (digits_lt kept-lt low-lt))

pub overflow_cast-result : goal.overflow_cast-result
overflow_cast-result c =
    let x : c.from.result < 256 = omega (arith, c.from.ensures, c.ranges.old) in
    let hj : c.args.used + (8 - c.args.used) ≡ 8 = omega (arith, c.requires.0) in
    let hk : c.args.t + (8 - c.args.used - c.args.t) ≡ 8 - c.args.used = omega (arith, c.requires.1.0) in
    omega (arith, sum_lt c.from.result c.args.used c.args.t c.args.part _ _ x hj hk c.requires.1.1)
