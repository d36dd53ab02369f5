-- `write_pass::code_number` meets its contract. Assumes nothing.
use borrow.Author.Tests.{lt-ltb, le-ltb}
use mathlib.Core.Path.{◌≡◌}
use Prim.Native.Nat.{ℕ, ◌+◌, ◌-◌, ◌/◌, ◌%◌, ◌^◌, ◌≤◌, ◌<◌}
use native.Mathlib.Nat.{mod-lt}
use native.Mathlib.Omega.{arith}
use lib.Pow.{shr_le}
use Rattle.write_pass.specs.Puts.{code_number}
use Rattle.write_pass.proofs.code_number.Goals as goal
use Rattle.write_pass.proofs.code_number.Goals.{After-power-then-code-k}

module _ (k limit raw code p : ℕ) where
  short : (q : ℕ) → p ≡ 2 ^ k → q ≡ 2 ^ k → code / 2 ^ k < limit → p + code % q ≡ code_number k limit raw code
  unfolding code_number
  short q e f h = rw (e, f, lt-ltb (code / 2 ^ k) limit h)

  long : p ≡ 2 ^ raw → 1 ≤ limit → limit ≤ code / 2 ^ k → p + code - 1 ≡ code_number k limit raw code
  unfolding code_number
  long e l h = rw (e, le-ltb (code / 2 ^ k) limit h) (omega (arith, shr_le code k))

small : (c : After-power-then-code-k) → c.args.code % c.power-then-code-k.result < 2 ^ 16
small c = omega (arith, mod-lt c.args.code c.power-then-code-k.ensures.1.0, c.power-then-code-k.ensures.1.1)

pub returns-then-code-k : goal.returns-then-code-k
returns-then-code-k c =
    (short _ _ _ _ _ _ c.power.ensures.0 c.power-then-code-k.ensures.0 c.if-code-k.true, omega (arith, small c, c.power.ensures.1.1))

pub returns : goal.returns
returns c =
    (long _ _ _ _ _ c.power-2.ensures.0 c.requires.1.0 c.if-code-k.false, omega (arith, c.power-2.ensures.1.1, c.requires.1.1.1))
