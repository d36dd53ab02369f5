-- `short_codes::entry` meets its contract. Assumes nothing.
use mathlib.Core.Path.{◌≡◌}
use Prim.Native.Nat.{ℕ, ◌+◌, ◌*◌, ◌/◌, ◌%◌, ◌^◌, ◌<◌}
use native.Mathlib.Nat.{mod-lt}
use native.Mathlib.Omega.{arith}
use lib.Pow.{pow_pos}
use Rattle.short_codes.proofs.entry.Goals as goal
use Rattle.short_codes.proofs.entry.Goals.{After-power-one}

-- zeros and low bits are few
few : (k code one : ℕ) → one ≡ 2 ^ k → code / 2 ^ k < 16 → (code / one < 16) × (code % one < one)
few k code one e h = rw e (h, mod-lt code (pow_pos k))

entry_is : (k code one : ℕ) → one ≡ 2 ^ k → 65536 * (code / one + 1 + k) + (one + code % one) ≡ 65536 * (code / 2 ^ k + 1 + k) + (2 ^ k + code % 2 ^ k)
entry_is k code one e = rw e

few_at : (c : After-power-one) → (c.args.code / c.power-one.result < 16) × (c.args.code % c.power-one.result < c.power-one.result)
few_at c = few _ _ _ c.power-one.ensures.0 c.requires.1

pub returns : goal.returns
returns c = entry_is _ _ _ c.power-one.ensures.0

pub overflow_add-result : goal.overflow_add-result
overflow_add-result c = omega (arith, few_at c)

pub overflow_add-result-2 : goal.overflow_add-result-2
overflow_add-result-2 c = omega (arith, few_at c)

pub overflow_mul-result : goal.overflow_mul-result
overflow_mul-result c = omega (arith, few_at c)

pub overflow_add-result-3 : goal.overflow_add-result-3
overflow_add-result-3 c = omega (arith, few_at c)

pub overflow_add-result-4 : goal.overflow_add-result-4
overflow_add-result-4 c = omega (arith, few_at c)
