-- `quantiser::raised_level` meets its contract, by the sign of the difference. Assumes nothing.
use borrow.Author.Rules.{rules}
use mathlib.Core.Bool.{true, false}
use mathlib.Core.Path.{◌≡◌}
use Prim.Native.Nat.{ℕ, ◌+◌, ◌-◌, ◌≤◌}
use native.Mathlib.Omega.{arith}
use Rattle.numbers.specs.Numbers.{up, down}
use Rattle.numbers.specs.declared.Signed.{Signed}
use Rattle.quantiser.specs.Quantisers.{level_size, level_of}
use Rattle.quantiser.proofs.raised_level.Goals as goal

below : (q : ℕ) (v : Signed) (s : ℕ) → v.negative ≡ true → s ≡ level_size q v.size → s ≤ 4 → (4 - s) + down (level_of q v) ≡ 4 + up (level_of q v)
unfolding level_of
below q v s n e le = rw n (omega arith)

above : (q : ℕ) (v : Signed) (s : ℕ) → v.negative ≡ false → s ≡ level_size q v.size → (4 + s) + down (level_of q v) ≡ 4 + up (level_of q v)
unfolding level_of
above q v s n e = rw n (omega arith)

pub returns-then-v : goal.returns-then-v
returns-then-v c =
    (below _ _ _ c.if-v.true c.level_size-size.ensures.0 c.level_size-size.ensures.1, search rules)

pub returns-else-v : goal.returns-else-v
returns-else-v c = (above _ _ _ c.if-v.false c.level_size-size.ensures.0, search rules)
