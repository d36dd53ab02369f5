-- How many lines are read: all, or those before the first truncated one. Assumes nothing.
use mathlib.Core.Bool.{cond}
use mathlib.Core.Path.{◌≡◌, sym, ◌∙◌}
use Prim.Native.Nat.{ℕ, zero, suc, ◌+◌, ◌-◌, ◌≤◌}
use native.Mathlib.Nat.{add-zero, add-suc}
use native.Mathlib.Omega.{arith}
use Rattle.read_block.specs.Blocks.{State}
use Rattle.read_block.specs.Images.{is_read}
use Rattle.std.specs.Prelude.{None, Option, Some}

-- `read n` reads n lines, and `count n` counts those of them that are read
module _ (read : ℕ → Option State) (count : ℕ → ℕ) (no_line : count 0 ≡ 0)
    (one_more : (n : ℕ) → count (suc n) ≡ cond (is_read (read (suc n))) (suc n) (count n)) (stay : (t m : ℕ) → read t ≡ None → read (t + m) ≡ None) where
  pub all_counted : (n : ℕ) (z : State) → read n ≡ Some z → count n ≡ n
  all_counted zero z e = no_line
  all_counted (suc n) z e = one_more n ∙ rw e

  some_counted : (m : ℕ) (z : State) → read m ≡ Some z → read (suc m) ≡ None → (k : ℕ) → count (m + k) ≡ m
  some_counted m z e cut zero = rw add-zero (all_counted m z e)
  some_counted m z e cut (suc k) =
      let f : suc m + k ≡ suc (m + k) = omega arith in
      let fails : read (suc (m + k)) ≡ None = rw f at (stay (suc m) k cut) in
      rw add-suc (one_more (m + k) ∙ rw fails (some_counted m z e cut k))

  pub cut_counted : (m n : ℕ) (z : State) → suc m ≤ n → read m ≡ Some z → read (suc m) ≡ None → m ≡ count n
  cut_counted m n z l e cut =
      let f : n ≡ m + (n - m) = omega arith in
      rw f (sym (some_counted m z e cut (n - m)))
