-- Bytes as numbers, loops that look for an entry, and where a byte of the state stands. Assumes nothing.
use mathlib.Core.Bool.{Bool, true, false, ◌||◌, false≢true}
use mathlib.Core.List.{List}
use mathlib.Core.Logic.{⊎_elim}
use mathlib.Core.Path.{◌≡◌, refl, sym}
use Prim.Native.Nat.{ℕ, zero, suc, ◌+◌, ◌*◌, ◌^◌, ◌≤◌, ◌<◌}
use native.Mathlib.Nat.{mul-le-mul_right, eq-or-lt_of_le, le_of_suc-le-suc, not-suc-le-zero}
use native.Mathlib.Numerals.{add-one}
use native.Mathlib.Omega.{arith}
use lib.ListN.{get_or}
use lib.Pow.{pow-add}
use Rattle.saved_state.specs.Checkpoints.{be_at, any_below}

-- ---- bytes

pub next_power : (k : ℕ) → 256 ^ (k + 1) ≡ 256 ^ k * 256
next_power k = pow-add 256 k 1

pub at_more : (s : List ℕ) (i k x b : ℕ) → x ≡ be_at s i k → b ≡ get_or s (i + k) 0 → x * 256 + b ≡ be_at s i (k + 1)
unfolding be_at
at_more s i k x b e f = rw (add-one k, e, f)

-- ---- a test below a number

pub left : (a b : Bool) → (a || b) ≡ false → a ≡ false
left true b e = e
left false b e = refl

pub right : (a b : Bool) → (a || b) ≡ false → b ≡ false
right true b e = absurd (false≢true (sym e))
right false b e = e

module _ (t : ℕ → Bool) where
  pub any_more : (j : ℕ) → any_below j t ≡ false → t j ≡ false → any_below (j + 1) t ≡ false
  unfolding any_below
  any_more j e f = rw (add-one j, e, f)

  either : (a b : Bool) → b ≡ true → (a || b) ≡ true
  either true b e = refl
  either false b e = e

  pub any_at : (n j : ℕ) → j < n → t j ≡ true → any_below n t ≡ true
  unfolding any_below
  any_at zero j h e = absurd (not-suc-le-zero h)
  any_at (suc n) j h e =
      ⊎_elim (λ (q : j ≡ n). either (any_below n t) (t n) (rw q at e))
      (λ (l : j < n). rw (any_at n j l e)) (eq-or-lt_of_le (le_of_suc-le-suc h))

  pub none_at : (n j : ℕ) → j < n → any_below n t ≡ false → t j ≡ false
  unfolding any_below
  none_at zero j h e = absurd (not-suc-le-zero h)
  none_at (suc n) j h e =
      ⊎_elim (λ (q : j ≡ n). rw q (right (any_below n t) (t n) e))
      (λ (l : j < n). none_at n j l (left (any_below n t) (t n) e)) (eq-or-lt_of_le (le_of_suc-le-suc h))

  pub any_none : (n : ℕ) → ((j : ℕ) → j < n → t j ≡ false) → any_below n t ≡ false
  unfolding any_below
  any_none zero h = refl
  any_none (suc n) h = rw (any_none n (λ j l. h j (omega arith)), h n (omega arith))

  pub none_done : (i n : ℕ) → any_below i t ≡ false → i ≡ n → any_below n t ≡ false
  none_done i n e g = rw g at e

-- ---- colour lines

pub line_inside : (w l : ℕ) → l ≤ 17 → l * (w + 2) ≤ 17 * (w + 2)
line_inside w l h = mul-le-mul_right (w + 2) h
