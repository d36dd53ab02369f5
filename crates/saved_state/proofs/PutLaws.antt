-- Numbers as bytes, and entries that are put one after the other. Assumes nothing.
use mathlib.Core.List.{List}
use mathlib.Core.Logic.{⊎_elim}
use mathlib.Core.Path.{◌≡◌, refl, sym, ◌∙◌}
use Prim.Native.Nat.{ℕ, zero, suc, ◌+◌, ◌-◌, ◌*◌, ◌/◌, ◌%◌, ◌^◌, ◌≤◌, ◌<◌}
use native.Mathlib.Nat.{add-zero, add-suc, add_assoc, eq-or-lt_of_le, le_of_suc-le-suc, not-suc-le-zero}
use native.Mathlib.Numerals.{add-one}
use native.Mathlib.Omega.{arith}
use lib.ListN.{length, get_or, set, length-set}
use lib.Pow.{pow-add}
use lib.Seq.{get_or-set_same, get_or-set_other}
use Rattle.saved_state.specs.Heads.{be_byte, put_each}

-- ---- bytes

pub eights : (m : ℕ) → 2 ^ (8 * m) ≡ 256 ^ m
eights zero = refl
eights (suc m) =
    let e : 8 * suc m ≡ 8 * m + 8 = omega arith in
    rw (e, pow-add 2 (8 * m) 8, eights m) (sym (pow-add 256 m 1) ∙ rw add-one)

pub byte_is : (n k x : ℕ) → x / 2 ^ (8 * (n - 1 - k)) % 256 ≡ be_byte n k x
unfolding be_byte
byte_is n k x = rw (eights (n - 1 - k))

-- ---- entries that are put one after the other

module _ {A : Type 0} (f : ℕ → A) (from : ℕ) (l : List A) where
  pub put_length : (n : ℕ) → length (put_each f from n l) ≡ length l
  unfolding put_each
  put_length zero = refl
  put_length (suc n) = length-set (put_each f from n l) (from + n) (f n) ∙ put_length n

  pub put_more : (i : ℕ) (v : A) (l' : List A) → l' ≡ put_each f from i l → v ≡ f i → set l' (from + i) v ≡ put_each f from (i + 1) l
  unfolding put_each
  put_more i v l' e g = rw (add-one i, e, g)

  pub put_done : (i n : ℕ) (l' : List A) → l' ≡ put_each f from i l → i ≡ n → l' ≡ put_each f from n l
  put_done i n l' e g = rw g at e

  -- entries before and after
  pub put_other : (n i : ℕ) (d : A) → ((k : ℕ) → k < n → i ≡ from + k → ⊥) → get_or (put_each f from n l) i d ≡ get_or l i d
  unfolding put_each
  put_other zero i d h = refl
  put_other (suc n) i d h =
      get_or-set_other (put_each f from n l) (from + n) i (f n) d (h n (omega arith)) ∙ put_other n i d (λ k b. h k (omega arith))

  -- and those that were put
  pub put_at_lem : (n i : ℕ) (d : A) → i < n → from + n ≤ length l → get_or (put_each f from n l) (from + i) d ≡ f i
  unfolding put_each
  put_at_lem zero i d h room = absurd (not-suc-le-zero h)
  put_at_lem (suc n) i d h room =
      ⊎_elim
      (λ (q : i ≡ n). rw q (get_or-set_same (put_each f from n l) (from + n) (f n) d (rw (put_length n) (omega arith))))
      (λ (b : i < n).
      get_or-set_other (put_each f from n l) (from + n) (from + i) (f n) d (λ (q : from + i ≡ from + n). omega arith) ∙ put_at_lem n i d b (omega arith))
      (eq-or-lt_of_le (le_of_suc-le-suc h))

module _ {A : Type 0} (f : ℕ → A) (from : ℕ) (l : List A) where
  -- equal values are put alike
  pub put_same : (g : ℕ → A) (n : ℕ) → ((i : ℕ) → i < n → f i ≡ g i) → put_each f from n l ≡ put_each g from n l
  unfolding put_each
  put_same g zero h = refl
  put_same g (suc n) h = rw (put_same g n (λ i b. h i (omega arith)), h n (omega arith))

  -- n entries and then m more
  pub put_add : (n m : ℕ) → put_each f from (n + m) l ≡ put_each (λ i. f (n + i)) (from + n) m (put_each f from n l)
  unfolding put_each
  put_add n zero = rw (add-zero n)
  put_add n (suc m) = rw (add-suc n m, put_add n m, add_assoc from n m)
