-- Tables, and loops that fill a list with one from the front. Assumes nothing.
use mathlib.Core.List.{List, [], ◌∷◌}
use mathlib.Core.Logic.{⊎_elim}
use mathlib.Core.Path.{◌≡◌, refl, sym, ap, ◌∙◌}
use Prim.Native.Nat.{ℕ, zero, suc, ◌+◌, ◌≤◌, ◌<◌}
use native.Mathlib.Nat.{add-zero, eq-or-lt_of_le, le_of_suc-le-suc, not-suc-le-zero}
use native.Mathlib.Numerals.{add-one}
use native.Mathlib.Omega.{arith}
use lib.ListN.{length, get_or, set, take, drop, replicate, length-append, get_or-append, replicate-append-replicate}
use lib.Seq.{take_all, take-suc-set, drop-set-lt, drop-drop, get_or-drop, get_or_at}
use Rattle.read_block.specs.Records.{table}

module _ {A : Type 0} (f : ℕ → A) where
  pub table_length : (n : ℕ) → length (table f n) ≡ n
  unfolding table
  table_length zero = refl
  table_length (suc n) = length-append (table f n) (f n ∷ []) ∙ rw (table_length n) (omega arith)

  pub table_get_d : (n j : ℕ) (d : A) → j < n → get_or (table f n) j d ≡ f j
  unfolding table
  table_get_d zero j d h = absurd (not-suc-le-zero h)
  table_get_d (suc n) j d h =
      ⊎_elim (λ (e : j ≡ n). rw e (get_or_at (table f n) (f n) [] d n (table_length n)))
      (λ (l : j < n). get_or-append (table f n) (f n ∷ []) d j (rw (table_length n) l) ∙ table_get_d n j d l)
      (eq-or-lt_of_le (le_of_suc-le-suc h))

  -- the first j entries are the table's
  pub fill_more : (l : List A) (j : ℕ) (a : A) → j < length l → a ≡ f j → take j l ≡ table f j → take (j + 1) (set l j a) ≡ table f (j + 1)
  unfolding table
  fill_more l j a h e k = rw (add-one, take-suc-set l j a h, e, k)

  pub fill_done : (l : List A) (n j : ℕ) → length l ≡ n → n ≤ j → j ≤ n → take j l ≡ table f j → l ≡ table f n
  fill_done l n j long ge le k =
      let e : j ≡ n = omega arith in
      sym (take_all n l (omega arith)) ∙ (rw e at k)

-- one value throughout
pub table_same : {A : Type 0} (a : A) (n : ℕ) → table (λ j. a) n ≡ replicate n a
unfolding table
table_same a zero = refl
table_same a (suc n) = rw (table_same a n) (replicate-append-replicate n 1 a ∙ rw add-one)

-- a loop that goes on behind what it has filled finds what was there
module _ {A : Type 0} (l₀ l : List A) (j : ℕ) (kept : drop j l ≡ drop j l₀) where
  pub still : (d : A) → get_or l j d ≡ get_or l₀ j d
  still d =
      rw add-zero at
      (sym (get_or-drop j l 0 d) ∙ ap (λ (r : List A). get_or r 0 d) kept ∙ get_or-drop j l₀ 0 d)

  pub still_more : (a : A) → drop (j + 1) (set l j a) ≡ drop (j + 1) l₀
  still_more a =
      drop-set-lt (j + 1) l j a (omega arith) ∙ sym (drop-drop 1 j l) ∙ ap (λ (r : List A). drop 1 r) kept ∙ drop-drop 1 j l₀
