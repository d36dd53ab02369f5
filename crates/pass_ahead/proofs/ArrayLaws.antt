-- Loops that fill arrays, entry by entry. Assumes nothing.
use mathlib.Core.List.{List}
use mathlib.Core.Path.{◌≡◌, sym, subst}
use Prim.Native.Nat.{ℕ, suc, ◌+◌, ◌*◌, ◌≤◌, ◌<◌}
use native.Mathlib.Omega.{arith}
use lib.ListN.{length, get_or, set, length-set}
use lib.Seq.{get_or-set_same, get_or-set_other}
use Rattle.numbers.proofs.OrderLaws.{split}
use Rattle.pass_ahead.specs.Arrays.{Each, here, Filled, Rows}

pub each_none : (place : ℕ → ℕ) (P : ℕ → ℕ → Type 0) (l : List ℕ) → Each place P 0 l
each_none place P l h lt = absurd (omega arith)

-- a store to another place
pub each_kept : (place : ℕ → ℕ) (P : ℕ → ℕ → Type 0) (n k v : ℕ) (l : List ℕ) → ((h : ℕ) → h < n → place h ≡ k → ⊥) → Each place P n l → Each place P n (set l k v)
each_kept place P n k v l other e h lt = subst (λ (x : ℕ). P h x) (sym (get_or-set_other l k (place h) v 0 (other h lt))) (e h lt)

-- one more
pub each_more : (place : ℕ → ℕ) (P : ℕ → ℕ → Type 0) (n v : ℕ) (l : List ℕ) → place n < length l → ((h : ℕ) → h < n → place h ≡ place n → ⊥) → P n v → Each place P n l
    → Each place P (n + 1) (set l (place n) v)
each_more place P n v l inside other new e h lt =
    split n h
    (λ a. let same : n ≡ h = omega arith in subst (λ (m : ℕ). P m (get_or (set l (place n) v) (place m) 0)) same (subst (λ (x : ℕ). P n x) (sym (get_or-set_same l (place n) v 0 inside)) new))
    (λ a. each_kept place P n (place n) v l other e h a)

pub more_here : (P : ℕ → ℕ → Type 0) (n v : ℕ) (l : List ℕ) → n < length l → P n v → Each here P n l → Each here P (n + 1) (set l n v)
more_here P n v l inside new e = each_more here P n v l inside (λ h lt q. omega arith) new e

pub fill_more : (size : ℕ) (P : ℕ → ℕ → Type 0) (n v : ℕ) (l : List ℕ) → n < size → P n v → Filled size P n l → Filled size P (n + 1) (set l n v)
fill_more size P n v l lt new e = record { all = simp length-set e.all; each = more_here P n v l (omega (arith, e.all)) new e.each }

pub fill_none : (size : ℕ) (P : ℕ → ℕ → Type 0) (l : List ℕ) → length l ≡ size → Filled size P 0 l
fill_none size P l e = record { all = e; each = each_none here P l }

-- fewer are there too
pub fewer : (size : ℕ) (P : ℕ → ℕ → Type 0) (n m : ℕ) (l : List ℕ) → m ≤ n → Filled size P n l → Filled size P m l
fewer size P n m l h e = record { all = e.all; each = λ k lt. e.each k (omega arith) }

-- ---- rows of 48 entries: those before row k have entry n too
pub record Partly (P : ℕ → ℕ → ℕ → Type 0) (rows k n : ℕ) (l : List ℕ) : Type 0 where
  pub all : length l ≡ 432
  pub each : (r h : ℕ) → r < rows → h ≤ n → (h ≡ n → r < k) → P r h (get_or l (48 * r + h) 0)

same_or : {X : Type 0} (a b : ℕ) → (a ≡ b → X) → ((a ≡ b → ⊥) → X) → X
same_or a b f g = split a b (λ h. split b a (λ k. f (omega arith)) (λ k. g (λ e. omega arith))) (λ h. g (λ e. omega arith))

less : {a b : ℕ} → a < suc b → (a ≡ b → ⊥) → a < b
less h f = omega (arith, f)

module _ (P : ℕ → ℕ → ℕ → Type 0) (rows : ℕ) where
  pub rows_none : (l : List ℕ) → length l ≡ 432 → Rows P rows 0 l
  rows_none l e = record { all = e; each = λ r h a b. absurd (omega arith) }

  pub rows_fewer : (n m : ℕ) (l : List ℕ) → m ≤ n → Rows P rows n l → Rows P rows m l
  rows_fewer n m l h e = record { all = e.all; each = λ r k a b. e.each r k a (omega arith) }

  pub turn_begins : {n : ℕ} {l : List ℕ} → Rows P rows n l → Partly P rows 0 n l
  turn_begins e = record { all = e.all; each = λ r h a b f. e.each r h a (less (omega arith) (λ z. omega (arith, f z))) }

  -- entry n of row k is stored
  pub row_more : (k n j v : ℕ) (l : List ℕ) → n < 48 → k < 9 → j ≡ 48 * k + n → P k n v → Partly P rows k n l → Partly P rows (suc k) n (set l j v)
  row_more k n j v l small row ej new e =
      record {
        all = simp length-set e.all;
        each = λ r h a b f.
            same_or (48 * r + h) j
            (λ eq.
            let er : r ≡ k = omega arith in
            let eh : h ≡ n = omega arith in
            rw (er, eh) (subst (λ (x : ℕ). P k n x) (sym stored) new))
            (λ ne.
            subst (λ (x : ℕ). P r h x) (sym (get_or-set_other l j (48 * r + h) v 0 ne))
            (e.each r h a b (λ z. less (f z) (λ er. ne (omega arith)))));
      }
    where
      stored : get_or (set l j v) (48 * k + n) 0 ≡ v
      stored = subst (λ (m : ℕ). get_or (set l j v) m 0 ≡ v) ej (get_or-set_same l j v 0 (omega (arith, e.all)))

  pub turn_ends : {n : ℕ} {l : List ℕ} → Partly P rows rows n l → Rows P rows (n + 1) l
  turn_ends e = record { all = e.all; each = λ r h a b. e.each r h a (omega arith) (λ z. a) }
