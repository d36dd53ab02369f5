-- Loops that give entries of a list new values one after the other, said entry by entry. Assumes nothing.
use mathlib.Core.Bool.{Bool, true, cond, ◌&&◌}
use mathlib.Core.List.{List}
use mathlib.Core.Path.{◌≡◌, sym, ◌∙◌}
use Prim.Native.Nat.{ℕ, ◌+◌, ◌≤◌, ◌<◌}
use native.Mathlib.Omega.{arith}
use lib.Dec.{leb, ltb}
use lib.ListN.{length, get_or, set}
use lib.Seq.{get_or-set_same, get_or-set_other}
use borrow.Author.Tests.{lt-ltb, le-ltb, le-leb, lt-leb}
use Rattle.numbers.proofs.OrderLaws.{split}

-- the entries at which a test holds are new, the others are as they were
abbrev pub NewWhere : (ℕ → Bool) → (ℕ → ℕ) → List ℕ → List ℕ → Type 0
NewWhere new f l₀ l = (i : ℕ) → get_or l i 0 ≡ cond (new i) (f i) (get_or l₀ i 0)

-- one more
module _ (old new : ℕ → Bool) (f : ℕ → ℕ) (l₀ l : List ℕ) (j v : ℕ) (h : j < length l) (e : v ≡ f j) (here : new j ≡ true)
    (others : (i : ℕ) → (i ≡ j → ⊥) → old i ≡ new i) (was : NewWhere old f l₀ l) where
  other : (i : ℕ) → (i ≡ j → ⊥) → get_or (set l j v) i 0 ≡ cond (new i) (f i) (get_or l₀ i 0)
  other i n = get_or-set_other l j i v 0 n ∙ was i ∙ rw (others i n)

  pub new_at : NewWhere new f l₀ (set l j v)
  new_at i =
      split i j
      (λ a. split j i (λ b. let q : i ≡ j = omega arith in rw (q, get_or-set_same l j v 0 h, here) e) (λ b. other i (λ q. omega arith)))
      (λ a. other i (λ q. omega arith))

-- ---- from the front on: those before j

abbrev pub NewTo : (ℕ → ℕ) → ℕ → List ℕ → List ℕ → Type 0
NewTo f j = NewWhere (λ i. ltb i j) f

pub new_none : (f : ℕ → ℕ) (l : List ℕ) → NewTo f 0 l l
new_none f l i = rw (le-ltb i 0 (omega arith))

-- a number other than j lies before j if it lies before the next
pub next_below : (j i : ℕ) → (i ≡ j → ⊥) → ltb i j ≡ ltb i (j + 1)
next_below j i n =
    split j i
    (λ a. le-ltb i j a ∙ sym (le-ltb i (j + 1) (split i j (λ b. absurd (n (omega arith))) (λ b. omega arith))))
    (λ a. lt-ltb i j a ∙ sym (lt-ltb i (j + 1) (omega arith)))

pub new_more : (f : ℕ → ℕ) (l₀ l : List ℕ) (j v : ℕ) → j < length l → v ≡ f j → NewTo f j l₀ l → NewTo f (j + 1) l₀ (set l j v)
new_more f l₀ l j v h e was = new_at (λ i. ltb i j) (λ i. ltb i (j + 1)) f l₀ l j v h e (lt-ltb j (j + 1) (omega arith)) (next_below j) was

-- ---- those from a on and before j

abbrev pub NewIn : (ℕ → ℕ) → ℕ → ℕ → List ℕ → List ℕ → Type 0
NewIn f a j = NewWhere (λ i. leb a i && ltb i j) f

pub in_none : (f : ℕ → ℕ) (a : ℕ) (l : List ℕ) → NewIn f a a l l
in_none f a l i = split a i (λ h. rw (le-leb a i h, le-ltb i a h)) (λ h. rw (lt-leb a i h))

pub in_more : (f : ℕ → ℕ) (a : ℕ) (l₀ l : List ℕ) (j v : ℕ) → a ≤ j → j < length l → v ≡ f j → NewIn f a j l₀ l → NewIn f a (j + 1) l₀ (set l j v)
in_more f a l₀ l j v low h e was =
    new_at (λ i. leb a i && ltb i j) (λ i. leb a i && ltb i (j + 1)) f l₀ l j v h e (rw (le-leb a j low, lt-ltb j (j + 1) (omega arith)))
    (λ i n. rw (next_below j i n)) was
