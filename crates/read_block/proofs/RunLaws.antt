-- Things that are done one after the other, until one fails. Assumes nothing.
use mathlib.Core.Path.{◌≡◌, refl, sym, ◌∙◌}
use Prim.Native.Nat.{ℕ, zero, suc, ◌+◌, ◌-◌, ◌<◌}
use native.Mathlib.Nat.{add-zero, add-suc, zero-add}
use native.Mathlib.Numerals.{add-one}
use native.Mathlib.Omega.{arith}
use Rattle.read_pass.specs.Readings.{and_then}
use Rattle.read_block.specs.Blocks.{runs}
use Rattle.std.specs.Prelude.{None, Option, Some}

-- where both went well, the first did, and then the second
pub then_both : {A B : Type 0} (o : Option A) (g : A → Option B) (z : B) → and_then o g ≡ Some z → (y : A) × (o ≡ Some y) × (g y ≡ Some z)
unfolding and_then
then_both None g z e = let no : ◌≡◌ {A = ℕ} 0 1 = cc in absurd (omega arith)
then_both (Some y) g z e = (y, refl, e)

-- what holds after one thing, and is kept by the next, holds after both
pub then_keeps : {A : Type 0} (Q : A → Type 0) (o : Option A) (g : A → Option A) (z : A) → ((y : A) → o ≡ Some y → Q y)
    → ((y : A) → Q y → g y ≡ Some z → Q z) → and_then o g ≡ Some z → Q z
then_keeps Q o g z first next e = let b = then_both o g z e in next b.0 (first b.0 b.1) b.2

-- nothing more, and one thing after two others
pub then_some : {A : Type 0} (o : Option A) → and_then o (λ z. Some z) ≡ o
unfolding and_then
then_some None = refl
then_some (Some a) = refl

pub then_then : {A B C : Type 0} (o : Option A) (g : A → Option B) (h : B → Option C) → and_then (and_then o g) h ≡ and_then o (λ z. and_then (g z) h)
unfolding and_then
then_then None g h = refl
then_then (Some a) g h = refl

module _ {A : Type 0} (f : ℕ → A → Option A) (r₀ : A) where
  pub runs_none : runs f 0 r₀ ≡ Some r₀
  unfolding runs
  runs_none = refl

  pub runs_more : (t : ℕ) (r : A) → runs f t r₀ ≡ Some r → runs f (t + 1) r₀ ≡ f t r
  unfolding runs and_then
  runs_more t r h = rw (add-one, h)

  -- all but the last, and then the last
  pub runs_last : (n : ℕ) (z : A) → runs f (suc n) r₀ ≡ Some z → (y : A) × (runs f n r₀ ≡ Some y) × (f n y ≡ Some z)
  unfolding runs
  runs_last n z e = then_both (runs f n r₀) (λ y. f n y) z e

  -- counted from 0 on
  pub runs_from_0 : (n : ℕ) → runs (λ i. f (0 + i)) n r₀ ≡ runs f n r₀
  unfolding runs
  runs_from_0 zero = refl
  runs_from_0 (suc n) = rw (runs_from_0 n, zero-add n)

  -- k of them, and then m more
  pub runs_split : (k m : ℕ) → runs f (k + m) r₀ ≡ and_then (runs f k r₀) (λ z. runs (λ i. f (k + i)) m z)
  unfolding runs
  runs_split k zero = rw (add-zero k) (sym (then_some (runs f k r₀)))
  runs_split k (suc m) = rw (add-suc k m, runs_split k m) (then_then (runs f k r₀) (λ z. runs (λ i. f (k + i)) m z) (λ z. f (k + m) z))

  -- once one has failed they all have
  pub runs_stay : (t m : ℕ) → runs f t r₀ ≡ None → runs f (t + m) r₀ ≡ None
  unfolding runs and_then
  runs_stay t zero h = rw (add-zero, h)
  runs_stay t (suc m) h = rw (add-suc, runs_stay t m h)

  pub runs_fail : (n t : ℕ) (r : A) → runs f t r₀ ≡ Some r → t < n → f t r ≡ None → runs f n r₀ ≡ None
  runs_fail n t r h lt e =
      let g : n ≡ (t + 1) + (n - (t + 1)) = omega arith in
      rw g (runs_stay (t + 1) (n - (t + 1)) (runs_more t r h ∙ e))

  -- what holds at the start, and is kept by each of them, holds after all of them
  pub runs_keep : (Q : A → Type 0) → Q r₀ → ((i : ℕ) (r z : A) → Q r → f i r ≡ Some z → Q z) → (n : ℕ) (z : A) → runs f n r₀ ≡ Some z → Q z
  unfolding runs
  runs_keep Q start each zero z e = let same : r₀ ≡ z = cc in rw same at start
  runs_keep Q start each (suc n) z e =
      then_keeps Q (runs f n r₀) (λ y. f n y) z (λ y h. runs_keep Q start each n y h) (λ y q h. each n y z q h) e
