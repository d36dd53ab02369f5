-- Images that are changed at some entries. Assumes nothing.
use mathlib.Core.Bool.{Bool, true, false, ◌&&◌}
use mathlib.Core.List.{List}
use mathlib.Core.Path.{◌≡◌, refl, ◌∙◌}
use Prim.Native.Nat.{ℕ}
use Rattle.image_map.specs.Places.{Changed}
use Rattle.image_map.proofs.PartLaws.{by_test, never}

-- the same entries and samples, named otherwise
pub changed_as : (t u : ℕ → Bool) (f g : ℕ → ℕ) (x y : List ℕ) → ((i : ℕ) → t i ≡ true → (u i ≡ true) × (f i ≡ g i)) → ((i : ℕ) → u i ≡ true → t i ≡ true)
    → Changed t f x y → Changed u g x y
changed_as t u f g x y there back c =
    record {
      kept = c.kept;
      entries =
          λ i. c.entries i ∙ by_test (t i)
          (λ e. let k = there i e in rw (e, k.0) k.1)
          (λ e. by_test (u i) (λ v. absurd (never (t i) (back i v) e)) (λ v. rw (e, v)));
    }

-- no entry is changed
pub changed_none : (t : ℕ → Bool) (f : ℕ → ℕ) (x : List ℕ) → ((i : ℕ) → t i ≡ true → ⊥) → Changed t f x x
changed_none t f x n = record { kept = refl; entries = λ i. by_test (t i) (λ e. absurd (n i e)) (λ e. rw e) }

-- a change that is not wanted
pub not_wanted : (b : Bool) (t : ℕ → Bool) (f : ℕ → ℕ) (x : List ℕ) → b ≡ false → Changed (λ i. b && t i) f x x
not_wanted b t f x e = rw e (record { kept = refl; entries = λ i. refl })
