-- Words of a value are those of an equal one. Assumes nothing.
use mathlib.Core.List.{List}
use mathlib.Core.Path.{◌≡◌, ap, sym, ◌∙◌}
use Prim.Native.Nat.{ℕ}

pub same : {A : Type 0} (f : A → List ℕ) (a b : A) (w : List ℕ) → a ≡ b → w ≡ f b → w ≡ f a
same f a b w e g = g ∙ sym (ap f e)
