-- The first sample above M. Assumes nothing.
use mathlib.Core.Bool.{Bool, true, false, cond, ◌||◌}
use mathlib.Core.List.{List}
use mathlib.Core.Path.{◌≡◌, ◌∙◌}
use Prim.Native.Nat.{ℕ, ◌+◌, ◌≤◌, ◌<◌}
use native.Mathlib.Numerals.{add-one}
use lib.Dec.{leb}
use lib.ListN.{length, get_or, drop, drop_of_length-le}
use lib.Seq.{drop-cons}
use Rattle.admission.specs.Above.{first_above}
use Rattle.std.specs.Prelude.{None, Some}

module _ (ignored : ℕ → Bool) (m : ℕ) (t : List ℕ) (i : ℕ) (so_far : first_above ignored m 0 t ≡ first_above ignored m i (drop i t)) where
  -- the sample at i is passed, or named
  next_is : i < length t → (b : Bool) → leb (get_or t i 0) m || ignored i ≡ b
      → first_above ignored m 0 t ≡ cond b (first_above ignored m (i + 1) (drop (i + 1) t)) (Some i)
  unfolding first_above
  next_is h b e = so_far ∙ rw (drop-cons t i 0 h, e, add-one)

  pub above_next : i < length t → leb (get_or t i 0) m || ignored i ≡ true → first_above ignored m 0 t ≡ first_above ignored m (i + 1) (drop (i + 1) t)
  above_next h e = next_is h true e

  pub above_found : i < length t → leb (get_or t i 0) m || ignored i ≡ false → first_above ignored m 0 t ≡ Some i
  above_found h e = next_is h false e

  pub above_none : length t ≤ i → first_above ignored m 0 t ≡ None
  unfolding first_above
  above_none h = so_far ∙ rw (drop_of_length-le t h)
