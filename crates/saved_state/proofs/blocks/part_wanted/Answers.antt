-- `saved_state::blocks::part_wanted` meets its contract. Assumes nothing.
use mathlib.Core.Bool.{Bool, true, false}
use mathlib.Core.List.{List}
use mathlib.Core.Path.{◌≡◌, sym, ◌∙◌}
use Prim.Native.Nat.{ℕ}
use native.Mathlib.Omega.{arith}
use Rattle.image_map.specs.Inside.{Fits}
use Rattle.image_map.specs.declared.Part.{Part}
use Rattle.image_region.specs.Inside.{part_in}
use Rattle.image_region.specs.declared.Rect.{Rect}
use Rattle.saved_state.specs.Calls.{PartWanted}
use Rattle.saved_state.specs.Resuming.{is_touched}
use Rattle.saved_state.proofs.blocks.part_wanted.Goals as goal

clash : {X : Type 0} → true ≡ false → X
clash e = let no : ◌≡◌ {A = ℕ} 0 1 = cc in absurd (omega arith)

module _ (r : Rect) (b : ℕ) (a : Part) (t : Bool) (et : t ≡ is_touched r b) where
  to_part : t ≡ true → a ≡ part_in r b → PartWanted r b a
  to_part e ea = (λ f. ea, λ f. clash (sym e ∙ et ∙ f))

  to_none : t ≡ false → ((image : List ℕ) → Fits a image) → PartWanted r b a
  to_none e fits = (λ f. clash (sym (sym e ∙ et ∙ f)), λ f. fits)

pub returns-then-is_touched : goal.returns-then-is_touched
returns-then-is_touched c = to_part _ _ _ _ c.is_touched.ensures c.if-is_touched.true c.part.ensures

pub returns : goal.returns
returns c = to_none _ _ _ _ c.is_touched.ensures c.if-is_touched.false c.no_part.ensures
