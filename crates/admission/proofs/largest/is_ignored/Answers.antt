-- `admission::largest::is_ignored` meets its contract. Assumes nothing.
use mathlib.Core.Bool.{Bool, true, false}
use mathlib.Core.Path.{◌≡◌, ◌∙◌}
use Prim.Native.Nat.{ℕ}
use Rattle.image_map.specs.Places.{width_of}
use Rattle.pass_schedule.specs.Steps.{is_interpolated}
use Rattle.colour_lines.specs.Sets.{colour_line_at, position_at}
use Rattle.admission.specs.Above.{is_ignored}
use Rattle.admission.proofs.largest.is_ignored.Goals as goal

module _ (xtrans strict : Bool) (j : ℕ) where
  held : strict ≡ true → false ≡ is_ignored xtrans strict j
  unfolding is_ignored
  held e = rw e

  free : strict ≡ false → xtrans ≡ true → is_interpolated true (colour_line_at (width_of true) j) (position_at (width_of true) j) ≡ is_ignored xtrans strict j
  unfolding is_ignored
  free e f = rw (e, f)

  bayer : strict ≡ false → xtrans ≡ false → false ≡ is_ignored xtrans strict j
  unfolding is_ignored is_interpolated
  bayer e f = rw (e, f)

pub returns-then-strict : goal.returns-then-strict
returns-then-strict c = held _ _ _ c.if-strict.true

pub returns-then-xtrans : goal.returns-then-xtrans
returns-then-xtrans c = c.is_interpolated_at.ensures ∙ free _ _ _ c.if-strict.false c.if-xtrans.true

pub returns : goal.returns
returns c = bayer _ _ _ c.if-strict.false c.if-xtrans.false
