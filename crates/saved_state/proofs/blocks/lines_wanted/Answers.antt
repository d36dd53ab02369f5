-- `saved_state::blocks::lines_wanted` meets its contract. Assumes nothing.
use mathlib.Core.Bool.{Bool, true, false, cond}
use mathlib.Core.Path.{◌≡◌, ◌∙◌}
use Prim.Native.Nat.{ℕ, ◌-◌}
use Rattle.image_region.specs.Regions.{span_of, line_count}
use Rattle.image_region.specs.declared.Rect.{Rect}
use Rattle.image_region.specs.declared.Span.{Span}
use Rattle.saved_state.specs.Resuming.{is_touched}
use Rattle.saved_state.proofs.blocks.lines_wanted.Goals as goal

module _ (r : Rect) (b k : ℕ) (t : Bool) (et : t ≡ is_touched r b) where
  wanted : (s : Span) (n : ℕ) → t ≡ true → s ≡ span_of r → n ≡ s.lines - k → n ≡ cond (is_touched r b) (line_count r - k) 0
  unfolding span_of
  wanted s n e es en = en ∙ rw (← et, e, es)

  none_wanted : t ≡ false → 0 ≡ cond (is_touched r b) (line_count r - k) 0
  none_wanted e = rw (← et, e)

pub returns-then-is_touched : goal.returns-then-is_touched
returns-then-is_touched c =
    wanted _ _ _ _ c.is_touched.ensures _ _ c.if-is_touched.true c.span_of-span.ensures c.saturating_sub.ensures

pub returns : goal.returns
returns c = none_wanted c.args.r c.args.b c.args.k _ c.is_touched.ensures c.if-is_touched.false
