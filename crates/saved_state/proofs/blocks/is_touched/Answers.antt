-- `saved_state::blocks::is_touched` meets its contract. Assumes nothing.
use mathlib.Core.Bool.{◌&&◌}
use mathlib.Core.Path.{◌≡◌}
use Prim.Native.Nat.{ℕ}
use lib.Dec.{leb}
use Rattle.image_region.specs.Regions.{span_of}
use Rattle.image_region.specs.declared.Rect.{Rect}
use Rattle.image_region.specs.declared.Span.{Span}
use Rattle.saved_state.specs.Resuming.{is_touched}
use Rattle.saved_state.proofs.blocks.is_touched.Goals as goal

touched : (s : Span) (r : Rect) (b : ℕ) → s ≡ span_of r → leb s.first b && leb b s.last ≡ is_touched r b
unfolding span_of
touched s r b e = rw e

pub returns : goal.returns
returns c = touched _ _ _ c.span_of-span.ensures
