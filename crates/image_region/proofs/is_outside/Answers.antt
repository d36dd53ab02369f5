-- `image_region::is_outside` meets its contract, by its tests. Assumes nothing.
use native.Mathlib.Omega.{arith}
use Rattle.image_region.proofs.CheckLaws.{passes_right, passes_bottom, room_decides, product_fits}
use Rattle.image_region.proofs.is_outside.Goals as goal

pub returns-then-columns-right : goal.returns-then-columns-right
returns-then-columns-right c = passes_right _ _ _ _ c.right.ensures c.if-columns-right.true

pub returns-then-rows-bottom : goal.returns-then-rows-bottom
returns-then-rows-bottom c =
    passes_bottom _ _ _ _ c.right.ensures _ c.bottom.ensures c.if-columns-right.false c.if-rows-bottom.true

pub overflow_mul-result : goal.overflow_mul-result
overflow_mul-result c = record { fits = product_fits _ _ (omega arith) (omega arith) }

pub returns : goal.returns
returns c =
    room_decides _ _ _ _ c.right.ensures _ c.bottom.ensures c.if-columns-right.false c.if-rows-bottom.false
