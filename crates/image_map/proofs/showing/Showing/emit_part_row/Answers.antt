-- `image_map::Showing::emit_part_row` meets its contract: the row is above the part, below it, or one of its rows. Assumes nothing.
use native.Mathlib.Omega.{arith}
use Rattle.image_map.proofs.PartLaws.{put_none, put_row, row_inside}
use Rattle.image_map.proofs.showing.Showing.emit_part_row.Goals as goal

pub returns-then-row-top : goal.returns-then-row-top
returns-then-row-top c = put_none _ _ _ _ _ (λ i h. omega (arith, h.last, c.if-row-top.true))

pub returns-then-bottom-row : goal.returns-then-bottom-row
returns-then-bottom-row c = put_none _ _ _ _ _ (λ i h. omega (arith, h.first, h.there, c.if-bottom-row.true))

pub overflow_mul-at : goal.overflow_mul-at
overflow_mul-at c =
    omega (arith, row_inside _ _ _ c.requires.fits c.if-row-top.false c.if-bottom-row.false)

pub overflow_add-at : goal.overflow_add-at
overflow_add-at c =
    omega (arith, row_inside _ _ _ c.requires.fits c.if-row-top.false c.if-bottom-row.false)

pub emit_row-requires : goal.emit_row-requires
emit_row-requires c =
    record {
      r_bound = (c.requires.n_bound.1.0, (c.requires.fits.order, c.requires.fits.columns));
      in_bounds = (c.requires.n_bound.1.1, row_inside _ _ _ c.requires.fits c.if-row-top.false c.if-bottom-row.false);
    }

pub returns : goal.returns
returns c =
    put_row _ _ _ _ _ _ _ c.requires.n_bound.1.0 _ _ _ c.requires.fits c.if-row-top.false c.if-bottom-row.false c.emit_row.ensures

pub overflow_mul-row : goal.overflow_mul-row
overflow_mul-row c = omega (arith, c.requires)

pub overflow_add-row : goal.overflow_add-row
overflow_add-row c = omega (arith, c.requires)

pub shape_of-image : goal.shape_of-image
shape_of-image c = omega (arith, c.requires)
