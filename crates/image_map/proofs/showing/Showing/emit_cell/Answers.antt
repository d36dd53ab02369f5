-- `image_map::Showing::emit_cell` meets its contract: the cell shows another line, its row is not of the part, or its columns are stored. Assumes nothing.
use mathlib.Core.Path.{sym, ◌∙◌}
use Prim.Native.Nat.{◌+◌, ◌-◌, ◌*◌, ◌/◌, ◌≤◌}
use native.Mathlib.Omega.{arith}
use lib.ListN.{length}
use Rattle.image_map.specs.Places.{width_of}
use Rattle.image_map.proofs.PartLaws.{row_inside}
use Rattle.image_map.proofs.ChangeLaws.{changed_none}
use Rattle.image_map.proofs.WindowLaws.{in_cell, put_cell}
use Rattle.image_map.proofs.showing.Showing.emit_cell.Goals as goal
use Rattle.image_map.proofs.showing.Showing.emit_cell.Goals.{Else-bottom-row}

row_end : (c : Else-bottom-row) →
    (6 * c.args.n + c.args.k / 6 - c.args.self.now.part.top) * c.args.self.now.part.stride + c.args.self.now.part.start + (c.args.self.now.part.right - c.args.self.now.part.left) ≤ length c.args.image.now
row_end c = row_inside _ _ _ c.requires.fits c.if-row-top.false c.if-bottom-row.false

pub returns-then-shown-l : goal.returns-then-shown-l
returns-then-shown-l c =
    changed_none _ _ _ (λ i e. let m = in_cell _ c.args.self.now.part c.args.n c.args.k c.args.l i e in c.if-shown-l.true (c.colour_line-shown.ensures.0 ∙ m.shown))

pub returns-then-row-top : goal.returns-then-row-top
returns-then-row-top c =
    changed_none _ _ _ (λ i e. let m = in_cell _ c.args.self.now.part c.args.n c.args.k c.args.l i e in omega (arith, m.row, c.if-row-top.true))

pub returns-then-bottom-row : goal.returns-then-bottom-row
returns-then-bottom-row c =
    changed_none _ _ _ (λ i e. let m = in_cell _ c.args.self.now.part c.args.n c.args.k c.args.l i e in omega (arith, m.row, m.rows.there, c.if-bottom-row.true))

pub overflow_mul-at : goal.overflow_mul-at
overflow_mul-at c = omega (arith, row_end c)

pub overflow_add-at : goal.overflow_add-at
overflow_add-at c = omega (arith, row_end c)

pub emit_column-requires : goal.emit_column-requires
emit_column-requires c =
    record {
      c_bound = (omega arith, (c.requires.fits.order, c.requires.fits.columns));
      in_bounds = (omega (arith, rw (sym c.width-w.ensures) at c.requires.n_bound.1.1.1), row_end (goal.at.emit_column-requires c).Else-bottom-row);
    }

pub returns : goal.returns
returns c =
    put_cell _ c.args.self.now.part c.args.n c.args.k c.args.l c.args.self.now.xtrans (width_of c.args.self.now.xtrans) c.args.lines.now c.args.slot c.args.image.now _ _ c.requires.n_bound.1.0 c.requires.fits
    c.if-row-top.false c.if-bottom-row.false
    (sym c.colour_line-shown.ensures.0 ∙ c.if-shown-l.false) (rw c.width-w.ensures at c.emit_column.ensures)

pub colour_line-shown-requires : goal.colour_line-shown-requires
colour_line-shown-requires c = omega (arith, c.requires.n_bound.1.0)

pub overflow_mul-row : goal.overflow_mul-row
overflow_mul-row c = omega (arith, c.requires.n_bound.0)

pub overflow_add-row : goal.overflow_add-row
overflow_add-row c = omega (arith, c.requires.n_bound.0, c.requires.n_bound.1.0)

pub overflow_add-w : goal.overflow_add-w
overflow_add-w c = omega (
  arith,
  rw (sym c.width-w.ensures) at c.requires.n_bound.1.1.1,
  c.well_formed,
)

pub overflow_mul-slot : goal.overflow_mul-slot
overflow_mul-slot c = omega (
  arith,
  rw (sym c.width-w.ensures) at c.requires.n_bound.1.1.1,
  c.well_formed,
)

pub overflow_add-slot : goal.overflow_add-slot
overflow_add-slot c = omega (
  arith,
  rw (sym c.width-w.ensures) at c.requires.n_bound.1.1.1,
  c.well_formed,
)

pub shape_of-image : goal.shape_of-image
shape_of-image c = c.emit_column.auto.image
