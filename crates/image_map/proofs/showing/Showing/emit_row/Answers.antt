-- `image_map::Showing::emit_row` meets its contract. The invariant: the columns from left up to p are stored from `at` on, and `column` is p mod 6; the measure:
-- the columns left. Assumes nothing.
use mathlib.Core.Path.{◌≡◌, refl, ◌∙◌}
use Prim.Native.Nat.{◌+◌}
use native.Mathlib.Omega.{arith}
use lib.Dec.{eqb, leb, lit≤}
use borrow.Author.Tests.{eqb-true, leb-true}
use Rattle.numbers.proofs.BoolLaws.{both}
use Rattle.image_map.specs.Places.{width_of}
use Rattle.image_map.proofs.PlaceLaws.{width_le}
use Rattle.image_map.proofs.StartLaws.{starts_inside, column_next, row_emitted, stored_one, stored_six}
use Rattle.image_map.proofs.RowLaws.{stored_none}
use Rattle.image_map.proofs.showing.Showing.emit_row.Goals as goal

pub starts_of-starts-requires : goal.starts_of-starts-requires
starts_of-starts-requires c =
    (c.requires.r_bound.0, omega (arith, width_le c.args.self.now.xtrans, c.width-w.ensures))

pub loop-p-init : goal.loop-p-init
loop-p-init c = (omega arith, c.requires.r_bound.1.0, stored_none _ _ _ _, refl)

pub invariant_of-row : goal.invariant_of-row
invariant_of-row c =
    record {
      all_lines = c.requires.in_bounds.0;
      are_places = c.args.self.now.are_places;
      in_lines = starts_inside c.args.self.now.xtrans (width_of c.args.self.now.xtrans) c.args.self.now.tile _ c.args.r
          (rw c.width-w.ensures at c.starts_of-starts.ensures) refl c.requires.r_bound.0;
    }

pub invariant_of-row-else-column-p : goal.invariant_of-row-else-column-p
invariant_of-row-else-column-p c =
    record {
      all_lines = c.requires.in_bounds.0;
      are_places = c.args.self.now.are_places;
      in_lines = starts_inside c.args.self.now.xtrans (width_of c.args.self.now.xtrans) c.args.self.now.tile _ c.args.r
          (rw c.width-w.ensures at c.starts_of-starts.ensures) refl c.requires.r_bound.0;
    }

pub emit_three-requires : goal.emit_three-requires
emit_three-requires c =
    let t = both (eqb c.loop-p.column 0) (leb (c.loop-p.p + 6) c.args.self.now.part.right) c.if-column-p.true in
    let z = eqb-true c.loop-p.column 0 t.0 in
    let y = leb-true (c.loop-p.p + 6) c.args.self.now.part.right t.1 in (
      omega (arith, c.loop-p.invariant.3),
      (
        lit≤ tt,
        (
          omega (arith, y, c.requires.r_bound.1),
          omega (arith, c.loop-p.invariant.2.kept, y, c.loop-p.invariant.0, c.requires.in_bounds.1),
        ),
      ),
    )

pub emit_three-requires-then-column-p : goal.emit_three-requires-then-column-p
emit_three-requires-then-column-p c =
    let t = both (eqb c.loop-p.column 0) (leb (c.loop-p.p + 6) c.args.self.now.part.right) c.if-column-p.true in
    let z = eqb-true c.loop-p.column 0 t.0 in
    let y = leb-true (c.loop-p.p + 6) c.args.self.now.part.right t.1 in (
      omega (arith, c.loop-p.invariant.3),
      (
        lit≤ tt,
        (
          omega (arith, y, c.requires.r_bound.1),
          omega (arith, c.loop-p.invariant.2.kept, y, c.loop-p.invariant.0, c.requires.in_bounds.1, c.emit_three.ensures.1),
        ),
      ),
    )

pub loop-p-preserved-then-column-p : goal.loop-p-preserved-then-column-p
loop-p-preserved-then-column-p c =
    let t = both (eqb c.loop-p.column 0) (leb (c.loop-p.p + 6) c.args.self.now.part.right) c.if-column-p.true in
    let z = eqb-true c.loop-p.column 0 t.0 in
    let y = leb-true (c.loop-p.p + 6) c.args.self.now.part.right t.1 in (
      omega (arith, c.loop-p.invariant.0),
      y,
      stored_six _ _ _ _ c.loop-p.p _ _ _ c.loop-p.invariant.2 c.loop-p.invariant.0 (omega (arith, c.loop-p.invariant.0, y, c.requires.in_bounds.1))
          c.emit_three.ensures.0 c.emit_three-then-column-p.ensures.0,
      omega (arith, c.loop-p.invariant.3),
    )

pub emit_sample-requires : goal.emit_sample-requires
emit_sample-requires c = (
  c.loop-p.invariant.3,
  (
    omega (arith, c.loop-p-test.true, c.requires.r_bound.1),
    omega (arith, c.loop-p.invariant.2.kept, c.loop-p-test.true, c.loop-p.invariant.0, c.requires.in_bounds.1),
  ),
)

pub loop-p-preserved : goal.loop-p-preserved
loop-p-preserved c = (
  omega (arith, c.loop-p.invariant.0),
  omega (arith, c.loop-p-test.true),
  stored_one _ _ _ _ c.loop-p.p _ _ c.loop-p.invariant.2 c.loop-p.invariant.0 (omega (arith, c.loop-p.invariant.0)) c.emit_sample.ensures.0,
  c.next_column-column.ensures ∙ rw c.loop-p.invariant.3 (column_next c.loop-p.p),
)

pub returns : goal.returns
returns c =
    let e : c.loop-p.p ≡ c.args.self.now.part.right = omega (arith, c.loop-p-test.false, c.loop-p.invariant.1) in
    row_emitted c.args.self.now.xtrans _ _ c.args.lines.now _ _ _ _ _ _ _ (rw c.width-w.ensures at c.starts_of-starts.ensures) (rw e at c.loop-p.invariant.2)

pub overflow_add-w : goal.overflow_add-w
overflow_add-w c = omega (arith, width_le c.args.self.now.xtrans, c.width-w.ensures)

pub overflow_sub-i : goal.overflow_sub-i
overflow_sub-i c = c.loop-p.invariant.0

pub overflow_add-i : goal.overflow_add-i
overflow_add-i c = omega (
  arith,
  c.loop-p.invariant.0,
  c.loop-p-test.true,
  c.requires.in_bounds.1,
  c.well_formed,
)

pub overflow_add-p : goal.overflow_add-p
overflow_add-p c = omega (arith, c.loop-p-test.true, c.requires.r_bound.1)

pub overflow_add-i-then-column-p : goal.overflow_add-i-then-column-p
overflow_add-i-then-column-p c = omega (
  arith,
  c.loop-p.invariant.0,
  c.loop-p-test.true,
  c.requires.in_bounds.1,
  c.well_formed,
)

pub overflow_add-p-then-column-p : goal.overflow_add-p-then-column-p
overflow_add-p-then-column-p c = omega (
  arith,
  c.loop-p-test.true,
  c.requires.r_bound.1,
)

pub overflow_add-p-then-column-p-2 : goal.overflow_add-p-then-column-p-2
overflow_add-p-then-column-p-2 c = omega (
  arith,
  c.loop-p-test.true,
  c.requires.r_bound.1,
)

pub loop-p-smaller-then-column-p : goal.loop-p-smaller-then-column-p
loop-p-smaller-then-column-p c = omega (arith, c.loop-p-test.true)

pub next_column-column-requires : goal.next_column-column-requires
next_column-column-requires c = omega (arith, c.loop-p.invariant.3)

pub overflow_add-p-else-column-p : goal.overflow_add-p-else-column-p
overflow_add-p-else-column-p c = omega (
  arith,
  c.loop-p-test.true,
  c.requires.r_bound.1,
)

pub loop-p-smaller : goal.loop-p-smaller
loop-p-smaller c = omega (arith, c.loop-p-test.true)

pub shape_of-image : goal.shape_of-image
shape_of-image c = c.loop-p.invariant.2.kept
