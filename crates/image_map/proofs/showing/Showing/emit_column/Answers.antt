-- `image_map::Showing::emit_column` meets its contract. The invariant: the columns before p that stand in column c of the tile are stored; the measure:
-- the columns left. Assumes nothing.
use borrow.Author.Rules.{rules}
use mathlib.Core.Bool.{Bool}
use mathlib.Core.List.{List}
use mathlib.Core.Path.{◌≡◌}
use Prim.Native.Nat.{ℕ, ◌+◌, ◌-◌, ◌≤◌, ◌<◌}
use native.Mathlib.Omega.{arith}
use lib.ListN.{get_or, length}
use Rattle.image_map.specs.Places.{place_in, width_of}
use Rattle.image_map.proofs.PlaceLaws.{place_lt}
use Rattle.image_map.proofs.WindowLaws.{columns_none, columns_more, columns_all}
use Rattle.image_map.proofs.showing.Showing.emit_column.Goals as goal
use Rattle.image_map.proofs.showing.Showing.emit_column.Goals.{After-place_in}

-- the sample of column p
inside : (xtrans : Bool) (p r start n : ℕ) → p < 768 → r ≡ place_in xtrans p → start + width_of xtrans ≤ n → start + r < n
inside xtrans p r start n h e k = omega (arith, place_lt xtrans p h, e)

value : (lines : List ℕ) (xtrans : Bool) (start p left at r : ℕ) → left ≤ p → r ≡ place_in xtrans p
    → get_or lines (start + r) 0 ≡ get_or lines (start + place_in xtrans (left + (at + (p - left) - at))) 0
value lines xtrans start p left at r h e =
    let q : left + (at + (p - left) - at) ≡ p = omega arith in
    rw (q, e)

read : (c : After-place_in) → c.args.start + c.place_in.result < length
    c.args.lines.now
read c =
    inside c.args.self.now.xtrans _ _ _ _ (omega (arith, c.loop-p-test.true, c.requires.c_bound.1.1)) c.place_in.ensures c.requires.in_bounds.0

pub first_column-p-requires : goal.first_column-p-requires
first_column-p-requires c = omega (arith, c.requires)

pub loop-p-init : goal.loop-p-init
loop-p-init c =
    (c.first_column-p.ensures.0, c.first_column-p.ensures.1.0, omega (arith, c.first_column-p.ensures.1.1, c.requires.c_bound.1.0), columns_none _ _ _ _ _ _ c.first_column-p.ensures.0 c.first_column-p.ensures.1.0 c.first_column-p.ensures.1.1)

pub loop-p-preserved : goal.loop-p-preserved
loop-p-preserved c = (
  omega (arith, c.loop-p.invariant.0),
  omega (arith, c.loop-p.invariant.1),
  omega (arith, c.loop-p-test.true),
  columns_more (λ i. get_or c.args.lines.now (c.args.start + place_in c.args.self.now.xtrans (c.args.self.now.part.left + (i - c.args.at))) 0) c.args.at
      c.loop-p.p _ _ _ _ _ c.loop-p.invariant.0 c.loop-p.invariant.1 (omega (arith, c.loop-p.invariant.1, c.loop-p-test.true, c.requires.in_bounds.1))
      (value c.args.lines.now c.args.self.now.xtrans c.args.start c.loop-p.p c.args.self.now.part.left c.args.at _ c.loop-p.invariant.1 c.place_in.ensures)
      c.loop-p.invariant.3,
)

pub returns : goal.returns
returns c =
    columns_all _ _ c.loop-p.p _ _ _ _ _ c.loop-p.invariant.0 c.loop-p.invariant.1 (omega arith) c.loop-p.invariant.2 c.loop-p.invariant.3

pub overflow_add-image : goal.overflow_add-image
overflow_add-image c = search (rules, read c)

pub offset_bounds-lines-start : goal.offset_bounds-lines-start
offset_bounds-lines-start c = search (rules, read c)

pub bounds-lines-start : goal.bounds-lines-start
bounds-lines-start c = read (goal.at.bounds-lines-start c).After-place_in
