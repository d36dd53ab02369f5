-- `stream_front::row_byte` meets its contract. Assumes nothing.
use Prim.Native.Nat.{◌+◌, ◌*◌, ◌/◌, ◌%◌, ◌≤◌, ◌<◌}
use native.Mathlib.Omega.{arith}
use borrow.Author.Tests.{lt-ltb, le-ltb}
use Rattle.stream_front.specs.Fronts.{row_byte}
use Rattle.stream_front.proofs.FrontLaws.{full_pos, row_inside, product_le}
use Rattle.stream_front.proofs.row_byte.Goals as goal
use Rattle.stream_front.proofs.row_byte.Goals.{Then-k-row}

inside : (c : Then-k-row) → c.args.i / c.args.full * c.args.row + c.args.i % c.args.full < c.args.blocks * c.args.row
inside c = row_inside c.args.row c.args.full c.args.blocks c.args.i c.requires.1.1.1.0
    c.if-k-row.true

small : (c : Then-k-row) → c.args.blocks * c.args.row ≤ 16 * 65536
small c = product_le c.args.blocks c.args.row c.requires.1.1.0 (omega (arith, c.requires.0, c.requires.1.0))

pub returns-then-k-row : goal.returns-then-k-row
unfolding row_byte
returns-then-k-row c = rw (lt-ltb _ _ c.if-k-row.true)

pub returns : goal.returns
unfolding row_byte
returns c = rw (le-ltb _ _ c.if-k-row.false)

pub nonzero_div-b : goal.nonzero_div-b
nonzero_div-b c = full_pos _ _ _ c.requires.1.1.1.0

pub nonzero_rem-k : goal.nonzero_rem-k
nonzero_rem-k c = full_pos _ _ _ c.requires.1.1.1.0

pub overflow_mul-result : goal.overflow_mul-result
overflow_mul-result c = omega (arith, inside c, small c)

pub overflow_add-result : goal.overflow_add-result
overflow_add-result c = omega (arith, inside c, small c)

pub bounds-rows-b : goal.bounds-rows-b
bounds-rows-b c = omega (arith, inside (goal.at.bounds-rows-b c).Then-k-row, c.requires.1.1.1.1)
