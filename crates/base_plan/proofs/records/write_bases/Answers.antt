-- `base_plan::records::write_bases` meets its contract: the bases of the first m records are written. All records are good, so that none is refused. Assumes nothing.
use borrow.Author.Rules.{rules}
use mathlib.Core.Bool.{Bool, true, false}
use mathlib.Core.Path.{◌≡◌}
use Prim.Native.Nat.{ℕ}
use native.Mathlib.Omega.{arith}
use lib.ListN.{length}
use Rattle.base_plan.specs.Records.{is_good, start_of}
use Rattle.base_plan.proofs.RecordLaws.{IsRow, row_bad, row_good, good_below, start_next, start_none}
use Rattle.base_plan.proofs.BaseLaws.{written_none, written_more, filled_now}
use Rattle.base_plan.proofs.records.write_bases.Goals as goal
use Rattle.base_plan.proofs.records.write_bases.Goals.{In-Some, In_default}

clash : (t : Bool) → t ≡ true → t ≡ false → ⊥
clash t e g = let no : ◌≡◌ {A = ℕ} 0 1 = cc in omega arith

-- the record that was read
this : (c : In-Some) → IsRow
    c.args.d.now
    (length c.args.bases.now)
    c.loop.at
    c.in-Some.row.first
    c.in-Some.row.last
    c.in-Some.row.base
    c.in-Some.row.next
this c =
    row_good c.args.d.now (length c.args.bases.now) c.loop.at c.read_row.result c.read_row.ensures.0 _ _ _ _ c.in-Some.is c.read_row.ensures.1

-- a record that is not good is not met
met : (c : In_default) → ⊥
met c =
    let bad = row_bad c.args.d.now (length c.args.bases.now) c.loop.at c.read_row.result c.read_row.ensures.0 c.in_default.is in
    let good = good_below c.args.d.now (length c.args.bases.now) c.loop.counter (rw c.requires at c.loop-test.true) in
    clash (is_good c.args.d.now (length c.args.bases.now) (start_of c.args.d.now c.loop.counter)) good (rw c.loop.invariant.0 at bad)

pub loop-init : goal.loop-init
loop-init c = (start_none c.args.d.now, omega arith, written_none c.args.d.now c.args.bases.now)

pub returns-in_default : goal.returns-in_default
returns-in_default c = absurd (met c)

pub overflow_cast-row : goal.overflow_cast-row
overflow_cast-row c = omega (arith, (this (goal.at.overflow_cast-row c).In-Some).small)

pub loop-preserved : goal.loop-preserved
loop-preserved c =
    let t = this (goal.at.loop-preserved c).In-Some in (
      start_next c.args.d.now c.loop.counter c.loop.at _ c.loop.invariant.0 t.next_is,
      t.inside,
      written_more c.args.d.now c.args.bases.now c.loop.bases _ c.loop.counter c.loop.at _ _ _ c.loop.invariant.0 t.first_is t.last_is t.base_is c.loop.invariant.2
          (filled_now _ _ _ _ _ t.order (omega (arith, t.below, c.loop.invariant.2.as_long)) (search rules)),
    )

pub returns : goal.returns
returns c = let e : c.loop.counter ≡ c.args.records = omega arith in rw e at c.loop.invariant.2

pub shape_of-bases-in_default : goal.shape_of-bases-in_default
shape_of-bases-in_default c = absurd (met c)

pub shape_of-bases : goal.shape_of-bases
shape_of-bases c = c.loop.invariant.2.as_long
