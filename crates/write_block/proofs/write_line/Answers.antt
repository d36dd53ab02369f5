-- `write_block::write_line` meets its contract: i passes have been written. Assumes nothing.
use mathlib.Core.Path.{refl}
use native.Mathlib.Omega.{arith}
use Rattle.colour_lines.proofs.LineLaws.{line_inside}
use Rattle.read_block.proofs.LineLaws.{planned, width_in_range}
use Rattle.read_block.proofs.RangeLaws.{set_in_range, put_in_range}
use Rattle.write_block.proofs.WalkLaws.{pass_wanted, passes_start, pass_samples, pass_position, pass_room, pass_more, pass_failed, passes_done}
use Rattle.numbers.proofs.PassedLaws.{passed_on}
use Rattle.write_block.proofs.write_line.Goals as goal

pub loop-i-init : goal.loop-i-init
loop-i-init c =
    let w = width_in_range c.args.form.xtrans _ c.width-w.ensures in (
      (c.width-w.ensures, w.0, w.1, w.2),
      rw c.width-w.ensures c.requires.depth.1.0,
      c.requires.depth.1.1,
      c.requires.within.1,
      refl,
      passes_start _ _ _ _ _ _ _ _ _ _,
    )

pub set_guards-requires : goal.set_guards-requires
set_guards-requires c =
    let r = planned _ c.loop-i.i _ (omega arith) c.plan_at-p.ensures in
    (c.loop-i.invariant.0.2, (omega arith, (r.0.first_high, omega (arith, line_inside c.width-w.result _ r.0.first_high, c.loop-i.invariant.1))))

pub set_guards-requires-in-loop-i : goal.set_guards-requires-in-loop-i
set_guards-requires-in-loop-i c =
    let r = planned _ c.loop-i.i _ (omega arith) c.plan_at-p.ensures in (
      c.loop-i.invariant.0.2,
      (
        omega arith,
        (
          r.0.second_high,
          omega (
            arith,
            line_inside c.width-w.result _ r.0.second_high,
            c.set_guards.auto,
            c.loop-i.invariant.1,
          ),
        ),
      ),
    )

pub load_set-set-requires : goal.load_set-set-requires
load_set-set-requires c =
    (c.loop-i.invariant.2, (planned _ c.loop-i.i _ (omega arith) c.plan_at-p.ensures).1)

pub write_pass-requires : goal.write_pass-requires
write_pass-requires c =
    let r = planned _ c.loop-i.i _ (omega arith) c.plan_at-p.ensures in
    record {
      low = c.loop-i.invariant.0.1;
      high = c.loop-i.invariant.0.2;
      even = c.loop-i.invariant.0.3;
      plan = r.0;
      depth = c.requires.depth.0;
      line = c.requires.n_bound.0;
      samples = rw c.loop-i.invariant.0.0 c.requires.n_bound.1.0;
      base = c.requires.base_bound.0;
      quantisers = c.requires.base_bound.1;
      wanted = pass_wanted c.args.form _ _ c.loop-i.i _ _ c.loop-i.invariant.0.0 c.plan_at-p.ensures c.loop-i-test.true c.requires.n_bound.1.1;
      long = omega (arith, c.set_guards-in-loop-i.auto, c.set_guards.auto, c.loop-i.invariant.1);
      held = pass_samples _ _ _ _ _ _ _ c.loop-i.i _ _ c.loop-i-test.true _ _ _ _ _ _ _ _ _ _ c.loop-i.invariant.5 c.loop-i.invariant.4 c.requires.from_bound.1 c.loop-i.invariant.0.0 c.plan_at-p.ensures c.set_guards.ensures c.set_guards-in-loop-i.ensures c.load_set-set.ensures
          c.requires.within.0;
      records = rw c.load_set-set.ensures (set_in_range _ _ r.1 c.loop-i.invariant.3);
      position = pass_position _ _ _ _ _ _ _ c.loop-i.i _ _ c.loop-i-test.true _ _ _ _ _ _ _ _ _ _ c.loop-i.invariant.5 c.loop-i.invariant.4 c.requires.from_bound.1 c.loop-i.invariant.0.0 c.plan_at-p.ensures c.set_guards.ensures c.set_guards-in-loop-i.ensures c.load_set-set.ensures
          c.requires.depth.0.1 c.requires.from_bound.0;
      room = pass_room _ _ _ _ _ _ _ c.loop-i.i _ _ c.loop-i-test.true _ _ _ _ _ _ _ _ _ _ c.loop-i.invariant.5 c.loop-i.invariant.4 c.requires.from_bound.1 c.loop-i.invariant.0.0 c.plan_at-p.ensures c.set_guards.ensures c.set_guards-in-loop-i.ensures c.load_set-set.ensures;
    }

pub returns-in_err-done : goal.returns-in_err-done
returns-in_err-done c =
    record {
      fact = rw (passed_on _ _ c.from_residual.ensures) (pass_failed _ _ _ _ _ _ _ c.loop-i.i _ _ c.loop-i-test.true _ _ _ _ _ _ _ _ _ _ c.loop-i.invariant.5 c.loop-i.invariant.4 c.requires.from_bound.1 c.loop-i.invariant.0.0 c.plan_at-p.ensures
          c.set_guards.ensures c.set_guards-in-loop-i.ensures c.load_set-set.ensures _ _ c.write_pass.result c.write_pass.ensures.answer _ _
          c.in_err-done.was);
      all_in_range = c.loop-i.invariant.3;
    }

pub store_set-requires : goal.store_set-requires
store_set-requires c =
    (c.loop-i.invariant.2, (planned _ c.loop-i.i _ (omega arith) c.plan_at-p.ensures).1)

pub loop-i-preserved : goal.loop-i-preserved
loop-i-preserved c =
    let r = planned _ c.loop-i.i _ (omega arith) c.plan_at-p.ensures in
    let e = c.store_set.ensures in (
      c.loop-i.invariant.0,
      omega (arith, c.write_pass.auto, c.set_guards-in-loop-i.auto, c.set_guards.auto, c.loop-i.invariant.1),
      omega (arith, c.store_set.auto, c.loop-i.invariant.2),
      rw e (put_in_range _ _ _ r.1 c.loop-i.invariant.2 (rw c.in_ok-done.was at c.write_pass.ensures.records) c.loop-i.invariant.3),
      omega (arith, c.write_pass.auto, c.loop-i.invariant.4),
      rw e
          (pass_more _ _ _ _ _ _ _ c.loop-i.i _ _ c.loop-i-test.true _ _ _ _ _ _ _ _ _ _ c.loop-i.invariant.5 c.loop-i.invariant.4 c.requires.from_bound.1 c.loop-i.invariant.0.0 c.plan_at-p.ensures
          c.set_guards.ensures c.set_guards-in-loop-i.ensures c.load_set-set.ensures _ _ c.write_pass.result c.write_pass.ensures.answer _
          c.in_ok-done.was),
    )

pub returns : goal.returns
returns c =
    record {
      fact = passes_done _ _ _ _ _ _ _ c.loop-i.i _ _ _ _ _ _ _ (omega arith) c.loop-i.invariant.5;
      all_in_range = c.loop-i.invariant.3;
    }
