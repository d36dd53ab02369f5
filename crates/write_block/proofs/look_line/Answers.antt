-- `write_block::look_line` meets its contract: i passes were right. Assumes nothing.
use mathlib.Core.Bool.{false≢true}
use native.Mathlib.Omega.{arith}
use Rattle.colour_lines.proofs.LineLaws.{line_inside}
use Rattle.read_block.proofs.LineLaws.{planned, width_in_range}
use Rattle.write_block.proofs.LookLaws.{no_passes, one_more, entered_within, all_passes}
use Rattle.write_block.proofs.WalkLaws.{pass_wanted}
use Rattle.write_block.proofs.look_line.Goals as goal

pub loop-i-init : goal.loop-i-init
loop-i-init c =
    let w = width_in_range c.args.form.xtrans _ c.width-w.ensures in
    ((c.width-w.ensures, w.0, w.1, w.2), rw c.width-w.ensures c.requires.depth.1.0, no_passes _ _ _ _)

pub set_guards-requires : goal.set_guards-requires
set_guards-requires c =
    let r = planned _ c.loop-i.i _ c.loop-i-test.true c.plan_at-p.ensures in
    (c.loop-i.invariant.0.2, (omega (arith, r.0.first_low), (r.0.first_high, omega (arith, line_inside c.width-w.result _ r.0.first_high, c.loop-i.invariant.1))))

pub set_guards-requires-in-loop-i : goal.set_guards-requires-in-loop-i
set_guards-requires-in-loop-i c =
    let r = planned _ c.loop-i.i _ c.loop-i-test.true c.plan_at-p.ensures in (
      c.loop-i.invariant.0.2,
      (
        omega (arith, r.0.second_low),
        (r.0.second_high, omega (arith, line_inside c.width-w.result _ r.0.second_high, c.set_guards.auto, c.loop-i.invariant.1)),
      ),
    )

pub look_pass-requires : goal.look_pass-requires
look_pass-requires c =
    record {
      high = c.loop-i.invariant.0.2;
      even = c.loop-i.invariant.0.3;
      plan = (planned _ c.loop-i.i _ c.loop-i-test.true c.plan_at-p.ensures).0;
      depth = c.requires.depth.0;
      line = c.requires.n_bound.0;
      samples = rw c.loop-i.invariant.0.0 c.requires.n_bound.1.0;
      wanted = pass_wanted c.args.form _ _ c.loop-i.i _ _ c.loop-i.invariant.0.0 c.plan_at-p.ensures c.loop-i-test.true c.requires.n_bound.1.1;
      long = omega (arith, c.set_guards-in-loop-i.auto, c.set_guards.auto, c.loop-i.invariant.1);
      held = entered_within c.args.form _ _ c.loop-i.i _ _ _ _ _ c.plan_at-p.result c.loop-i.invariant.2 c.set_guards.ensures c.set_guards-in-loop-i.ensures c.requires.depth.1.1;
    }

pub returns-then-not-look_pass : goal.returns-then-not-look_pass
returns-then-not-look_pass c e = absurd (false≢true e)

pub loop-i-preserved : goal.loop-i-preserved
loop-i-preserved c = (
  c.loop-i.invariant.0,
  omega (arith, c.look_pass.auto, c.set_guards-in-loop-i.auto, c.set_guards.auto, c.loop-i.invariant.1),
  one_more c.args.form _ _ c.loop-i.i _ _ _ _ _ _ c.plan_at-p.result c.loop-i.invariant.2 c.loop-i.invariant.0.0 c.plan_at-p.ensures c.set_guards.ensures
      c.set_guards-in-loop-i.ensures (c.look_pass.ensures c.if-not-look_pass.false),
)

pub returns : goal.returns
returns c e =
    all_passes _ _ _ c.loop-i.i _ _ (omega (arith, c.loop-i.auto.i-end, c.loop-i-test.false)) c.loop-i.invariant.2
