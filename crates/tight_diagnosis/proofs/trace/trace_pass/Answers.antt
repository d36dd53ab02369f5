-- `tight_diagnosis::trace::trace_pass` meets its contract: the samples before number u have been walked, with tight codes alone. Assumes nothing.
use mathlib.Core.Path.{◌≡◌, refl, sym, ◌∙◌}
use Prim.Native.Nat.{◌+◌, ◌*◌, ◌/◌, ◌<◌}
use native.Mathlib.Omega.{arith}
use lib.ListN.{length}
use Rattle.pass_schedule.specs.Steps.{upto}
use Rattle.tight_diagnosis.specs.Ways.{steps_way}
use Rattle.tight_diagnosis.specs.Traces.{clean, Says}
use Rattle.tight_diagnosis.proofs.DueLaws.{quarter, pass_is, due_steps, skipped, due_inside}
use Rattle.tight_diagnosis.proofs.WayLaws.{turn_at, turn_stops, steps_none, steps_next, says_is}
use Rattle.numbers.proofs.PassedLaws.{passed_on}
use Rattle.tight_diagnosis.proofs.trace.trace_pass.Goals as goal
use Rattle.tight_diagnosis.proofs.trace.trace_pass.Goals.{After-trace_step}

-- what the step says, as number u of the pass
said : (c : After-trace_step) →
    Says (clean c.trace_step.new.lines c.trace_step.new.sums c.trace_step.new.ns)
    (steps_way c.args.stage c.args.block.now (quarter c.args.stage.w c.args.plan c.loop-u.u) (clean c.loop-u.lines c.loop-u.sums c.loop-u.ns c.loop-u.at)) c.trace_step.result
said c =
    says_is (due_steps c.args.stage c.args.block.now c.args.plan c.loop-u.u c.in-Some.x (sym c.due_at.ensures ∙ c.in-Some.is) (clean c.loop-u.lines c.loop-u.sums
    c.loop-u.ns c.loop-u.at)) c.trace_step.ensures.says

test : (c : After-trace_step) → c.loop-u.u < 4 * (c.args.stage.w / 2 + 4)
test c = c.loop-u-test.true

lines_long : (c : After-trace_step) → length c.trace_step.new.lines ≡ length c.args.lines.now
lines_long c = c.trace_step.auto.lines ∙ c.loop-u.invariant.1.0

sums_long : (c : After-trace_step) → length c.trace_step.new.sums ≡ 112
sums_long c = c.trace_step.auto.sums ∙ c.loop-u.invariant.1.1

ns_long : (c : After-trace_step) → length c.trace_step.new.ns ≡ 112
ns_long c = c.trace_step.auto.ns ∙ c.loop-u.invariant.1.2

pub loop-u-init : goal.loop-u-init
unfolding upto
loop-u-init c =
    ((refl, refl), (refl, c.requires.stage.for_sums, c.requires.stage.for_ns), c.requires.stage.records, steps_none _ _ _)

pub trace_step-requires : goal.trace_step-requires
trace_step-requires c = (
  record {
    bytes = c.requires.stage.bytes;
    pass = c.requires.stage.pass;
    width = c.requires.stage.width;
    room = omega (arith, c.requires.stage.room, c.loop-u.invariant.1.0);
    depth = c.requires.stage.depth;
    quantiser = c.requires.stage.quantiser;
    for_sums = c.loop-u.invariant.1.1;
    for_ns = c.loop-u.invariant.1.2;
    records = c.loop-u.invariant.2;
  },
  due_inside c.args.stage c.args.plan c.requires.plan c.loop-u.u c.in-Some.x (sym c.due_at.ensures ∙ c.in-Some.is) c.requires.even c.loop-u-test.true,
)

pub returns-in_err-at : goal.returns-in_err-at
returns-in_err-at c =
    record {
      says = rw (passed_on _ _ c.from_residual.ensures)
          (says_is (pass_is c.args.stage c.args.block.now c.args.plan _ refl _)
          (turn_stops _ _ (steps_next c.args.stage c.args.block.now (quarter c.args.stage.w c.args.plan) _) (test (goal.at.returns-in_err-at c).After-trace_step) c.loop-u.invariant.3 (said (goal.at.returns-in_err-at c).After-trace_step) c.in_err-at.was));
      records = c.trace_step.ensures.records;
    }

pub loop-u-preserved-in_default : goal.loop-u-preserved-in_default
loop-u-preserved-in_default c = (
  c.loop-u.invariant.0,
  c.loop-u.invariant.1,
  c.loop-u.invariant.2,
  skipped c.args.stage c.args.block.now c.args.plan c.loop-u.u (sym c.due_at.ensures ∙ c.in_default.is) _ _ c.loop-u.invariant.3,
)

pub loop-u-preserved : goal.loop-u-preserved
loop-u-preserved c = (
  (refl, refl),
  (lines_long (goal.at.loop-u-preserved c).After-trace_step, sums_long (goal.at.loop-u-preserved c).After-trace_step, ns_long (goal.at.loop-u-preserved c).After-trace_step),
  c.trace_step.ensures.records,
  turn_at _ _ (steps_next c.args.stage c.args.block.now (quarter c.args.stage.w c.args.plan) _) (test (goal.at.loop-u-preserved c).After-trace_step) c.loop-u.invariant.3 (said (goal.at.loop-u-preserved c).After-trace_step) c.in_ok-at.was,
)

pub returns : goal.returns
returns c =
    record {
      says = says_is (pass_is c.args.stage c.args.block.now c.args.plan c.loop-u.u (omega (arith, c.loop-u-test.false, c.loop-u.auto.u-end)) _) (record { is = c.loop-u.invariant.3 });
      records = c.loop-u.invariant.2;
    }
