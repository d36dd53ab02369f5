-- `tight_diagnosis::trace::trace_step` meets its contract: a sample that is interpolated, cut off, bad or read, by the answers of the leaves. Assumes nothing.
use Rattle.std.proofs.lemmas.Bool.{not-true, not-false}
use mathlib.Core.Bool.{true}
use mathlib.Core.List.{[], ◌∷◌}
use mathlib.Core.Path.{◌≡◌, sym, ◌∙◌}
use Rattle.pass_steps.specs.Contexts.{context_in}
use Rattle.pass_steps.proofs.ContextLaws.{context_is}
use Rattle.read_block.specs.BadCodes.{bad_at}
use Rattle.tight_diagnosis.specs.Ways.{step_of, step_way, steps_way}
use Rattle.tight_diagnosis.specs.Traces.{clean}
use Rattle.tight_diagnosis.proofs.SampleLaws.{read_small, Here, interpolated, reader_small, total_small, step_cut, step_bad, step_good}
use Rattle.tight_diagnosis.proofs.WayLaws.{says_is, steps_one}
use Rattle.tight_diagnosis.proofs.trace.trace_step.Goals as goal
use Rattle.tight_diagnosis.proofs.trace.trace_step.Goals.{After-context_at-here, After-record_in-old}

-- what is said of its step is said of it
as_step : (c : After-context_at-here) → let r = clean c.args.lines.now c.args.sums.now c.args.ns.now c.args.from in
    steps_way c.args.stage c.args.block.now (step_of c.args.x ∷ []) r ≡ step_way c.args.stage c.args.block.now (step_of c.args.x) r
as_step c = steps_one c.args.stage c.args.block.now (step_of c.args.x) _

-- the context is that of its line and position
found : (c : After-context_at-here) → c.context_at-here.result ≡ context_in c.args.stage.w c.args.lines.now c.args.x.line c.args.x.position
found c =
    context_is c.args.stage.w c.args.x.line c.args.x.position c.args.lines.now c.requires.1.low
    c.left_of-i.ensures.0 c.context_at-here.ensures.0

here : (c : After-record_in-old) →
    Here c.args.stage c.args.x.line c.args.x.position c.args.lines.now c.args.sums.now c.args.ns.now
    c.left_of-i.result c.context_at-here.result c.look_of-h.result c.slot_of-j.result
    c.record_in-old.result
here c =
    record {
      place = c.left_of-i.ensures.0;
      context = found (goal.at.After-record_in-old c).After-context_at-here;
      look = c.look_of-h.ensures.0;
      slot = c.slot_of-j.ensures.0;
      record_is = c.record_in-old.ensures.0;
      quantiser = c.requires.0.quantiser;
    }

coded : (c : After-record_in-old) → c.args.x.coded ≡ true
coded c = not-false _ c.if-not-x.false

pub returns-then-not-x : goal.returns-then-not-x
returns-then-not-x c =
    record {
      says = says_is (as_step (goal.at.returns-then-not-x c).After-context_at-here) (record
          { is = interpolated _ _ _ _ _ _ _ _ _ _ _ c.left_of-i.ensures.0 (found (goal.at.returns-then-not-x c).After-context_at-here) (not-true _ c.if-not-x.true) });
      records = c.requires.0.records;
    }

pub read_code-requires : goal.read_code-requires
read_code-requires c =
    (c.requires.0.bytes, (c.k-k.ensures.1, reader_small c.args.stage c.requires.0.quantiser c.requires.0.depth.1))

pub returns-in_default : goal.returns-in_default
returns-in_default c =
    record {
      says = says_is (as_step (goal.at.returns-in_default c).After-context_at-here) (record
          { is = step_cut _ _ (here (goal.at.returns-in_default c).After-record_in-old) (coded (goal.at.returns-in_default c).After-record_in-old) c.k-k.ensures.0 c.read_code.ensures.0 c.in_default.is });
      records = c.requires.0.records;
    }

pub sample-requires : goal.sample-requires
sample-requires c =
    let b = read_small c.args.block.now c.read_code.result _ c.read_code.ensures.1 c.in-Some.is in
    (c.largest-m.ensures.1, (c.look_of-h.ensures.1.1.0, (total_small c.args.stage c.requires.0.quantiser c.requires.0.depth.1, (c.context_at-here.ensures.1.prediction, b))))

pub returns-in-Some-reason_of : goal.returns-in-Some-reason_of
returns-in-Some-reason_of c =
    record {
      says = says_is (as_step (goal.at.returns-in-Some-reason_of c).After-context_at-here) (record {
        is = (
          bad_at c.args.stage.line c.args.stage.pass (step_of c.args.x) (clean c.args.lines.now c.args.sums.now c.args.ns.now c.args.from) _,
          step_bad _ _ (here (goal.at.returns-in-Some-reason_of c).After-record_in-old) (coded (goal.at.returns-in-Some-reason_of c).After-record_in-old) c.k-k.ensures.0 c.read_code.ensures.0 c.in-Some.is c.largest-m.ensures.0 (sym c.reason_of.ensures ∙ c.in-Some-reason_of.is),
          c.bad_spot.ensures,
        );
      });
      records = c.requires.0.records;
    }

pub returns-in-None : goal.returns-in-None
returns-in-None c =
    record {
      says = says_is (as_step (goal.at.returns-in-None c).After-context_at-here) (record {
        is = step_good _ _ (here (goal.at.returns-in-None c).After-record_in-old) (coded (goal.at.returns-in-None c).After-record_in-old) c.k-k.ensures.0 c.read_code.ensures.0 c.in-Some.is c.largest-m.ensures.0 _ _
            (sym c.reason_of.ensures ∙ c.in-None.is) c.sample.ensures.0 c.update_in.ensures.ns_after;
      });
      records = c.update_in.ensures.set_in_range_2;
    }
