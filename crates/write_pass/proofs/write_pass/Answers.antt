-- `write_pass::write_pass` meets its contract: after each turn the steps of the turns so far have put their bits. Assumes nothing.
use mathlib.Core.List.{◌++◌}
use mathlib.Core.Path.{◌≡◌, refl, ◌∙◌}
use native.Mathlib.Omega.{arith}
use lib.ListN.{length}
use Rattle.pass_schedule.specs.Steps.{even_part, odd_part, upto}
use Rattle.pass_steps.proofs.TableLaws.{are_quantisers}
use Rattle.quantiser.specs.Quantisers.{largest}
use Rattle.write_pass.specs.Puts.{StepsPut, StepsRoom}
use Rattle.write_pass.proofs.StepPuts.{no_puts, ends, room_after, goes_on, within_after, position_after, same_steps, answered}
use Rattle.write_pass.proofs.TurnPuts.{before, turn_more, all_turns, before_le, before_evens_le, wanted_even}
use Rattle.write_pass.proofs.TurnPuts.{wanted_odd, room_turn, room_evens, turn_wrong, pass_right, pass_wrong}
use Rattle.numbers.proofs.PassedLaws.{passed_on}
use Rattle.write_pass.proofs.write_pass.Goals as goal
use Rattle.write_pass.proofs.write_pass.Goals.{After-write_even, After-write_odd, In-loop-p}

-- ---- the even position
-- there is room for it, and for the whole turn
room : (c : In-loop-p) →
    StepsRoom c.args.bits c.args.qs.base c.args.w c.args.strict c.args.samples.now c.args.n
    ((before c.args.w c.args.plan c.loop-p.p ++ even_part c.args.w c.args.plan c.loop-p.p) ++ odd_part c.args.plan c.loop-p.p) c.args.store c.args.from.0 c.args.lines.now c.args.set.sums c.args.set.ns
    c.args.out.now
room c =
    room_turn c.args.bits c.args.qs.base c.args.w c.args.strict c.args.samples.now c.args.n c.args.plan c.args.store c.args.from.0 c.args.lines.now c.args.set.sums c.args.set.ns c.args.out.now c.loop-p.p
    c.loop-p.invariant.even c.requires.even c.loop-p-test.true c.requires.room

room_even : (c : In-loop-p) →
    StepsRoom c.args.bits c.args.qs.base c.args.w c.args.strict c.args.samples.now c.args.n (before c.args.w c.args.plan c.loop-p.p ++ even_part c.args.w c.args.plan c.loop-p.p) c.args.store
    c.args.from.0 c.args.lines.now c.args.set.sums c.args.set.ns c.args.out.now
room_even c =
    room_evens c.args.bits c.args.qs.base c.args.w c.args.strict c.args.samples.now c.args.n c.args.plan c.args.store c.args.from.0 c.args.lines.now c.args.set.sums c.args.set.ns c.args.out.now c.loop-p.p
    c.loop-p.invariant.even c.requires.even c.loop-p-test.true c.requires.room

-- what stands after it
evens : (c : After-write_even) →
    StepsPut c.args.bits c.args.qs.base c.args.w c.args.strict c.args.samples.now c.args.n (before c.args.w c.args.plan c.loop-p.p ++ even_part c.args.w c.args.plan c.loop-p.p) c.args.store
    c.args.from.0 c.args.lines.now c.args.set.sums c.args.set.ns c.args.out.now
    c.write_even.new.lines c.write_even.new.sums c.write_even.new.ns c.write_even.new.out c.write_even.result
evens c =
    goes_on c.loop-p.invariant.put refl (even_part c.args.w c.args.plan c.loop-p.p) (room_even (goal.at.After-write_even c).In-loop-p) c.write_even.ensures.steps_put

odds : (c : After-write_odd) →
    StepsPut c.args.bits c.args.qs.base c.args.w c.args.strict c.args.samples.now c.args.n
    ((before c.args.w c.args.plan c.loop-p.p ++ even_part c.args.w c.args.plan c.loop-p.p) ++ odd_part c.args.plan c.loop-p.p) c.args.store c.args.from.0 c.args.lines.now c.args.set.sums c.args.set.ns
    c.args.out.now
    c.write_odd.new.lines c.write_odd.new.sums c.write_odd.new.ns c.write_odd.new.out c.write_odd.result
odds c =
    goes_on (evens (goal.at.After-write_odd c).After-write_even) c.in_ok-between.was (odd_part c.args.plan c.loop-p.p) (room (goal.at.After-write_odd c).In-loop-p) c.write_odd.ensures.steps_put

-- ---- the turn's end
-- the lengths are kept
lengths_1 : (c : After-write_even) →
    (length c.write_even.new.out ≡ length c.args.out.now) × (length c.write_even.new.lines ≡ length c.args.lines.now)
lengths_1 c =
    (c.write_even.auto.out ∙ c.loop-p.invariant.same-output, c.write_even.auto.lines ∙ c.loop-p.invariant.same_lines)

lengths_2 : (c : After-write_odd) →
    (length c.write_odd.new.out ≡ length c.args.out.now) × (length c.write_odd.new.lines ≡ length c.args.lines.now)
lengths_2 c =
    let v = lengths_1 (goal.at.After-write_odd c).After-write_even in
    (c.write_odd.auto.out ∙ v.0, c.write_odd.auto.lines ∙ v.1)

pub loop-p-init : goal.loop-p-init
unfolding upto
loop-p-init c =
    record {
      numbers = record { depth = c.requires.depth; base = c.requires.base; quantisers = are_quantisers c.args.bits c.args.qs c.requires.quantisers };
      even = refl;
      last = omega arith;
      same_lines = refl;
      same-output = refl;
      records = c.requires.records;
      ks_kept = c.ks_of-ks.ensures;
      put = no_puts _ _ _ _ _ _ _ _ _ _ _ _;
    }

pub write_even-requires : goal.write_even-requires
write_even-requires c =
    record {
      steps_ask = record {
        width = c.requires.high;
        plan = c.requires.plan;
        numbers = c.loop-p.invariant.numbers;
        line = c.requires.line;
        samples = c.requires.samples;
        wanted = wanted_even (largest c.args.bits) c.args.w c.args.samples.now c.args.n c.args.plan c.loop-p.p c.loop-p.invariant.even c.requires.even c.loop-p-test.true c.requires.wanted;
        long = omega (arith, c.requires.long, c.loop-p.invariant.same_lines);
        held = within_after c.loop-p.invariant.put refl c.requires.held;
        records = c.loop-p.invariant.records;
        low = omega (arith, c.requires.position, position_after c.loop-p.invariant.put refl c.requires.depth.1, before_le c.args.w c.args.plan c.loop-p.p, c.loop-p-test.true, c.requires.high);
        room = room_after c.loop-p.invariant.put refl (even_part c.args.w c.args.plan c.loop-p.p) c.loop-p.invariant.same-output (room_even (goal.at.write_even-requires c).In-loop-p);
      };
      are_ks = c.loop-p.invariant.ks_kept;
    }

pub returns-in_err-between : goal.returns-in_err-between
returns-in_err-between c =
    record {
      answer = rw (passed_on _ _ c.from_residual.ensures) (pass_wrong c.args.plan
          (turn_wrong c.args.bits c.args.qs.base c.args.w c.args.strict c.args.samples.now c.args.n c.args.plan c.args.store c.args.from.0 c.args.lines.now c.args.set.sums c.args.set.ns c.args.out.now c.loop-p.p
          c.loop-p.invariant.even c.requires.even c.loop-p-test.true _ _ _ _ _ _ c.in_err-between.was (ends (evens (goal.at.returns-in_err-between c).After-write_even) (odd_part c.args.plan c.loop-p.p) c.in_err-between.was)) c.in_err-between.was);
      records = rw (passed_on _ _ c.from_residual.ensures) tt;
    }

pub write_odd-requires : goal.write_odd-requires
write_odd-requires c =
    record {
      steps_ask = record {
        width = c.requires.high;
        plan = c.requires.plan;
        numbers = c.loop-p.invariant.numbers;
        line = c.requires.line;
        samples = c.requires.samples;
        wanted = wanted_odd (largest c.args.bits) c.args.w c.args.samples.now c.args.n c.args.plan c.loop-p.p c.loop-p.invariant.even c.requires.even c.loop-p-test.true c.requires.wanted;
        long = omega (arith, c.requires.long, c.loop-p.invariant.same_lines, c.write_even.auto.lines);
        held = within_after (evens (goal.at.write_odd-requires c).After-write_even) c.in_ok-between.was c.requires.held;
        records = c.write_even.ensures.set_in_range;
        low = omega (arith, c.requires.position, position_after (evens (goal.at.write_odd-requires c).After-write_even) c.in_ok-between.was c.requires.depth.1, before_evens_le c.args.w c.args.plan c.loop-p.p, c.loop-p-test.true, c.requires.high);
        room = room_after (evens (goal.at.write_odd-requires c).After-write_even) c.in_ok-between.was (odd_part c.args.plan c.loop-p.p) (c.write_even.auto.out ∙ c.loop-p.invariant.same-output) (room (goal.at.write_odd-requires c).In-loop-p);
      };
      p_bound = omega (arith, c.loop-p-test.true, c.loop-p.invariant.even, c.requires.even);
      are_ks = c.write_even.ensures.are_ks_2;
    }

pub returns-in_err-at : goal.returns-in_err-at
returns-in_err-at c =
    record {
      answer = rw (passed_on _ _ c.from_residual-in_err-at.ensures) (pass_wrong c.args.plan
          (turn_wrong c.args.bits c.args.qs.base c.args.w c.args.strict c.args.samples.now c.args.n c.args.plan c.args.store c.args.from.0 c.args.lines.now c.args.set.sums c.args.set.ns c.args.out.now c.loop-p.p
          c.loop-p.invariant.even c.requires.even c.loop-p-test.true _ _ _ _ _ _ c.in_err-at.was (odds (goal.at.returns-in_err-at c).After-write_odd)) c.in_err-at.was);
      records = rw (passed_on _ _ c.from_residual-in_err-at.ensures) tt;
    }

pub loop-p-preserved : goal.loop-p-preserved
loop-p-preserved c =
    let k = lengths_2 (goal.at.loop-p-preserved c).After-write_odd in
    record {
      numbers = c.loop-p.invariant.numbers;
      even = omega (arith, c.loop-p.invariant.even);
      last = omega (arith, c.loop-p.invariant.even, c.loop-p-test.true, c.requires.even);
      same_lines = k.1;
      same-output = k.0;
      records = c.write_odd.ensures.set_in_range;
      ks_kept = c.write_odd.ensures.are_ks_2;
      put = same_steps (turn_more c.args.w c.args.plan c.loop-p.p c.loop-p.invariant.even) (answered c.in_ok-at.was (odds (goal.at.loop-p-preserved c).After-write_odd));
    }

pub returns : goal.returns
returns c =
    record {
      answer = pass_right c.args.plan (same_steps (all_turns c.args.w c.args.plan c.loop-p.p c.requires.even (omega (arith, c.loop-p.invariant.even, c.loop-p.invariant.last, c.loop-p-test.false))) c.loop-p.invariant.put) refl;
      records = c.loop-p.invariant.records;
    }

pub ks_of-ks-requires : goal.ks_of-ks-requires
ks_of-ks-requires c = c.requires.records

pub shape_of-out-in_err-between : goal.shape_of-out-in_err-between
shape_of-out-in_err-between c = (lengths_1 (goal.at.shape_of-out-in_err-between c).After-write_even).0

pub shape_of-lines-in_err-between : goal.shape_of-lines-in_err-between
shape_of-lines-in_err-between c = (lengths_1 (goal.at.shape_of-lines-in_err-between c).After-write_even).1

pub shape_of-out-in_err-at : goal.shape_of-out-in_err-at
shape_of-out-in_err-at c = (lengths_2 (goal.at.shape_of-out-in_err-at c).After-write_odd).0

pub shape_of-lines-in_err-at : goal.shape_of-lines-in_err-at
shape_of-lines-in_err-at c = (lengths_2 (goal.at.shape_of-lines-in_err-at c).After-write_odd).1

pub shape_of-out : goal.shape_of-out
shape_of-out c = c.loop-p.invariant.same-output

pub shape_of-lines : goal.shape_of-lines
shape_of-lines c = c.loop-p.invariant.same_lines
