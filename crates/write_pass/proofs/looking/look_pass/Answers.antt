-- `write_pass::looking::look_pass` meets its contract: before each turn the steps of the turns so far were right. Assumes nothing.
use borrow.Author.Tests.{not-false}
use mathlib.Core.Bool.{false≢true}
use mathlib.Core.Path.{refl, ◌∙◌}
use native.Mathlib.Omega.{arith}
use Rattle.quantiser.specs.Quantisers.{largest}
use Rattle.pass_schedule.specs.Steps.{even_part, upto}
use Rattle.write_pass.specs.Looks.{Right}
use Rattle.write_pass.specs.Puts.{Within}
use Rattle.write_pass.proofs.LookLaws.{right_both, right_none, right_within, right_other}
use Rattle.write_pass.proofs.TurnPuts.{turn_more, all_turns, wanted_even, wanted_odd}
use Rattle.write_pass.proofs.looking.look_pass.Goals as goal
use Rattle.write_pass.proofs.looking.look_pass.Goals.{At-loop-p, Else-not-look_even}

-- the samples so far
held : (c : At-loop-p) → Within (largest c.args.bits) c.loop-p.lines
held c = right_within _ _ _ _ _ _ _ c.loop-p.invariant.looked c.requires.held

-- the even position was right
evens : (c : Else-not-look_even) →
    Right c.args.bits c.args.w c.args.samples.now c.args.n (even_part c.args.w c.args.plan c.loop-p.p) c.loop-p.lines c.look_even.new.lines
evens c = c.look_even.ensures (not-false _ c.if-not-look_even.false-raw)

pub loop-p-init : goal.loop-p-init
unfolding upto
loop-p-init c = record { even = refl; last = omega arith; same = refl; looked = right_none _ _ _ _ _ }

pub look_even-requires : goal.look_even-requires
look_even-requires c =
    record {
      width = c.requires.high;
      plan = c.requires.plan;
      depth = c.requires.depth;
      line = c.requires.line;
      samples = c.requires.samples;
      wanted = wanted_even _ _ _ _ _ c.loop-p.p c.loop-p.invariant.even c.requires.even c.loop-p-test.true c.requires.wanted;
      long = omega (arith, c.requires.long, c.loop-p.invariant.same);
      held = held (goal.at.look_even-requires c).At-loop-p;
    }

pub returns-then-not-look_even : goal.returns-then-not-look_even
returns-then-not-look_even c e = absurd (false≢true e)

pub look_odd-requires : goal.look_odd-requires
look_odd-requires c =
    record {
      look_asks = record {
        width = c.requires.high;
        plan = c.requires.plan;
        depth = c.requires.depth;
        line = c.requires.line;
        samples = c.requires.samples;
        wanted = wanted_odd _ _ _ _ _ c.loop-p.p c.loop-p.invariant.even c.requires.even c.loop-p-test.true c.requires.wanted;
        long = omega (arith, c.requires.long, c.loop-p.invariant.same, c.look_even.auto.lines);
        held = right_within _ _ _ _ _ _ _ (evens (goal.at.look_odd-requires c).Else-not-look_even) (held (goal.at.look_odd-requires c).At-loop-p);
      };
      p_bound = omega (arith, c.loop-p-test.true, c.loop-p.invariant.even, c.requires.even);
    }

pub returns-then-not-look_odd : goal.returns-then-not-look_odd
returns-then-not-look_odd c e = absurd (false≢true e)

pub loop-p-preserved : goal.loop-p-preserved
loop-p-preserved c =
    record {
      even = omega (arith, c.loop-p.invariant.even);
      last = omega (arith, c.loop-p.invariant.even, c.loop-p-test.true, c.requires.even);
      same = c.look_odd.auto.lines ∙ (c.look_even.auto.lines ∙ c.loop-p.invariant.same);
      looked = right_other _ _ _ _ _ _ (turn_more c.args.w c.args.plan c.loop-p.p c.loop-p.invariant.even)
          (right_both _ _ _ _ _ _ _ _ _ (right_both _ _ _ _ _ _ _ _ _ c.loop-p.invariant.looked (evens (goal.at.loop-p-preserved c).Else-not-look_even)) (c.look_odd.ensures (not-false _ c.if-not-look_odd.false-raw)));
    }

pub returns : goal.returns
returns c e =
    right_other _ _ _ _ _ _ (all_turns c.args.w c.args.plan c.loop-p.p c.requires.even (omega (arith, c.loop-p.invariant.even, c.loop-p.invariant.last, c.loop-p-test.false, c.requires.even))) c.loop-p.invariant.looked

pub shape_of-lines-then-not-look_even : goal.shape_of-lines-then-not-look_even
shape_of-lines-then-not-look_even c = c.look_even.auto.lines ∙ c.loop-p.invariant.same

pub shape_of-lines-then-not-look_odd : goal.shape_of-lines-then-not-look_odd
shape_of-lines-then-not-look_odd c =
    c.look_odd.auto.lines ∙ (c.look_even.auto.lines ∙ c.loop-p.invariant.same)

pub shape_of-lines : goal.shape_of-lines
shape_of-lines c = c.loop-p.invariant.same
