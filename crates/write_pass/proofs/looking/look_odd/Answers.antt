-- `write_pass::looking::look_odd` meets its contract: both samples at an odd position, or none. Assumes nothing.
use native.Mathlib.Omega.{arith}
use Rattle.write_pass.proofs.LookLaws.{odd_steps_lem, no_odd_right, right_other}
use Rattle.write_pass.proofs.StepPuts.{same_wanted}
use Rattle.write_pass.proofs.looking.look_odd.Goals as goal

pub returns-then-p-lt8 : goal.returns-then-p-lt8
returns-then-p-lt8 c e = no_odd_right _ _ _ _ c.args.spot.plan _ _ c.if-p-lt8.true

pub look_two-requires : goal.look_two-requires
look_two-requires c =
    record {
      look_asks = record {
        width = c.requires.look_asks.width;
        plan = c.requires.look_asks.plan;
        depth = c.requires.look_asks.depth;
        line = c.requires.look_asks.line;
        samples = c.requires.look_asks.samples;
        wanted = same_wanted _ _ _ _ _ _ (odd_steps_lem c.args.spot.plan _ c.if-p-lt8.false) c.requires.look_asks.wanted;
        long = c.requires.look_asks.long;
        held = c.requires.look_asks.held;
      };
      p_lt_w = omega (arith, c.if-p-lt8.false, c.requires.p_bound);
    }

pub returns : goal.returns
returns c e =
    right_other _ _ _ _ _ _ (odd_steps_lem c.args.spot.plan _ c.if-p-lt8.false) (c.look_two.ensures e)
