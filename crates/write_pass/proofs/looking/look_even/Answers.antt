-- `write_pass::looking::look_even` meets its contract: both samples at an even position, or none. Assumes nothing.
use Rattle.write_pass.proofs.LookLaws.{even_steps_lem, no_even_right, right_other}
use Rattle.write_pass.proofs.StepPuts.{same_wanted}
use Rattle.write_pass.proofs.looking.look_even.Goals as goal

pub returns-then-p-spot : goal.returns-then-p-spot
returns-then-p-spot c e = no_even_right _ _ _ _ c.args.spot.plan _ _ c.if-p-spot.true

pub look_two-requires : goal.look_two-requires
look_two-requires c =
    record {
      look_asks = record {
        width = c.requires.width;
        plan = c.requires.plan;
        depth = c.requires.depth;
        line = c.requires.line;
        samples = c.requires.samples;
        wanted = same_wanted _ _ _ _ _ _ (even_steps_lem _ c.args.spot.plan _ c.if-p-spot.false c.has_code.ensures c.has_code-2.ensures) c.requires.wanted;
        long = c.requires.long;
        held = c.requires.held;
      };
      p_lt_w = c.if-p-spot.false;
    }

pub returns : goal.returns
returns c e =
    right_other _ _ _ _ _ _ (even_steps_lem _ c.args.spot.plan _ c.if-p-spot.false c.has_code.ensures c.has_code-2.ensures) (c.look_two.ensures e)
