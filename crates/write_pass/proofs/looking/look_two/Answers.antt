-- `write_pass::looking::look_two` meets its contract: one sample after the other. Assumes nothing.
use borrow.Author.Tests.{not-false}
use mathlib.Core.Bool.{false≢true}
use native.Mathlib.Omega.{arith}
use Rattle.write_pass.proofs.LookLaws.{two_right}
use Rattle.write_pass.proofs.looking.look_two.Goals as goal

pub look_at-requires : goal.look_at-requires
look_at-requires c =
    record {
      w_bound = (c.requires.look_asks.width, (c.requires.p_lt_w, (c.requires.look_asks.line, (c.requires.look_asks.plan.first_low, c.requires.look_asks.plan.first_high))));
      w_in_bounds = (c.requires.look_asks.samples, c.requires.look_asks.long);
    }

pub returns-then-not-look_at : goal.returns-then-not-look_at
returns-then-not-look_at c e = absurd (false≢true e)

pub look_at-requires-2 : goal.look_at-requires-2
look_at-requires-2 c =
    record {
      w_bound = (c.requires.look_asks.width, (c.requires.p_lt_w, (c.requires.look_asks.line, (c.requires.look_asks.plan.second_low, c.requires.look_asks.plan.second_high))));
      w_in_bounds = (c.requires.look_asks.samples, omega (arith, c.requires.look_asks.long, c.look_at.auto));
    }

pub returns : goal.returns
returns c e =
    two_right _ _ _ _ _ _ _ _ _ c.requires.look_asks.held c.requires.look_asks.wanted (c.look_at.ensures (not-false _ c.if-not-look_at.false-raw)) (c.look_at-2.ensures e)
