-- `write_pass::choose_code` meets its contract. Assumes nothing.
use native.Mathlib.Omega.{arith}
use Rattle.write_pass.proofs.ChosenLaws.{chosen_exact, chosen_near, chosen_small, near_lt}
use Rattle.write_pass.proofs.choose_code.Goals as goal

pub returns-then-base-eq0 : goal.returns-then-base-eq0
returns-then-base-eq0 c =
    record {
      code_value = (chosen_exact _ _ _ _ _ _ c.requires.depth.0.0 c.requires.depth.1.1 c.requires.prediction_bound.0 c.requires.prediction_bound.1 c.largest-m.ensures.0 c.if-base-eq0.true c.code_for.ensures.0).0;
      value_value = (chosen_exact _ _ _ _ _ _ c.requires.depth.0.0 c.requires.depth.1.1 c.requires.prediction_bound.0 c.requires.prediction_bound.1 c.largest-m.ensures.0 c.if-base-eq0.true c.code_for.ensures.0).1;
    }

pub code_near-code-requires : goal.code_near-code-requires
code_near-code-requires c =
    (c.requires.depth.1.0, chosen_small _ _ _ c.args.negative _ _ c.requires.depth.0.0 c.requires.depth.1.1 c.requires.prediction_bound.0 c.requires.prediction_bound.1 c.requires.depth.0.1)

pub sample-requires : goal.sample-requires
sample-requires c =
    let small = chosen_small c.args.bits c.args.base c.args.total c.args.negative c.args.prediction c.args.v c.requires.depth.0.0 c.requires.depth.1.1 c.requires.prediction_bound.0 c.requires.prediction_bound.1 c.requires.depth.0.1 in
    let lt = near_lt c.args.bits c.args.base c.args.total c.args.negative c.args.prediction c.args.v c.requires.depth.0.0 c.requires.depth.1.1 c.requires.prediction_bound.0 c.requires.prediction_bound.1 in
    (c.largest-m.ensures.1, (c.requires.depth.1.0, (small.0, (small.1.0, omega (arith, c.code_near-code.ensures, lt, small.0)))))

pub returns : goal.returns
returns c =
    record {
      code_value = (chosen_near _ _ _ _ _ _ c.requires.depth.0.0 c.requires.depth.1.1 c.requires.prediction_bound.0 c.requires.prediction_bound.1 c.largest-m.ensures.0 c.code_near-code.ensures c.sample.ensures).0;
      value_value = (chosen_near _ _ _ _ _ _ c.requires.depth.0.0 c.requires.depth.1.1 c.requires.prediction_bound.0 c.requires.prediction_bound.1 c.largest-m.ensures.0 c.code_near-code.ensures c.sample.ensures).1;
    }
