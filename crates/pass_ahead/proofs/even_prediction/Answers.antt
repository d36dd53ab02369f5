-- `pass_ahead::even_prediction` meets its contract. Assumes nothing.
use Rattle.pass_ahead.proofs.LookLaws.{even_made}
use Rattle.pass_ahead.proofs.even_prediction.Goals as goal

pub returns : goal.returns
returns c =
    even_made c.args.rf c.args.rc c.args.rb c.args.rd _ _ _ _ _ _ _ _ _ c.abs_diff-f.ensures c.abs_diff-c.ensures c.abs_diff-d.ensures c.is_most-no_c.ensures c.is_most-no_d.ensures c.pick-x.ensures c.pick-y.ensures c.half_sum.ensures c.half_sum-2.ensures
