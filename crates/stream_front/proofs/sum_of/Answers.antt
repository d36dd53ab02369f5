-- `stream_front::sum_of` meets its contract. Assumes nothing.
use Rattle.std.proofs.Common.{arith, sym, ◌∙◌, length}
use Rattle.std.proofs.lemmas.Iterator.{YieldsList-from_slice}
use Rattle.std.proofs.lemmas.Iterator.Consumers.{sum_from_yields_List, fits_from_yields_list}
use Rattle.stream_front.proofs.FrontLaws.{sum_all, sum_small}
use Rattle.stream_front.proofs.sum_of.Goals as goal

pub sum-requires-clause-fits : goal.sum-requires-clause-fits
sum-requires-clause-fits c =
    let s = sum_small c.args.lengths.now (length c.args.lengths.now) c.requires.1 in
    let e = sum_all c.args.lengths.now in
    fits_from_yields_list c.iter.result _ (YieldsList-from_slice c.args.lengths.now cc) (omega (arith, c.requires.0))

pub returns : goal.returns
returns c =
    let e = sum_from_yields_List c.iter.result _ c.sum.ensures.ran (YieldsList-from_slice c.args.lengths.now cc) ∙ sym (sum_all c.args.lengths.now) in
    (e, omega (arith, e, sum_small c.args.lengths.now (length c.args.lengths.now) c.requires.1))
