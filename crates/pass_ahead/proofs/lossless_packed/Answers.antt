-- `pass_ahead::lossless_packed` meets its contract. Assumes nothing.
use Rattle.pass_ahead.proofs.LookLaws.{lossless_look}
use Rattle.pass_ahead.proofs.lossless_packed.Goals as goal

pub returns : goal.returns
returns c =
    lossless_look c.args.rf c.args.rc c.args.rb _ _ _ c.raised16.ensures.0 c.raised16-2.ensures.0 c.packed.ensures
