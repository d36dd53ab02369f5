-- `pass_steps::record_at` meets its contract. Assumes nothing.
use mathlib.Core.Path.{sym}
use Rattle.pass_steps.proofs.ZipLaws.{record_is, record_in_range}
use Rattle.pass_steps.proofs.record_at.Goals as goal

pub returns : goal.returns
returns c =
    (sym (record_is c.args.sums.now c.args.ns.now c.requires.1 c.args.slot c.requires.0), record_in_range c.args.sums.now c.args.ns.now c.requires.1 c.args.slot c.requires.0)
