-- `tight_diagnosis::trace::record_in` meets its contract. Assumes nothing.
use mathlib.Core.Path.{sym}
use Rattle.pass_steps.proofs.ZipLaws.{record_is, record_in_range}
use Rattle.tight_diagnosis.proofs.trace.record_in.Goals as goal

pub returns : goal.returns
returns c =
    (sym (record_is c.args.sums.now c.args.ns.now c.requires.set_in_range c.args.slot c.requires.slot_bound.0), record_in_range c.args.sums.now c.args.ns.now c.requires.set_in_range c.args.slot c.requires.slot_bound.0)
