-- `pass_steps::update_at` meets its contract. Assumes nothing.
use mathlib.Core.Path.{◌∙◌}
use Rattle.pass_steps.proofs.ZipLaws.{zip_set, stored_in_range}
use Rattle.pass_steps.proofs.update_at.Goals as goal

pub returns : goal.returns
returns c =
    record {
      ns_after = zip_set c.args.sums.now c.args.ns.now c.args.slot c.update-new.result ∙ rw (c.update-new.ensures.0, c.residual_size.ensures.0);
      set_in_range_2 = stored_in_range c.args.sums.now c.args.ns.now c.requires.set_in_range c.args.slot c.update-new.result c.update-new.ensures.1;
    }
