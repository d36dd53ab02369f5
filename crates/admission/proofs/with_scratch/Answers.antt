-- `admission::with_scratch` meets its contract. Assumes nothing.
use mathlib.Core.Path.{sym, ◌∙◌}
use Rattle.admission.proofs.BeginningLaws.{scratch_short, scratch_fits}
use Rattle.admission.proofs.with_scratch.Goals as goal

pub returns-then-is_short_scratch : goal.returns-then-is_short_scratch
returns-then-is_short_scratch c = scratch_short c.args.h c.args.samples c.args.records (sym c.is_short_scratch.ensures ∙ c.if-is_short_scratch.true)

pub returns : goal.returns
returns c = scratch_fits c.args.h c.args.samples c.args.records (sym c.is_short_scratch.ensures ∙ c.if-is_short_scratch.false)
