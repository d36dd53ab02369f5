-- `admission::resuming::resume_in` meets its contract: refusal 5, then those of the region. Assumes nothing.
use mathlib.Core.Path.{◌∙◌}
use Rattle.admission.proofs.ResumingLaws.{no_resumed, a_resumed}
use Rattle.admission.proofs.resuming.resume_in.Goals as goal

pub returns-then-b-blocks : goal.returns-then-b-blocks
returns-then-b-blocks c =
    c.region_in.ensures ∙ a_resumed c.args.h c.args.samples c.args.records c.args.b c.args.r c.args.image c.if-b-blocks.true

pub returns : goal.returns
returns c = no_resumed c.args.h c.args.samples c.args.records c.args.b c.args.r c.args.image c.if-b-blocks.false
