-- `admission::block_in` meets its contract: refusals 5 and 8, then 10. Assumes nothing.
use mathlib.Core.Path.{◌∙◌}
use Rattle.admission.proofs.BeginningLaws.{no_block, lossy_block, a_block}
use Rattle.admission.proofs.block_in.Goals as goal

pub returns-then-blocks-b : goal.returns-then-blocks-b
returns-then-blocks-b c = no_block c.args.h c.args.samples c.args.records c.args.tight c.args.b c.if-blocks-b.true

pub returns-then-tight-lossless : goal.returns-then-tight-lossless
returns-then-tight-lossless c =
    lossy_block c.args.h c.args.samples c.args.records c.args.tight c.args.b c.if-blocks-b.false c.if-tight-lossless.true

pub returns : goal.returns
returns c =
    c.with_scratch.ensures ∙ a_block c.args.h c.args.samples c.args.records c.args.tight c.args.b c.if-blocks-b.false c.if-tight-lossless.false
