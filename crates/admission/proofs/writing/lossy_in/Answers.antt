-- `admission::writing::lossy_in` meets its contract: refusals 16 and 17, then those of the set. Assumes nothing.
use mathlib.Core.Path.{◌∙◌}
use Rattle.admission.proofs.WritingLaws.{lossless_set, wrong_bases, right_bases}
use Rattle.admission.proofs.writing.lossy_in.Goals as goal

pub returns-then-lossless : goal.returns-then-lossless
returns-then-lossless c = lossless_set c.args.h c.args.samples c.args.records c.args.bases c.args.count c.if-lossless.true

pub returns-then-bases-lines : goal.returns-then-bases-lines
returns-then-bases-lines c =
    wrong_bases c.args.h c.args.samples c.args.records c.args.bases c.args.count c.if-lossless.false c.if-bases-lines.true

pub returns : goal.returns
returns c =
    c.set_in.ensures ∙ right_bases c.args.h c.args.samples c.args.records c.args.bases c.args.count c.if-lossless.false c.if-bases-lines.false
