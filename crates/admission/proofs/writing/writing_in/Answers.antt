-- `admission::writing::writing_in` meets its contract: refusal 8, then those of the set. Assumes nothing.
use borrow.Author.Tests.{not-true, not-false}
use mathlib.Core.Path.{◌∙◌}
use Rattle.admission.proofs.WritingLaws.{lossy_set, a_set}
use Rattle.admission.proofs.writing.writing_in.Goals as goal

pub returns-then-not-lossless : goal.returns-then-not-lossless
returns-then-not-lossless c = lossy_set c.args.h c.args.samples c.args.records c.args.count (not-true _ c.if-not-lossless.true-raw)

pub returns : goal.returns
returns c =
    c.set_in.ensures ∙ a_set c.args.h c.args.samples c.args.records c.args.count (not-false _ c.if-not-lossless.false-raw)
