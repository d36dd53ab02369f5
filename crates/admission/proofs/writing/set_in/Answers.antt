-- `admission::writing::set_in` meets its contract: refusal 9, then 10. Assumes nothing.
use mathlib.Core.Path.{◌∙◌}
use Rattle.admission.proofs.WritingLaws.{wrong_count, right_count}
use Rattle.admission.proofs.writing.set_in.Goals as goal

pub returns-then-count-set_size : goal.returns-then-count-set_size
returns-then-count-set_size c =
    wrong_count c.args.h c.args.samples c.args.records c.args.count _ c.set_size.ensures c.if-count-set_size.true

pub returns : goal.returns
returns c =
    c.with_scratch.ensures ∙ right_count c.args.h c.args.samples c.args.records c.args.count _ c.set_size.ensures c.if-count-set_size.false
