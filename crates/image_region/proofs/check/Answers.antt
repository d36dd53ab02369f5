-- `image_region::check` meets its contract, by its tests. Assumes nothing.
use mathlib.Core.Path.{sym, ◌∙◌}
use Rattle.image_region.proofs.CheckLaws.{not_empty, says_refused, says_empty, says_touched}
use Rattle.image_region.proofs.check.Goals as goal

pub returns-then-is_outside : goal.returns-then-is_outside
returns-then-is_outside c = says_refused _ _ _ (sym c.is_outside.ensures ∙ c.if-is_outside.true)

pub returns-then-is_empty : goal.returns-then-is_empty
returns-then-is_empty c =
    says_empty _ _ _ (sym c.is_outside.ensures ∙ c.if-is_outside.false) (sym c.is_empty.ensures ∙ c.if-is_empty.true)

pub span_of-requires : goal.span_of-requires
span_of-requires c = not_empty c.args.r (sym c.is_empty.ensures ∙ c.if-is_empty.false)

pub returns : goal.returns
returns c =
    says_touched _ _ _ _ (sym c.is_outside.ensures ∙ c.if-is_outside.false) (sym c.is_empty.ensures ∙ c.if-is_empty.false) c.span_of.ensures
