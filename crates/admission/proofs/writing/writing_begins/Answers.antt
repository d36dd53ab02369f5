-- `admission::writing::writing_begins` meets its contract, by the two ways in which parsing ends. Assumes nothing.
use mathlib.Core.Path.{sym, ◌∙◌}
use Rattle.admission.proofs.WritingLaws.{writing_is}
use Rattle.numbers.proofs.PassedLaws.{passed_on}
use Rattle.admission.proofs.writing.writing_begins.Goals as goal

pub returns-in_err-h : goal.returns-in_err-h
returns-in_err-h c = rw (passed_on _ _ c.from_residual.ensures) (writing_is _ _ (sym c.parse.ensures ∙ c.in_err-h.was) _ _ _)

pub returns : goal.returns
returns c = c.writing_in.ensures ∙ writing_is _ _ (sym c.parse.ensures ∙ c.in_ok-h.was) _ _ _
