-- `admission::writing::lossy_begins` meets its contract, by the two ways in which parsing ends. Assumes nothing.
use mathlib.Core.Path.{sym, ◌∙◌}
use Rattle.admission.proofs.WritingLaws.{lossy_is}
use Rattle.numbers.proofs.PassedLaws.{passed_on}
use Rattle.admission.proofs.writing.lossy_begins.Goals as goal

pub returns-in_err-h : goal.returns-in_err-h
returns-in_err-h c = rw (passed_on _ _ c.from_residual.ensures) (lossy_is _ _ (sym c.parse.ensures ∙ c.in_err-h.was) _ _ _ _)

pub returns : goal.returns
returns c = c.lossy_in.ensures ∙ lossy_is _ _ (sym c.parse.ensures ∙ c.in_ok-h.was) _ _ _ _
