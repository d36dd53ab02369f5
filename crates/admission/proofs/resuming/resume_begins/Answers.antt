-- `admission::resuming::resume_begins` meets its contract, by the two ways in which opening ends. Assumes nothing.
use mathlib.Core.Path.{sym, ◌∙◌}
use Rattle.admission.proofs.ResumingLaws.{resume_is}
use Rattle.numbers.proofs.PassedLaws.{passed_on}
use Rattle.admission.proofs.resuming.resume_begins.Goals as goal

pub returns-in_err-h : goal.returns-in_err-h
returns-in_err-h c = rw (passed_on _ _ c.from_residual.ensures) (resume_is _ _ (sym c.open.ensures ∙ c.in_err-h.was) _ _ _ _ _)

pub returns : goal.returns
returns c = c.resume_in.ensures ∙ resume_is _ _ (sym c.open.ensures ∙ c.in_ok-h.was) _ _ _ _ _
