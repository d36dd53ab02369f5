-- `admission::block_begins` meets its contract, by the two ways in which opening ends. Assumes nothing.
use mathlib.Core.Path.{sym, ◌∙◌}
use Rattle.admission.proofs.BeginningLaws.{block_is}
use Rattle.numbers.proofs.PassedLaws.{passed_on}
use Rattle.admission.proofs.block_begins.Goals as goal

pub returns-in_err-h : goal.returns-in_err-h
returns-in_err-h c = rw (passed_on _ _ c.from_residual.ensures) (block_is _ _ (sym c.open.ensures ∙ c.in_err-h.was) _ _ _ _)

pub returns : goal.returns
returns c = c.block_in.ensures ∙ block_is _ _ (sym c.open.ensures ∙ c.in_ok-h.was) _ _ _ _
