-- `tight_findings::find` meets its contract, by the two ways in which opening ends. Assumes nothing.
use mathlib.Core.Path.{sym, ◌∙◌}
use Rattle.numbers.proofs.PassedLaws.{passed_on}
use Rattle.tight_findings.proofs.FindingLaws.{find_refused, find_lossless, find_lossy}
use Rattle.tight_findings.proofs.find.Goals as goal

pub returns-then-h : goal.returns-then-h
returns-then-h c =
    rw c.find_in.ensures (sym (find_lossless _ _ (sym c.open.ensures ∙ c.in_ok-h.was) c.if-h.true))

pub returns-in_err-h : goal.returns-in_err-h
returns-in_err-h c = passed_on _ _ c.from_residual.ensures ∙ sym (find_refused _ _ (sym c.open.ensures ∙ c.in_err-h.was))

pub returns : goal.returns
returns c =
    sym (find_lossy _ c.in_ok-h.h (sym c.open.ensures ∙ c.in_ok-h.was) c.if-h.false)
