-- `tight_diagnosis::answer_of` meets its contract, by the two ways in which the tight reading begins. Assumes nothing.
use mathlib.Core.Path.{refl, sym, ◌∙◌}
use Rattle.admission.proofs.CallLaws.{block_reads}
use Rattle.tight_diagnosis.proofs.FaultLaws.{answer_refused, answer_reads}
use Rattle.numbers.proofs.PassedLaws.{passed_on}
use Rattle.tight_diagnosis.proofs.answer_of.Goals as goal

pub answer_at-requires : goal.answer_at-requires
answer_at-requires c =
    let k = block_reads _ _ _ _ _ _ (sym c.block_begins.ensures ∙ c.in_ok-h.was) in
    (k.opens, k.lossless refl)

pub returns-in_err-h : goal.returns-in_err-h
returns-in_err-h c = rw (passed_on _ _ c.from_residual.ensures) (sym (answer_refused _ _ _ (sym c.block_begins.ensures ∙ c.in_err-h.was)))

pub returns : goal.returns
returns c =
    c.answer_at.ensures ∙ sym (answer_reads _ _ _ (sym c.block_begins.ensures ∙ c.in_ok-h.was))
