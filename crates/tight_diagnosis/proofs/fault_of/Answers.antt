-- `tight_diagnosis::fault_of` meets its contract, by the two ways in which the tight reading begins. Assumes nothing.
use mathlib.Core.Path.{sym, ◌∙◌}
use Rattle.admission.proofs.CallLaws.{block_reads}
use Rattle.tight_diagnosis.proofs.FaultLaws.{answer_reads, fault_refused, fault_reads}
use Rattle.tight_diagnosis.proofs.fault_of.Goals as goal

pub fault_at-requires : goal.fault_at-requires
fault_at-requires c =
    let e = sym c.block_begins.ensures ∙ c.in-Ok.is in
    let k = block_reads _ _ _ _ _ _ e in
    (k.opens, c.requires ∙ answer_reads _ _ _ e)

pub returns-in_default : goal.returns-in_default
returns-in_default c = sym (fault_refused _ _ _ c.block_begins.ensures c.in_default.not-Ok)

pub returns : goal.returns
returns c =
    c.fault_at.ensures ∙ sym (fault_reads _ _ _ (sym c.block_begins.ensures ∙ c.in-Ok.is))
