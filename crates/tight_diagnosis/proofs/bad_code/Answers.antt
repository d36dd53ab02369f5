-- `tight_diagnosis::bad_code` meets its contract. Assumes nothing.
use mathlib.Core.Path.{ap, ◌∙◌}
use Rattle.read_block.specs.Words.{answer_words}
use Rattle.tight_diagnosis.specs.Faults.{fault_words}
use Rattle.tight_diagnosis.proofs.bad_code.Goals as goal

pub returns : goal.returns
returns c =
    (c.fault_words.ensures ∙ ap fault_words c.fault_of.ensures, c.refusal_in.ensures ∙ ap answer_words c.answer_of-a.ensures)
