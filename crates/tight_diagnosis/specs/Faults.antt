-- Promises. Why a block is not tight.
use Rattle.std.specs.Prelude.{Bool, false, cond, List, [], ◌∷◌, ℕ, ◌+◌, eqb, replicate, Err, Ok, Result, None, Option, Some}
use Rattle.stream.specs.Refusals.{refusal_number}
use Rattle.stream.specs.declared.header.FujiHeader.{FujiHeader}
use Rattle.admission.specs.Beginnings.{tight_begins}
use Rattle.read_block.specs.Blocks.{State, read_lines}
use Rattle.read_block.specs.Images.{form_of, bytes_in}
use Rattle.read_block.specs.BadCodes.{BadCode, first_bad}
use Rattle.read_block.specs.TightBlocks.{tight_answer}
use Rattle.code.specs.declared.reasons.BadSpot.{BadSpot}
use Rattle.code.specs.declared.reasons.Reason.{Reason}
use Rattle.code.specs.declared.reasons.Reason.TheVariants.{Large, Escape, Zeros}
use Rattle.stream.specs.declared.header.Refusal.{Refusal}
use Rattle.tight_diagnosis.specs.declared.Fault.{Fault}

-- ---- a block

-- passes count from 1
abbrev pub spot_of : BadCode → BadSpot
spot_of b =
    record {
      line = b.line;
      pass = b.pass + 1;
      colour = b.step.line;
      position = b.step.position;
      at = b.at;
      reason = b.reason;
    }

-- the answer of the tight reading is refusal 15
abbrev pub gives15 : Result Unit Refusal → Bool
gives15 (Ok tt) = false
gives15 (Err x) = eqb (refusal_number x) 15

-- the first bad code, or else the tail: the number of lines, and the first bit after the last code. A block that gives 15 was read
abbrev pub why_not : ℕ → Option BadCode → Option State → Option Fault
why_not lines (Some b) o = Some (Fault.Code (spot_of b))
why_not lines None (Some z) = Some (Fault.Tail lines z.at)
why_not lines None None = None

-- what the tight reading answers for block b of a lossless stream, and the fault of one that gives 15; the others have none
abbrev pub answer_at : List ℕ → FujiHeader → ℕ → Result Unit Refusal
answer_at d h b = tight_answer (form_of h) b h.lines (bytes_in d b)

unfoldable pub fault_at : List ℕ → FujiHeader → ℕ → Option Fault
fault_at d h b =
    cond (gives15 (answer_at d h b))
    (why_not h.lines (first_bad (form_of h) [] (bytes_in d b) h.lines) (read_lines (form_of h) [] (bytes_in d b) h.lines))
    None

-- ---- one block, for C: the tight reading's answer with scratch of its own, and the fault

abbrev pub answer_in : List ℕ → ℕ → Result FujiHeader Refusal → Result Unit Refusal
answer_in d b (Err x) = Err x
answer_in d b (Ok h) = answer_at d h b

unfoldable pub answer_of : List ℕ → ℕ → Result Unit Refusal
answer_of d b = answer_in d b (tight_begins d b 9252 336)

abbrev pub fault_in : List ℕ → ℕ → Result FujiHeader Refusal → Option Fault
fault_in d b (Err x) = None
fault_in d b (Ok h) = fault_at d h b

unfoldable pub fault_of : List ℕ → ℕ → Option Fault
fault_of d b = fault_in d b (tight_begins d b 9252 336)

-- reasons as numbers: 1 large, 2 escape, 3 zeros, 4 tail
abbrev pub reason_word : Reason → ℕ
reason_word Large = 1
reason_word Escape = 2
reason_word Zeros = 3

-- line, pass, colour line, position, bit and reason; all 0 where there is no fault
abbrev pub spot_words : BadSpot → List ℕ
spot_words x = x.line ∷ x.pass ∷ x.colour ∷ x.position ∷ x.at.0 ∷ reason_word x.reason ∷ []

abbrev pub fault_words : Option Fault → List ℕ
fault_words None = replicate 6 0
fault_words (Some (Fault.Code x)) = spot_words x
fault_words (Some (Fault.Tail lines at)) = lines ∷ 0 ∷ 0 ∷ 0 ∷ at.0 ∷ 4 ∷ []
