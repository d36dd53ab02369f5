-- Promises. That the fault of a block and the finding of a stream are the true ones: the statements that proofs/TrueFindingLaws.antt proves of every
-- input. They go by the answer, the first bad code and the tail that the tight reading itself goes by. Assumes nothing.
use Rattle.std.specs.Prelude.{true, false, List, [], ◌⊎◌, ◌≡◌, ℕ, ◌/◌, ◌^◌, ◌≤◌, ◌<◌, Err, Ok, None, Some, Option, Result}
use Rattle.bits.specs.BitLists.{is_tail}
use Rattle.bits.specs.declared.BitPosition.{BitPosition}
use Rattle.quantiser.specs.Quantisers.{largest}
use Rattle.code.specs.declared.Code.{Code as CodeRead}
use Rattle.image_map.specs.Places.{width_of}
use Rattle.stream.specs.Streams.{open_of}
use Rattle.stream.specs.declared.header.FujiHeader.{FujiHeader}
use Rattle.stream.specs.declared.header.Refusal.{Refusal}
use Rattle.stream.specs.declared.header.Refusal.TheVariants.{Lossy, Truncated, NotTight}
use Rattle.read_block.specs.Blocks.{State, read_lines}
use Rattle.code.specs.declared.reasons.Reason.{Reason}
use Rattle.code.specs.declared.reasons.Reason.TheVariants.{Large, Escape, Zeros}
use Rattle.read_block.specs.BadCodes.{BadCode, first_bad}
use Rattle.read_block.specs.BadSpots.{step_k, step_quantiser, BadIn}
use Rattle.read_block.specs.Images.{form_of, bytes_in}
use Rattle.read_block.specs.TightBlocks.{tight_answer}
use Rattle.tight_diagnosis.specs.Faults.{spot_of, fault_at}
use Rattle.code.specs.declared.reasons.BadSpot.{BadSpot}
use Rattle.tight_findings.specs.Findings.{finding_of}
use Rattle.tight_diagnosis.specs.declared.Fault.{Fault}

-- ---- a block

-- a reason holds, and none before it: 2^bits or more; long where the short form fits; more zeros than the limit
abbrev pub Why : (M k limit : ℕ) → CodeRead → Reason → Type 0
Why M k limit c Large = M < c.value
Why M k limit c Escape = (c.value ≤ M) × (limit ≤ c.zeros) × (c.value / 2 ^ k < limit)
Why M k limit c Zeros = (c.value ≤ M) × (limit ≤ c.value / 2 ^ k) × (limit < c.zeros)

-- block b gives 15 with this line
abbrev pub Gives15 : List ℕ → FujiHeader → ℕ → ℕ → Type 0
Gives15 d h b line = tight_answer (form_of h) b h.lines (bytes_in d b) ≡ Err (NotTight line)

-- its first bad code: what was read before it has tight codes alone, and its own code was read at its first bit
pub record TrueCode (d : List ℕ) (h : FujiHeader) (b : ℕ) (x : BadSpot) : Type 0 where
  pub code : BadCode
  pub spot : x ≡ spot_of code
  pub gives : Gives15 d h b code.line
  pub first : first_bad (form_of h) [] (bytes_in d b) h.lines ≡ Some code
  pub stands : BadIn (form_of h) [] (bytes_in d b) h.lines code.line code.pass code
  pub why : let W = width_of h.xtrans in let r = stands.step.reading in
      Why (largest h.bits) (step_k 0 W code.step r) (step_quantiser h.bits 0 W code.step r).limit stands.step.code code.reason

-- no code is bad, and the tail is wrong
pub record TrueTail (d : List ℕ) (h : FujiHeader) (b lines : ℕ) (at : BitPosition) : Type 0 where
  pub all : lines ≡ h.lines
  pub gives : Gives15 d h b lines
  pub end : State
  pub read : read_lines (form_of h) [] (bytes_in d b) h.lines ≡ Some end
  pub clean : first_bad (form_of h) [] (bytes_in d b) h.lines ≡ None
  pub tail : is_tail (bytes_in d b) end.at.0 ≡ false
  pub bit : at ≡ end.at

-- a block without a fault does not give 15
abbrev pub TrueFault : List ℕ → FujiHeader → ℕ → Option Fault → Type 0
TrueFault d h b None = (n : ℕ) → Gives15 d h b n → ⊥
TrueFault d h b (Some (Fault.Code x)) = TrueCode d h b x
TrueFault d h b (Some (Fault.Tail lines at)) = TrueTail d h b lines at

abbrev pub FaultTrue : Type 0
FaultTrue = (d : List ℕ) (h : FujiHeader) (b : ℕ) → TrueFault d h b (fault_at d h b)

-- a truncated block gives 14, whatever bad code it has, and is passed over
abbrev pub TruncatedPassed : Type 0
TruncatedPassed =
    (d : List ℕ) (h : FujiHeader) (b n : ℕ) → tight_answer (form_of h) b h.lines (bytes_in d b) ≡ Err (Truncated b n)
    → fault_at d h b ≡ None

-- ---- a stream

-- no block below b gives 15
abbrev pub NoneBelow : List ℕ → FujiHeader → ℕ → Type 0
NoneBelow d h b = (c n : ℕ) → c < b → Gives15 d h c n → ⊥

-- block b of a lossless stream that opens, below which no block gives 15
pub record Lowest (d : List ℕ) (h : FujiHeader) (b : ℕ) : Type 0 where
  pub opened : open_of d ≡ Ok h
  pub lossless : h.lossless ≡ true
  pub inside : b < h.blocks
  pub lower : NoneBelow d h b

-- no block of it gives 15
pub record NoneFound (d : List ℕ) : Type 0 where
  pub header : FujiHeader
  pub opened : open_of d ≡ Ok header
  pub lossless : header.lossless ≡ true
  pub none_gives : NoneBelow d header header.blocks

-- refusals 1 to 4 are those of opening; 8 is a lossy stream that opens
pub record LossyStream (d : List ℕ) (x : Refusal) : Type 0 where
  pub header : FujiHeader
  pub opened : open_of d ≡ Ok header
  pub lossy : header.lossless ≡ false
  pub number : x ≡ Lossy

abbrev pub TrueFinding : List ℕ → Result (Option (ℕ × Fault)) Refusal → Type 0
TrueFinding d (Err x) = (open_of d ≡ Err x) ⊎ LossyStream d x
TrueFinding d (Ok None) = NoneFound d
TrueFinding d (Ok (Some (b, Fault.Code x))) = (h : FujiHeader) × Lowest d h b × TrueCode d h b x
TrueFinding d (Ok (Some (b, Fault.Tail lines at))) = (h : FujiHeader) × Lowest d h b × TrueTail d h b lines at

abbrev pub FindingTrue : Type 0
FindingTrue = (d : List ℕ) → TrueFinding d (finding_of d)
