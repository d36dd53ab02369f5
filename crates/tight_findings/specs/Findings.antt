-- Promises. The lowest block of a stream that is not tight.
use Rattle.std.specs.Prelude.{cond, List, ℕ, zero, suc, Err, Ok, Result, None, Option, option_map}
use Rattle.std.specs.Option.{option_or}
use Rattle.stream.specs.Streams.{open_of}
use Rattle.stream.specs.declared.header.FujiHeader.{FujiHeader}
use Rattle.stream.specs.declared.header.Refusal.TheVariants.{Lossy}
use Rattle.tight_diagnosis.specs.Faults.{fault_at}
use Rattle.stream.specs.declared.header.Refusal.{Refusal}
use Rattle.tight_diagnosis.specs.declared.Fault.{Fault}

-- a block and its fault, where it has one
abbrev pub found_at : ℕ → Option Fault → Option (ℕ × Fault)
found_at b f = option_map (λ x. (b, x)) f

-- the lowest of the first n blocks that has a fault, and its fault
unfoldable pub lowest : List ℕ → FujiHeader → ℕ → Option (ℕ × Fault)
lowest d h zero = None
lowest d h (suc n) = option_or (lowest d h n) (found_at n (fault_at d h n))

-- refusals 1 to 4, then 8
abbrev pub finding_in : List ℕ → Result FujiHeader Refusal → Result (Option (ℕ × Fault)) Refusal
finding_in d (Err x) = Err x
finding_in d (Ok h) = cond h.lossless (Ok (lowest d h h.blocks)) (Err Lossy)

unfoldable pub finding_of : List ℕ → Result (Option (ℕ × Fault)) Refusal
finding_of d = finding_in d (open_of d)
