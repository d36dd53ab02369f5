-- The fault of a block, by what the second walk says. Assumes nothing.
use mathlib.Core.Bool.{true, false}
use mathlib.Core.List.{List, []}
use mathlib.Core.Path.{◌≡◌, refl, sym, ap, ◌∙◌}
use Prim.Native.Nat.{ℕ}
use Rattle.bits.specs.declared.BitPosition.{BitPosition}
use Rattle.stream.specs.declared.header.FujiHeader.{FujiHeader}
use Rattle.stream.specs.declared.header.Refusal.{Refusal}
use Rattle.admission.specs.Beginnings.{tight_begins}
use Rattle.read_block.specs.Blocks.{State, read_lines}
use Rattle.read_block.specs.BadCodes.{BadCode, first_bad}
use Rattle.read_block.specs.Images.{form_of, bytes_in}
use Rattle.read_block.specs.declared.Form.{Form}
use Rattle.tight_diagnosis.specs.Ways.{plain_state, Way, found, cut_off, on, way_of, block_way}
use Rattle.tight_diagnosis.specs.Faults.{spot_of, gives15, why_not, answer_at, fault_at, answer_of, fault_of}
use Rattle.tight_diagnosis.specs.Traces.{Ends}
use Rattle.code.specs.declared.reasons.BadSpot.{BadSpot}
use Rattle.std.specs.Prelude.{Err, Ok, Result, None, Option, Some, option_map}
use Rattle.tight_diagnosis.specs.declared.trace.Stop.{Stop}
use Rattle.tight_diagnosis.specs.declared.Fault.{Fault}

-- ---- a block

-- by the way of the walk
why_way : ℕ → Way State → Option Fault
why_way lines (found b) = Some (Fault.Code (spot_of b))
why_way lines cut_off = None
why_way lines (on z) = Some (Fault.Tail lines z.at)

why_way_lem : (lines : ℕ) (o : Option BadCode) (a : Option State) → why_not lines o a ≡ why_way lines (way_of o (option_map plain_state a))
unfolding why_way
why_way_lem lines (Some b) None = refl
why_way_lem lines (Some b) (Some z) = refl
why_way_lem lines None None = refl
why_way_lem lines None (Some z) = refl

-- and by its answer
abbrev pub traced_fault : ℕ → Result BitPosition Stop → Option Fault
traced_fault lines (Err (Stop.Bad x)) = Some (Fault.Code x)
traced_fault lines (Ok at) = Some (Fault.Tail lines at)
traced_fault lines (Err Stop.CutOff) = None

ends_fault : (lines : ℕ) (o : Way State) (r : Result BitPosition Stop) → Ends o r → why_way lines o ≡ traced_fault lines r
unfolding why_way
ends_fault lines o (Err (Stop.Bad x)) e = rw e.1 (ap (λ (y : BadSpot). Some (Fault.Code y)) (sym e.2))
ends_fault lines o (Ok at) e = rw e.1 (ap (λ (y : BitPosition). Some (Fault.Tail lines y)) e.2)
ends_fault lines o (Err Stop.CutOff) e = rw e

pub none_here : (d : List ℕ) (h : FujiHeader) (b : ℕ) (a : Result Unit Refusal) → a ≡ answer_at d h b → gives15 a ≡ false → None ≡ fault_at d h b
unfolding fault_at
none_here d h b a e g = let k = rw e at g in rw k

pub fault_here : (d : List ℕ) (h : FujiHeader) (b : ℕ) (a : Result Unit Refusal) (F : Form) (s : List ℕ) (n : ℕ) (r : Result BitPosition Stop) → a ≡ answer_at d h b → gives15 a ≡ true
    → F ≡ form_of h → s ≡ bytes_in d b → n ≡ h.lines → Ends (block_way F s n) r → traced_fault n r ≡ fault_at d h b
unfolding fault_at block_way
fault_here d h b a F s n r e g ef es en t =
    let k = rw e at g in
    rw k
    (sym (ends_fault n _ r t)
    ∙ sym (why_way_lem n (first_bad F [] s n) (read_lines F [] s n))
    ∙ rw (ef, es, en))

-- the arms of a match on the answer
pub traced_bad : (n : ℕ) (r : Result BitPosition Stop) (y : Stop) (x : BadSpot) (f : Option Fault) → r ≡ Err y → y ≡ Stop.Bad x → traced_fault n r ≡ f
    → Some (Fault.Code x) ≡ f
traced_bad n r y x f e k t = rw (e, k) at t

pub traced_at : (n : ℕ) (r : Result BitPosition Stop) (at : BitPosition) (f : Option Fault) → r ≡ Ok at → traced_fault n r ≡ f → Some (Fault.Tail n at) ≡ f
traced_at n r at f e t = rw e at t

pub traced_cut : (n : ℕ) (r : Result BitPosition Stop) (y : Stop) (f : Option Fault) → r ≡ Err y → y ≡ Stop.CutOff → traced_fault n r ≡ f → None ≡ f
traced_cut n r y f e k t = rw (e, k) at t

-- ---- one block of a stream, by how the tight reading begins

module _ (d : List ℕ) (b : ℕ) where
  pub answer_refused : (x : Refusal) → tight_begins d b 9252 336 ≡ Err x → answer_of d b ≡ Err x
  unfolding answer_of
  answer_refused x e = rw e

  pub answer_reads : (h : FujiHeader) → tight_begins d b 9252 336 ≡ Ok h → answer_of d b ≡ answer_at d h b
  unfolding answer_of
  answer_reads h e = rw e

  pub fault_refused : (r : Result FujiHeader Refusal) → r ≡ tight_begins d b 9252 336 → ((h : FujiHeader) → r ≡ Ok h → ⊥) → fault_of d b ≡ None
  unfolding fault_of
  fault_refused (Err x) e not = rw (← e)
  fault_refused (Ok h) e not = absurd (not h refl)

  pub fault_reads : (h : FujiHeader) → tight_begins d b 9252 336 ≡ Ok h → fault_of d b ≡ fault_at d h b
  unfolding fault_of
  fault_reads h e = rw e
