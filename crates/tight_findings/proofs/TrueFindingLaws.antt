-- The fault of a block and the finding of a stream are the true ones. Assumes nothing.
use borrow.Author.Tests.{ltb-true, ltb-false, leb-true, le-leb}
use mathlib.Core.Bool.{Bool, true, false, cond, ◌&&◌}
use mathlib.Core.List.{List, []}
use mathlib.Core.Logic.{inl, inr}
use mathlib.Core.Path.{◌≡◌, refl, sym, ◌∙◌, subst}
use Prim.Native.Nat.{ℕ, zero, suc, ◌/◌, ◌^◌, ◌≤◌, ◌<◌}
use native.Mathlib.Omega.{arith}
use lib.Dec.{ltb, leb}
use Rattle.numbers.proofs.OrderLaws.{split}
use Rattle.bits.specs.BitLists.{is_tail}
use Rattle.bits.specs.declared.BitPosition.{BitPosition}
use Rattle.code.specs.declared.Code.{Code as CodeRead}
use Rattle.stream.specs.Streams.{open_of}
use Rattle.stream.specs.declared.header.FujiHeader.{FujiHeader}
use Rattle.stream.specs.declared.header.Refusal.TheVariants.{Lossy, Truncated, NotTight}
use Rattle.read_block.specs.Blocks.{State, read_lines}
use Rattle.code.specs.declared.reasons.Reason.{Reason}
use Rattle.code.specs.declared.reasons.Reason.TheVariants.{Large, Escape, Zeros}
use Rattle.code.specs.Reasons.{reason_of}
use Rattle.read_block.specs.BadCodes.{BadCode, first_bad}
use Rattle.read_block.specs.Images.{form_of, bytes_in, lines_read}
use Rattle.read_block.specs.TightBlocks.{bits_read, read_answer, tight_answer}
use Rattle.read_block.specs.declared.Form.{Form}
use Rattle.read_block.proofs.BadCodeLaws.{bad_in}
use Rattle.read_block.proofs.DecodeLaws.{was_read}
use Rattle.tight_diagnosis.specs.Faults.{spot_of, gives15, why_not, fault_at}
use Rattle.code.specs.declared.reasons.BadSpot.{BadSpot}
use Rattle.tight_findings.specs.Findings.{found_at, lowest, finding_in, finding_of}
use Rattle.tight_findings.specs.TrueFindings.{Why, TrueFault, FaultTrue, TruncatedPassed, NoneBelow, Lowest, TrueFinding, FindingTrue}
use Rattle.std.specs.Prelude.{Err, Ok, Result, None, Option, Some}
use Rattle.std.specs.Option.{option_or}
use Rattle.stream.specs.declared.header.Refusal.{Refusal}
use Rattle.tight_diagnosis.specs.declared.Fault.{Fault}

clash : {X : Type 0} → ◌≡◌ {A = ℕ} 0 1 → X
clash e = absurd (omega arith)

-- ---- why a code is bad

module _ (M k limit : ℕ) (c : CodeRead) where
  pub why_holds : (w : Reason) → reason_of M k limit c ≡ Some w → Why M k limit c w
  unfolding reason_of
  why_holds w e = large (ltb M c.value) refl e
    where
      Rest : Bool → Bool → Bool → Option Reason
      Rest long fits many = cond (long && fits) (Some Escape) (cond many (Some Zeros) None)

      zeros : (v : c.value ≤ M) (long fits many : Bool) → leb limit c.zeros ≡ long → ltb (c.value / 2 ^ k) limit ≡ fits → ltb limit c.zeros ≡ many
          → cond (long && fits) (Some Escape) (cond many (Some Zeros) None) ≡ Some w → Why M k limit c w
      zeros v true true many el ef em f =
          let q : Escape ≡ w = cc in
          subst (Why M k limit c) q (v, leb-true limit c.zeros el, ltb-true (c.value / 2 ^ k) limit ef)
      zeros v true false true el ef em f =
          let q : Zeros ≡ w = cc in
          subst (Why M k limit c) q (v, ltb-false (c.value / 2 ^ k) limit ef, ltb-true limit c.zeros em)
      zeros v true false false el ef em f = clash cc
      zeros v false fits true el ef em f = split limit c.zeros (λ h. clash (over h el)) (λ h. absurd (omega (arith, ltb-true limit c.zeros em)))
        where
          over : limit ≤ c.zeros → leb limit c.zeros ≡ false → ◌≡◌ {A = ℕ} 0 1
          over h e = let p = le-leb limit c.zeros h in cc
      zeros v false fits false el ef em f = clash cc

      large : (b : Bool) → ltb M c.value ≡ b
          → cond b (Some Large)
          (cond (leb limit c.zeros && ltb (c.value / 2 ^ k) limit) (Some Escape) (cond (ltb limit c.zeros) (Some Zeros) None)) ≡ Some w
          → Why M k limit c w
      large true eb f = let q : Large ≡ w = cc in subst (Why M k limit c) q (ltb-true M c.value eb)
      large false eb f =
          zeros (ltb-false M c.value eb) (leb limit c.zeros) (ltb (c.value / 2 ^ k) limit) (ltb limit c.zeros) refl refl refl f

-- ---- a block, by its tests

-- whether a line is truncated, its first bad code, what was read of it and whether its tail is right
abbrev answer_by : ℕ → ℕ → ℕ → Bool → Option BadCode → Bool → Result Unit Refusal
answer_by b read lines cut o tail = cond cut (Err (Truncated b read)) (read_answer o lines tail)

abbrev fault_by : ℕ → ℕ → ℕ → Bool → Option BadCode → Bool → Option State → Option Fault
fault_by b read lines cut o tail z = cond (gives15 (answer_by b read lines cut o tail)) (why_not lines o z) None

-- a fault that is a bad code, and one that is the tail
code_by : (b read lines : ℕ) (cut : Bool) (o : Option BadCode) (tail : Bool) (z : Option State) (x : BadSpot) → fault_by b read lines cut o tail z ≡ Some (Fault.Code x)
    → (c : BadCode) × (o ≡ Some c) × (x ≡ spot_of c) × (answer_by b read lines cut o tail ≡ Err (NotTight c.line))
code_by b read lines true o tail z x e = clash cc
code_by b read lines false (Some c) tail z x e = (c, refl, cc, refl)
code_by b read lines false None true z x e = clash cc
code_by b read lines false None false (Some s) x e = clash cc
code_by b read lines false None false None x e = clash cc

tail_by : (b read lines : ℕ) (cut : Bool) (o : Option BadCode) (tail : Bool) (z : Option State) (n : ℕ) (at : BitPosition)
    → fault_by b read lines cut o tail z ≡ Some (Fault.Tail n at)
    → (s : State) × (z ≡ Some s) × (o ≡ None) × (tail ≡ false) × (n ≡ lines) × (at ≡ s.at)
    × (answer_by b read lines cut o tail ≡ Err (NotTight lines))
tail_by b read lines true o tail z n at e = clash cc
tail_by b read lines false (Some c) tail z n at e = clash cc
tail_by b read lines false None true z n at e = clash cc
tail_by b read lines false None false (Some s) n at e = (s, refl, refl, refl, cc, cc, refl)
tail_by b read lines false None false None n at e = clash cc

-- no fault, and yet 15: the block would not have been read
none_by : (b read lines : ℕ) (cut : Bool) (o : Option BadCode) (tail : Bool) (z : Option State) (n : ℕ) → fault_by b read lines cut o tail z ≡ None
    → answer_by b read lines cut o tail ≡ Err (NotTight n) → (cut ≡ false) × (z ≡ None)
none_by b read lines true o tail z n e a = clash cc
none_by b read lines false (Some c) tail z n e a = clash cc
none_by b read lines false None true z n e a = clash cc
none_by b read lines false None false (Some s) n e a = clash cc
none_by b read lines false None false None n e a = (refl, refl)

module _ (d : List ℕ) (h : FujiHeader) (b : ℕ) where
  abbrev s : List ℕ
  s = bytes_in d b

  abbrev F : Form
  F = form_of h

  abbrev read : ℕ
  read = lines_read F [] s h.lines

  fault_none : (n : ℕ) → fault_at d h b ≡ None → tight_answer F b h.lines s ≡ Err (NotTight n) → ⊥
  unfolding fault_at tight_answer
  fault_none n e a =
      let k =
      none_by b read h.lines (ltb read h.lines) (first_bad F [] s h.lines) (is_tail s (bits_read (read_lines F [] s h.lines))) (read_lines F [] s h.lines) n e a in
      let r = was_read F [] s h.lines (ltb-false read h.lines k.0) in
      let q : None ≡ Some r.0 = sym k.1 ∙ r.1 in
      let no : ◌≡◌ {A = ℕ} 0 1 = cc in
      omega arith

  fault_code : (x : BadSpot) → fault_at d h b ≡ Some (Fault.Code x)
      → (c : BadCode) × (first_bad F [] s h.lines ≡ Some c) × (x ≡ spot_of c) × (tight_answer F b h.lines s ≡ Err (NotTight c.line))
  unfolding fault_at tight_answer
  fault_code x e =
      code_by b read h.lines (ltb read h.lines) (first_bad F [] s h.lines) (is_tail s (bits_read (read_lines F [] s h.lines))) (read_lines F [] s h.lines) x e

  fault_tail : (n : ℕ) (at : BitPosition) → fault_at d h b ≡ Some (Fault.Tail n at)
      → (z : State) × (read_lines F [] s h.lines ≡ Some z) × (first_bad F [] s h.lines ≡ None) × (is_tail s (bits_read (read_lines F [] s h.lines)) ≡ false)
      × (n ≡ h.lines) × (at ≡ z.at) × (tight_answer F b h.lines s ≡ Err (NotTight h.lines))
  unfolding fault_at tight_answer
  fault_tail n at e =
      tail_by b read h.lines (ltb read h.lines) (first_bad F [] s h.lines) (is_tail s (bits_read (read_lines F [] s h.lines))) (read_lines F [] s h.lines) n at e

pub truncated_passed : TruncatedPassed
unfolding fault_at
truncated_passed d h b n e = rw e

pub fault_true : FaultTrue
fault_true d h b = go (fault_at d h b) refl
  where
    go : (f : Option Fault) → fault_at d h b ≡ f → TrueFault d h b f
    go None e = λ n a. fault_none d h b n e a
    go (Some (Fault.Code x)) e =
        let c = fault_code d h b x e in
        let there = bad_in (form_of h) [] (bytes_in d b) h.lines c.0 c.1 in
        record {
          code = c.0;
          spot = c.2;
          gives = c.3;
          first = c.1;
          stands = there;
          why = why_holds _ _ _ there.step.code c.0.reason there.step.reason;
        }
    go (Some (Fault.Tail n at)) e =
        let c = fault_tail d h b n at e in
        record { all = c.4; gives = rw c.4 c.6; end = c.0; read = c.1; clean = c.2; tail = rw c.1 at c.3; bit = c.5 }

-- ---- a stream

module _ (d : List ℕ) (h : FujiHeader) where
  -- the lowest of m blocks that has a fault
  LowestIs : ℕ → Option (ℕ × Fault) → Type 0
  LowestIs m None = (c : ℕ) → c < m → fault_at d h c ≡ None
  LowestIs m (Some (b, x)) = (b < m) × ((c : ℕ) → c < b → fault_at d h c ≡ None) × (fault_at d h b ≡ Some x)

  lowest_is : (m : ℕ) → LowestIs m (lowest d h m)
  unfolding LowestIs lowest
  lowest_is zero = λ c l. absurd (omega arith)
  lowest_is (suc m) = go (lowest d h m) (fault_at d h m) refl (lowest_is m)
    where
      go : (f : Option (ℕ × Fault)) (g : Option Fault) → fault_at d h m ≡ g → LowestIs m f → LowestIs (suc m) (option_or f (found_at m g))
      go (Some (b, x)) g e k = (omega (arith, k.0), k.1, k.2)
      go None None e k = λ c l. split m c (λ a. let q : m ≡ c = omega arith in subst (λ (j : ℕ). fault_at d h j ≡ None) q e) (λ a. k c a)
      go None (Some x) e k = (omega arith, k, e)

  none_below : (m : ℕ) → ((c : ℕ) → c < m → fault_at d h c ≡ None) → NoneBelow d h m
  none_below m k c n l a = fault_none d h c n (k c l) a

  module _ (o : open_of d ≡ Ok h) (l : h.lossless ≡ true) where
    lowest_true : (b : ℕ) → b < h.blocks → ((c : ℕ) → c < b → fault_at d h c ≡ None) → Lowest d h b
    lowest_true b i k = record { opened = o; lossless = l; inside = i; lower = none_below b k }

    found_true : (f : Option (ℕ × Fault)) → LowestIs h.blocks f → TrueFinding d (Ok f)
    unfolding LowestIs
    found_true None k = record { header = h; opened = o; lossless = l; none_gives = none_below h.blocks k }
    found_true (Some (b, Fault.Code x)) k = (h, lowest_true b k.0 k.1, subst (TrueFault d h b) k.2 (fault_true d h b))
    found_true (Some (b, Fault.Tail n at)) k = (h, lowest_true b k.0 k.1, subst (TrueFault d h b) k.2 (fault_true d h b))

pub finding_true : FindingTrue
unfolding finding_of
finding_true d = go (open_of d) refl
  where
    lossless : (h : FujiHeader) (b : Bool) → open_of d ≡ Ok h → h.lossless ≡ b → TrueFinding d (cond b (Ok (lowest d h h.blocks)) (Err Lossy))
    lossless h true e l = found_true d h e l (lowest d h h.blocks) (lowest_is d h h.blocks)
    lossless h false e l = inr (record { header = h; opened = e; lossy = l; number = refl })

    go : (p : Result FujiHeader Refusal) → open_of d ≡ p → TrueFinding d (finding_in d p)
    go (Err x) e = inl e
    go (Ok h) e = lossless h h.lossless e refl
