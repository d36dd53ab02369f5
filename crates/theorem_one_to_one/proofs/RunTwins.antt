-- Things that are read and written one after the other: the passes of a line, and the lines of a block. Assumes nothing.
use mathlib.Core.List.{List}
use mathlib.Core.Path.{◌≡◌, refl, ap, subst}
use Prim.Native.Nat.{ℕ, zero, suc, ◌≤◌, ◌<◌}
use native.Mathlib.Nat.{not-suc-le-zero}
use native.Mathlib.Omega.{arith}
use lib.ListN.{take}
use Rattle.bits.specs.BitLists.{bits_of}
use Rattle.numbers.proofs.OrderLaws.{split}
use Rattle.theorem_one_to_one.proofs.Together.{Clean, Stored, stored_cut, Together, Back, together_then, back_then}
use Rattle.read_block.specs.Blocks.{State, runs}
use Rattle.write_block.specs.WrittenBlocks.{WriteState, repeats}
use Rattle.read_block.proofs.RunLaws.{runs_last, runs_keep}
use Rattle.write_block.proofs.WrittenLaws.{after_bits, afresh_state}
use Rattle.std.specs.Prelude.{None, Option, Some}

-- what writing goes on after a clean reading of s
abbrev pub write_state_of : List ℕ → State → WriteState
write_state_of s r = record { lines = r.lines; records = r.records; bits = take r.at.0 (bits_of s); wrong = None }

abbrev pub CleanState : List ℕ → State → Type 0
CleanState s r = Clean s r.at.0 r.tight

abbrev pub StoredState : List ℕ → WriteState → Type 0
StoredState s w = Stored s w.bits w.wrong

abbrev pub StateForward : List ℕ → (State → Option State) → (WriteState → WriteState) → State → State → Type 0
StateForward s f g r z = Together (CleanState s) (write_state_of s) f g r z

abbrev pub StateBack : List ℕ → (WriteState → WriteState) → State → State → Type 0
StateBack s g r z = Back (CleanState s) (write_state_of s) g r z

-- what only adds bits, and keeps the first wrong sample, starts from bits that stand there too
pub stored_before : (s : List ℕ) (g : WriteState → WriteState) (w : WriteState) → g w ≡ after_bits w.bits (g (afresh_state w))
    → ((g w).wrong ≡ None → w.wrong ≡ None)
    → StoredState s (g w) → StoredState s w
stored_before s g w e right h =
    stored_cut s w.bits (g (afresh_state w)).bits (g (afresh_state w)).wrong w.wrong (rw e at h) (λ f. right (rw e f))

-- f i reads and g i writes the i-th of them, up to `most`, from r on; Sound is kept by each, and Hold i is what the i-th one leaves
module _ (s : List ℕ) (f : ℕ → State → Option State) (g : ℕ → WriteState → WriteState) (r : State) (most : ℕ) (Sound : State → Type 0)
    (Hold : ℕ → State → Type 0) where
  pub record Each : Type 0 where
    pub start : Sound r
    pub sound : (i : ℕ) (y z : State) → Sound y → f i y ≡ Some z → Sound z
    pub stored : (i : ℕ) (w : WriteState) → StoredState s (g i w) → StoredState s w
    -- later ones leave what Hold says
    pub still : (i c : ℕ) (y z : State) → i < most → c < i → Sound y → f i y ≡ Some z → Hold c y → Hold c z
    pub was : (i c : ℕ) (y z : State) → i < most → c < i → Sound y → f i y ≡ Some z → Hold c z → Hold c y

  module _ (each : Each) where
    pub sound_after : (n : ℕ) (z : State) → runs f n r ≡ Some z → Sound z
    sound_after n z e = runs_keep f r Sound each.start (λ i a b q h. each.sound i a b q h) n z e

    holds_more : (n : ℕ) (y z : State) → n < most → Sound y → f n y ≡ Some z → Hold n z → ((c : ℕ) → c < n → Hold c y) → (c : ℕ) → c < suc n → Hold c z
    holds_more n y z h ok e last before c k =
        split n c (λ u. let q : n ≡ c = omega arith in subst (λ (i : ℕ). Hold i z) q last) (λ u. each.still n c y z h u ok e (before c u))

    abbrev After : ℕ → State → Type 0
    After n z = StateForward s (runs f n) (repeats g n) r z × ((c : ℕ) → c < n → Hold c z)

    abbrev One : Type 0
    One =
        (i : ℕ) (y : State) → i < most → runs f i r ≡ Some y → Sound y → CleanState s y → StoredState s (g i (write_state_of s y))
        → (z : State) × (StateForward s (f i) (g i) y z × Hold i z)

    one_more : (n : ℕ) (y z : State) → n < most → Sound y → After n y → StateForward s (f n) (g n) y z → Hold n z → After (suc n) z
    unfolding runs repeats
    one_more n y z h ok A T last =
        (together_then (CleanState s) (write_state_of s) (runs f n) (f n) (repeats g n) (g n) r y z A.0 T, holds_more n y z h ok T.read last A.1)

    go_on : One → (n : ℕ) (y : State) → n < most → After n y → StoredState s (g n (repeats g n (write_state_of s r))) → (z : State) × After (suc n) z
    go_on one n y h A stored =
        let ok : Sound y = sound_after n y A.0.read in
        let last = one n y h A.0.read ok A.0.clean (rw A.0.same at stored) in
        (last.0, one_more n y last.0 h ok A last.1.0 last.1.1)

    -- where the bits of each are read, those of n of them are
    pub runs_forward : CleanState s r → One → (n : ℕ) → n ≤ most → StoredState s (repeats g n (write_state_of s r)) → (z : State) × After n z
    unfolding runs repeats
    runs_forward clean one zero h stored = (r, (record { read = refl; clean = clean; same = refl }, λ c k. absurd (not-suc-le-zero k)))
    runs_forward clean one (suc n) h stored =
        let before = runs_forward clean one n (omega arith) (each.stored n (repeats g n (write_state_of s r)) stored) in
        go_on one n before.0 h before.1 stored

    -- where each was read with its bits there, n of them were
    pub runs_backward : ((i : ℕ) (y z : State) → i < most → runs f i r ≡ Some y → Sound y → f i y ≡ Some z → CleanState s z → Hold i z → StateBack s (g i) y z)
        → (n : ℕ) (z : State) → n ≤ most → runs f n r ≡ Some z → CleanState s z → ((c : ℕ) → c < n → Hold c z) → StateBack s (repeats g n) r z
    unfolding runs repeats
    runs_backward one zero z h e clean holds =
        let is : r ≡ z = cc in
        record { clean = rw (← is) at clean; same = ap (write_state_of s) is }
    runs_backward one (suc n) z h e clean holds =
        let o = runs_last f r n z e in
        let y : State = o.0 in
        let ok : Sound y = sound_after n y o.1 in
        let last : StateBack s (g n) y z = one n y z h o.1 ok o.2 clean (holds n (omega arith)) in
        back_then (CleanState s) (write_state_of s) (repeats g n) (g n) r y z
        (runs_backward one n y (omega arith) o.1 last.clean (λ c k. each.was n c y z h k ok o.2 (holds c (omega arith)))) last
