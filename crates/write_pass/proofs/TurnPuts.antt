-- The turns of a pass that puts its bits, and what the pass hands back. Assumes nothing.
use mathlib.Core.Bool.{Bool, true, false}
use mathlib.Core.List.{List, [], ◌∷◌, ◌++◌, append_assoc}
use mathlib.Core.Path.{◌≡◌, refl, sym, ap, ◌∙◌}
use Prim.Native.Nat.{ℕ, zero, suc, ◌+◌, ◌-◌, ◌*◌, ◌/◌, ◌%◌, ◌≤◌, ◌<◌}
use native.Mathlib.Nat.{add-zero, add-suc}
use native.Mathlib.Omega.{arith}
use lib.ListN.{length, get_or, length-append}
use borrow.Author.Tests.{not-true}
use Rattle.bits.specs.declared.BitPosition.{BitPosition}
use Rattle.pass_schedule.specs.Steps.{Step, plan_of, is_interpolated, even_part, odd_part, turn_steps, upto, pass_steps}
use Rattle.pass_schedule.specs.declared.Plan.{Plan}
use Rattle.pass_schedule.proofs.OrderLaws.{All, pass_all}
use Rattle.pass_schedule.proofs.PlanLaws.{CodedIn, steps_coded}
use Rattle.pass_schedule.proofs.TurnLaws.{turn_is, evens_le, turns_le}
use Rattle.colour_lines.specs.Sets.{line_of_rank, index_in}
use Rattle.write_pass.specs.Writings.{Writing, writes, write_pass}
use Rattle.write_pass.specs.Puts.{Room, Wanted, start_of, StepsRoom, IsPut, StepsPut, IsPassPut}
use Rattle.write_pass.proofs.SetLaws.{lines_passes}
use Rattle.write_pass.proofs.StepPuts.{first_room, ends}
use Rattle.std.specs.Prelude.{Err, Ok, Result, None, Option, Some}

-- ---- the turns

module _ (W : ℕ) (P : Plan) (p : ℕ) where
  -- the turns before the one at position p
  abbrev pub before : List Step
  before = upto (turn_steps W P) (p / 2)

  -- one turn more
  turn_next : p % 2 ≡ 0 → (before ++ even_part W P p) ++ odd_part P p ≡ upto (turn_steps W P) (suc (p / 2))
  unfolding upto
  turn_next h = append_assoc before (even_part W P p) (odd_part P p) ∙ rw (turn_is W P p h)

  pub turn_more : p % 2 ≡ 0 → (before ++ even_part W P p) ++ odd_part P p ≡ upto (turn_steps W P) ((p + 2) / 2)
  turn_more h = let n : (p + 2) / 2 ≡ suc (p / 2) = omega arith in rw n (turn_next h)

  pub all_turns : W % 2 ≡ 0 → p ≡ W + 8 → before ≡ pass_steps W P
  unfolding pass_steps
  all_turns h e = let n : p / 2 ≡ W / 2 + 4 = omega arith in rw n

pub before_le : (W : ℕ) (P : Plan) (p : ℕ) → length (before W P p) ≤ 2 * p
before_le W P p = omega (arith, turns_le W P (p / 2))

pub before_evens_le : (W : ℕ) (P : Plan) (p : ℕ) → length (before W P p ++ even_part W P p) ≤ 2 * p + 2
before_evens_le W P p = rw length-append (omega (arith, before_le W P p, evens_le W P p))

-- ---- the samples with a code, of the steps of a turn

module _ (M W : ℕ) (t : List ℕ) (n : ℕ) where
  wanted_left : (k l : List Step) → Wanted M W t n (k ++ l) → Wanted M W t n k
  wanted_left [] l h = tt
  wanted_left (x ∷ k) l h = (h.0, wanted_left k l h.1)

  wanted_right : (k l : List Step) → Wanted M W t n (k ++ l) → Wanted M W t n l
  wanted_right [] l h = h
  wanted_right (x ∷ k) l h = wanted_right k l h.1

  wanted_upto : (f : ℕ → List Step) (i m : ℕ) → Wanted M W t n (upto f (i + m)) → Wanted M W t n (upto f i)
  unfolding upto
  wanted_upto f i zero h = rw (add-zero i) at h
  wanted_upto f i (suc m) h = wanted_upto f i m (wanted_left (upto f (i + m)) (f (i + m)) (rw (add-suc i m) at h))

  module _ (P : Plan) (p : ℕ) (even : p % 2 ≡ 0) (width : W % 2 ≡ 0) (h : p < W + 8) (wanted : Wanted M W t n (pass_steps W P)) where
    wanted_turn : Wanted M W t n ((before W P p ++ even_part W P p) ++ odd_part P p)
    unfolding pass_steps
    wanted_turn =
        let count : W / 2 + 4 ≡ suc (p / 2) + (W / 2 + 3 - p / 2) = omega arith in
        rw (turn_next W P p even) (wanted_upto (turn_steps W P) (suc (p / 2)) (W / 2 + 3 - p / 2) (rw count at wanted))

    pub wanted_even : Wanted M W t n (even_part W P p)
    wanted_even = wanted_right (before W P p) (even_part W P p) (wanted_left (before W P p ++ even_part W P p) (odd_part P p) wanted_turn)

    pub wanted_odd : Wanted M W t n (odd_part P p)
    wanted_odd = wanted_right (before W P p ++ even_part W P p) (odd_part P p) wanted_turn

-- ---- the samples with a code are those at positions of the twelve lines that are not interpolated

pub coded_wanted : (M W : ℕ) (t : List ℕ) (n : ℕ) → W % 2 ≡ 0 → (xtrans : Bool) (i : ℕ) → i < 6
    → ((c p : ℕ) → c < 12 → p < W → is_interpolated xtrans (line_of_rank c) p ≡ false → get_or t (index_in W n (line_of_rank c) p) 0 ≤ M)
    → Wanted M W t n (pass_steps W (plan_of xtrans i))
coded_wanted M W t n even xtrans i below f =
    wanted (pass_steps W (plan_of xtrans i))
    (pass_all W (plan_of xtrans i) even Small (λ p h. lines_passes xtrans (λ l. Small l p) (λ c k. f c p k h) i below))
    (steps_coded xtrans W i below)
  where
    Small : ℕ → ℕ → Type 0
    Small l p = is_interpolated xtrans l p ≡ false → get_or t (index_in W n l p) 0 ≤ M

    wanted : (l : List Step) → All (λ x. Small x.line x.position) l → All (CodedIn xtrans) l → Wanted M W t n l
    wanted [] a b = tt
    wanted (x ∷ l) a b = (λ e. a.0 (not-true _ (sym b.0 ∙ e)), wanted l a.1 b.1)

-- ---- room for the turns so far, and a turn that is wrong

module _ (bits q W : ℕ) (strict : Bool) (t : List ℕ) (n : ℕ) (P : Plan) (store : Bool) (from : ℕ) (lines sums ns out : List ℕ) where
  shorter : (f : ℕ → List Step) (i m : ℕ) → StepsRoom bits q W strict t n (upto f (i + m)) store from lines sums ns out
      → StepsRoom bits q W strict t n (upto f i) store from lines sums ns out
  unfolding upto
  shorter f i zero h = rw (add-zero i) at h
  shorter f i (suc m) h = shorter f i m (first_room bits q W strict t n (upto f (i + m)) (f (i + m)) store from lines sums ns out (rw (add-suc i m) at h))

  -- there is room for a pass
  abbrev pub PassRoom : Type 0
  PassRoom = Room store out from (write_pass bits q W strict t n P (start_of lines sums ns)).bits

  module _ (p : ℕ) (even : p % 2 ≡ 0) (width : W % 2 ≡ 0) (h : p < W + 8) where
    count : W / 2 + 4 ≡ suc (p / 2) + (W / 2 + 3 - p / 2)
    count = omega arith

    pub room_turn : PassRoom → StepsRoom bits q W strict t n ((before W P p ++ even_part W P p) ++ odd_part P p) store from lines sums ns out
    unfolding write_pass pass_steps
    room_turn r = rw (turn_next W P p even) (shorter (turn_steps W P) (suc (p / 2)) (W / 2 + 3 - p / 2) (rw count at r))

    pub room_evens : PassRoom → StepsRoom bits q W strict t n (before W P p ++ even_part W P p) store from lines sums ns out
    room_evens r = first_room bits q W strict t n (before W P p ++ even_part W P p) (odd_part P p) store from lines sums ns out (room_turn r)

    module _ (lines' sums' ns' out' : List ℕ) (r : Result BitPosition ℕ) (j : ℕ) (e : r ≡ Err j) where
      longer : (f : ℕ → List Step) (i m : ℕ) → StepsPut bits q W strict t n (upto f i) store from lines sums ns out lines' sums' ns' out' r
          → StepsPut bits q W strict t n (upto f (i + m)) store from lines sums ns out lines' sums' ns' out' r
      unfolding upto
      longer f i zero g = rw (add-zero i) g
      longer f i (suc m) g = rw (add-suc i m) (ends (longer f i m g) (f (i + m)) e)

      pub turn_wrong : StepsPut bits q W strict t n ((before W P p ++ even_part W P p) ++ odd_part P p) store from lines sums ns out lines' sums' ns' out' r
          → StepsPut bits q W strict t n (pass_steps W P) store from lines sums ns out lines' sums' ns' out' r
      unfolding pass_steps
      turn_wrong g = rw count (longer (turn_steps W P) (suc (p / 2)) (W / 2 + 3 - p / 2) (rw (turn_next W P p even) at g))

-- ---- what a pass hands back

right : (o : Option ℕ) (z : Writing) (store : Bool) (from : ℕ) (out lines' sums' ns' out' : List ℕ) (at : BitPosition)
    → IsPut o z from store out lines' sums' ns' out' (Ok at)
    → IsPassPut o z from store out lines' out' (Ok (record { at = at; set = record { sums = sums'; ns = ns' } }))
right None z store from out lines' sums' ns' out' at g =
    let e : at ≡ record { 0 = from + length z.bits } = cc in
    record { lines = g.1; records = g.2; at = e; output = g.3 }
right (Some j) z store from out lines' sums' ns' out' at g = let no : ◌≡◌ {A = ℕ} 0 1 = cc in absurd (omega arith)

mistaken : (o : Option ℕ) (z : Writing) (store : Bool) (from : ℕ) (out lines' sums' ns' out' : List ℕ) (r : Result BitPosition ℕ) (j : ℕ)
    → IsPut o z from store out lines' sums' ns' out' r → r ≡ Err j → IsPassPut o z from store out lines' out' (Err j)
mistaken None z store from out lines' sums' ns' out' r j g e = let no : ◌≡◌ {A = ℕ} 0 1 = cc in absurd (omega arith)
mistaken (Some i) z store from out lines' sums' ns' out' r j g e =
    let same : j ≡ i = cc in
    record { index = rw same; output = g.1 }

module _ {bits q W : ℕ} {strict : Bool} {t : List ℕ} {n : ℕ} (P : Plan) {store : Bool} {from : ℕ} {lines sums ns out lines' sums' ns' out' : List ℕ} {r : Result BitPosition ℕ}
    (g : StepsPut bits q W strict t n (pass_steps W P) store from lines sums ns out lines' sums' ns' out' r) where
  pub pass_right : {at : BitPosition} → r ≡ Ok at → let z = write_pass bits q W strict t n P (start_of lines sums ns) in
      IsPassPut z.wrong z from store out lines' out' (Ok (record { at = at; set = record { sums = sums'; ns = ns' } }))
  unfolding write_pass
  pass_right {at} e =
      let z : Writing = writes bits q W strict t n (pass_steps W P) (start_of lines sums ns) in
      right z.wrong z store from out lines' sums' ns' out' at (rw e at g.are)

  pub pass_wrong : {j : ℕ} → r ≡ Err j → let z = write_pass bits q W strict t n P (start_of lines sums ns) in
      IsPassPut z.wrong z from store out lines' out' (Err j)
  unfolding write_pass
  pass_wrong {j} e =
      let z : Writing = writes bits q W strict t n (pass_steps W P) (start_of lines sums ns) in
      mistaken z.wrong z store from out lines' sums' ns' out' r j g.are e
