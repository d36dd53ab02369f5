-- Ways one after the other, and what answers say of them. Assumes nothing.
use mathlib.Core.List.{List, [], ◌∷◌, ◌++◌}
use mathlib.Core.Path.{◌≡◌, refl, sym, ap, ◌∙◌, subst}
use Prim.Native.Nat.{ℕ, zero, suc, ◌+◌, ◌-◌, ◌<◌}
use native.Mathlib.Nat.{add-zero, add-suc}
use native.Mathlib.Numerals.{add-one}
use native.Mathlib.Omega.{arith}
use Rattle.bits.specs.declared.BitPosition.{BitPosition}
use Rattle.pass_schedule.specs.Steps.{Step, upto}
use Rattle.read_pass.specs.Readings.{Reading, read_step, and_then, reads}
use Rattle.read_block.specs.BadCodes.{BadCode, bad_at, step_reason, bad_in_steps}
use Rattle.tight_diagnosis.specs.Ways.{Way, found, cut_off, on, way_of, plain, step_way, steps_way}
use Rattle.tight_diagnosis.specs.Faults.{spot_of}
use Rattle.tight_diagnosis.proofs.PlainLaws.{steps_plain, bad_plain}
use Rattle.tight_diagnosis.specs.Traces.{Said, Says}
use Rattle.code.specs.declared.reasons.BadSpot.{BadSpot}
use Rattle.tight_diagnosis.specs.declared.trace.Stage.{Stage}
use Rattle.std.specs.Prelude.{None, Option, Some, option_map, Err, Ok, Result}
use Rattle.std.specs.Option.{option_or}
use Rattle.tight_diagnosis.specs.declared.trace.Stop.{Stop}

-- ---- one way, and then another

module _ {A C : Type 0} where
  unfoldable pub then_way : Way A → (A → Way C) → Way C
  then_way (found b) f = found b
  then_way cut_off f = cut_off
  then_way (on a) f = f a

  -- what is left out of the values does not count
  module _ (p : A → A) (q : C → C) where
    pub way_then_by : (o : Option BadCode) (a : Option A) (g : A → Option BadCode) (f : A → Option C)
        → ((z : A) → g (p z) ≡ g z) → ((z : A) → option_map q (f (p z)) ≡ option_map q (f z))
        → way_of (option_or o (and_then a g)) (option_map q (and_then a f)) ≡ then_way (way_of o (option_map p a)) (λ z. way_of (g z) (option_map q (f z)))
    unfolding and_then then_way
    way_then_by (Some b) None g f eg ef = refl
    way_then_by (Some b) (Some a) g f eg ef = refl
    way_then_by None None g f eg ef = refl
    way_then_by None (Some a) g f eg ef = rw (eg a, ef a)

    pub way_end_by : (o : Option BadCode) (a : Option A) (f : A → Option C) → ((z : A) → option_map q (f (p z)) ≡ option_map q (f z))
        → way_of o (option_map q (and_then a f)) ≡ then_way (way_of o (option_map p a)) (λ z. way_of None (option_map q (f z)))
    unfolding and_then then_way
    way_end_by (Some b) None f ef = refl
    way_end_by (Some b) (Some a) f ef = refl
    way_end_by None None f ef = refl
    way_end_by None (Some a) f ef = rw (ef a)

-- a reading that goes on has no count already
way_plain : (o : Option BadCode) (a : Option Reading) → then_way (way_of o (option_map plain a)) (λ w. on (plain w)) ≡ way_of o (option_map plain a)
unfolding then_way
way_plain (Some b) None = refl
way_plain (Some b) (Some z) = refl
way_plain None None = refl
way_plain None (Some z) = refl

then_assoc : {A B C : Type 0} (m : Way A) (f : A → Way B) (g : B → Way C) → then_way (then_way m f) g ≡ then_way m (λ a. then_way (f a) g)
unfolding then_way
then_assoc (found b) f g = refl
then_assoc cut_off f g = refl
then_assoc (on a) f g = refl

then_same : {A C : Type 0} (m : Way A) (f g : A → Way C) → ((a : A) → f a ≡ g a) → then_way m f ≡ then_way m g
unfolding then_way
then_same (found b) f g e = refl
then_same cut_off f g e = refl
then_same (on a) f g e = e a

-- ---- answers

module _ {A C : Type 0} (f : A → Way C) where
  found_then : (o : Way A) (b : BadCode) → o ≡ found b → then_way o f ≡ found b
  unfolding then_way
  found_then o b e = rw e

  cut_then : (o : Way A) → o ≡ cut_off → then_way o f ≡ cut_off
  unfolding then_way
  cut_then o e = rw e

  pub on_then : (o : Way A) (a : A) → o ≡ on a → then_way o f ≡ f a
  unfolding then_way
  on_then o a e = rw e

-- what is known of an answer
pub was_bad : {A : Type 0} {here : BitPosition → A} {o : Way A} {r : Result BitPosition Stop} {x : BadSpot} → Says here o r → r ≡ Err (Stop.Bad x)
    → (b : BadCode) × (o ≡ found b) × (x ≡ spot_of b)
was_bad {here = here} {o = o} {r = r} {x = x} h e = subst (Said here o) e h.is

pub was_cut : {A : Type 0} {here : BitPosition → A} {o : Way A} {r : Result BitPosition Stop} → Says here o r → r ≡ Err Stop.CutOff → o ≡ cut_off
was_cut {here = here} {o = o} h e = subst (Said here o) e h.is

pub was_at : {A : Type 0} {here : BitPosition → A} {o : Way A} {r : Result BitPosition Stop} {at : BitPosition} → Says here o r → r ≡ Ok at → o ≡ on (here at)
was_at {here = here} {o = o} h e = subst (Said here o) e h.is

pub says_is : {A : Type 0} {there : BitPosition → A} {o o' : Way A} {r : Result BitPosition Stop} → o ≡ o' → Says there o' r → Says there o r
says_is e h = rw e h

module _ {A C : Type 0} (f : A → Way C) {here : BitPosition → A} {o : Way A} {o' : Way C} {r : Result BitPosition Stop} (e : o' ≡ then_way o f) (h : Says here o r) where
  pub then_bad : {there : BitPosition → C} {x : BadSpot} → r ≡ Err (Stop.Bad x) → Says there o' (Err (Stop.Bad x))
  then_bad k = let g = was_bad h k in record { is = (g.0, e ∙ found_then f o g.0 g.1, g.2) }

  pub then_cut : {there : BitPosition → C} → r ≡ Err Stop.CutOff → Says there o' (Err Stop.CutOff)
  then_cut k = record { is = e ∙ cut_then f o (was_cut h k) }

  -- it does not go on
  pub then_stops : {there : BitPosition → C} {y : Stop} → r ≡ Err y → Says there o' (Err y)
  then_stops {y = Stop.Bad b} k = then_bad k
  then_stops {y = Stop.CutOff} k = then_cut k

-- ---- turns of a loop

module _ {A : Type 0} (W : ℕ → Way A) (g : ℕ → A → Way A) (next : (n : ℕ) → W (suc n) ≡ then_way (W n) (g n)) where
  found_stays : (n m : ℕ) (b : BadCode) → W n ≡ found b → W (n + m) ≡ found b
  unfolding then_way
  found_stays n zero b e = rw add-zero e
  found_stays n (suc m) b e = rw add-suc (next (n + m) ∙ rw (found_stays n m b e))

  cut_stays : (n m : ℕ) → W n ≡ cut_off → W (n + m) ≡ cut_off
  unfolding then_way
  cut_stays n zero e = rw add-zero e
  cut_stays n (suc m) e = rw add-suc (next (n + m) ∙ rw (cut_stays n m e))

  -- turn n of N, by what it says
  module _ {n N : ℕ} (lt : n < N) {a : A} (so_far : W n ≡ on a) {here : BitPosition → A} {r : Result BitPosition Stop} (h : Says here (g n a) r) where
    one_more : W (n + 1) ≡ g n a
    unfolding then_way
    one_more = rw add-one (next n ∙ rw so_far)

    pub turn_at : {at : BitPosition} → r ≡ Ok at → W (n + 1) ≡ on (here at)
    turn_at e = one_more ∙ was_at h e

    pub turn_bad : {x : BadSpot} → r ≡ Err (Stop.Bad x) → Says here (W N) (Err (Stop.Bad x))
    turn_bad e =
        let k = was_bad h e in
        let f : n + 1 + (N - (n + 1)) ≡ N = omega arith in
        record { is = (k.0, rw f at (found_stays (n + 1) (N - (n + 1)) k.0 (one_more ∙ k.1)), k.2) }

    pub turn_cut : r ≡ Err Stop.CutOff → Says here (W N) (Err Stop.CutOff)
    turn_cut e =
        let f : n + 1 + (N - (n + 1)) ≡ N = omega arith in
        record { is = rw f at (cut_stays (n + 1) (N - (n + 1)) (one_more ∙ was_cut h e)) }

    pub turn_stops : {y : Stop} → r ≡ Err y → Says here (W N) (Err y)
    turn_stops {y = Stop.Bad b} e = turn_bad e
    turn_stops {y = Stop.CutOff} e = turn_cut e

-- ---- steps

module _ (t : Stage) (s : List ℕ) where
  pub steps_none : (r : Reading) → steps_way t s [] r ≡ on (plain r)
  unfolding steps_way bad_in_steps reads
  steps_none r = refl

  steps_first : (x : Step) (l : List Step) (r : Reading) → steps_way t s (x ∷ l) r ≡ then_way (step_way t s x r) (λ z. steps_way t s l z)
  unfolding steps_way step_way bad_in_steps reads
  steps_first x l r =
      way_then_by plain plain _ (read_step t.bits 0 t.w s x r) _ _ (bad_plain t.bits 0 t.w s t.line t.pass l) (steps_plain t.bits 0 t.w s l)

  same_plain : (l : List Step) (r : Reading) → steps_way t s l r ≡ steps_way t s l (plain r)
  unfolding steps_way
  same_plain l r = rw (bad_plain t.bits 0 t.w s t.line t.pass l r, steps_plain t.bits 0 t.w s l r)

  step_none : (x : Step) (r : Reading) → then_way (step_way t s x r) (λ w. on (plain w)) ≡ step_way t s x r
  unfolding step_way
  step_none x r = way_plain (option_map (bad_at t.line t.pass x r) (step_reason t.bits 0 t.w s x r)) (read_step t.bits 0 t.w s x r)

  pub steps_append : (k l : List Step) (r : Reading) → steps_way t s (k ++ l) r ≡ then_way (steps_way t s k r) (λ z. steps_way t s l z)
  unfolding then_way
  steps_append [] l r = rw (steps_none r) (same_plain l r)
  steps_append (x ∷ k) l r =
      steps_first x (k ++ l) r
      ∙ then_same (step_way t s x r) _ _ (λ z. steps_append k l z)
      ∙ sym (then_assoc (step_way t s x r) (λ z. steps_way t s k z) (λ z. steps_way t s l z))
      ∙ ap (λ (m : Way Reading). then_way m (λ z. steps_way t s l z)) (sym (steps_first x k r))

  pub steps_one : (x : Step) (r : Reading) → steps_way t s (x ∷ []) r ≡ step_way t s x r
  steps_one x r = steps_first x [] r ∙ then_same (step_way t s x r) _ _ (λ z. steps_none z) ∙ step_none x r

  -- steps of a pass
  pub steps_next : (f : ℕ → List Step) (r : Reading) (n : ℕ) → steps_way t s (upto f (suc n)) r ≡ then_way (steps_way t s (upto f n) r) (λ z. steps_way t s (f n) z)
  unfolding upto
  steps_next f r n = steps_append (upto f n) (f n) r
