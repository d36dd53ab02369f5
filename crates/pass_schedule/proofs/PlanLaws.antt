-- The passes of a line: each has two colour lines of its own, and its rules say which positions have a code. Assumes nothing.
use mathlib.Core.Bool.{Bool, true, false, cond, not}
use mathlib.Core.List.{[], ◌∷◌}
use mathlib.Core.Logic.{◌≢◌}
use mathlib.Core.Path.{◌≡◌, refl, sym, ap, ◌∙◌}
use Prim.Native.Nat.{ℕ, zero, suc, ◌+◌, ◌-◌, ◌*◌, ◌/◌, ◌%◌, ◌<◌}
use native.Mathlib.Omega.{arith}
use lib.Dec.{leb, ltb}
use lib.ListN.{get_or}
use borrow.Author.Tests.{ne_eqb, le-ltb, lt-ltb, le-leb, lt-leb}
use Rattle.numbers.proofs.OrderLaws.{split}
use Rattle.pass_schedule.specs.Steps.{plans, no_plan, plan_of, interpolated, is_interpolated, Step, even_steps, odd_steps, turn_steps, pass_steps}
use Rattle.pass_schedule.specs.declared.Plan.{Plan}
use Rattle.pass_schedule.proofs.OrderLaws.{All, all_append, all_upto}

-- Bayer and X-Trans have the same lines
abbrev pub first_line : ℕ → ℕ
first_line i = (get_or plans i no_plan).first

abbrev pub second_line : ℕ → ℕ
second_line i = (get_or plans i no_plan).second

pub lines_are : (xtrans : Bool) (i : ℕ) → ((plan_of xtrans i).first ≡ first_line i) × ((plan_of xtrans i).second ≡ second_line i)
unfolding plan_of
lines_are true i = (refl, refl)
lines_are false i = (refl, refl)

-- what holds of the six passes
pub each_pass : (Q : ℕ → Type 0) → Q 0 × Q 1 × Q 2 × Q 3 × Q 4 × Q 5 → (i : ℕ) → i < 6 → Q i
each_pass Q a zero h = a.0
each_pass Q a (suc zero) h = a.1
each_pass Q a (suc (suc zero)) h = a.2
each_pass Q a (suc (suc (suc zero))) h = a.3
each_pass Q a (suc (suc (suc (suc zero)))) h = a.4
each_pass Q a (suc (suc (suc (suc (suc zero))))) h = a.5
each_pass Q a (suc (suc (suc (suc (suc (suc i)))))) h = absurd (omega arith)

-- ---- each line once

-- the number of a colour line in the order of the passes: 2·i for the first line of pass i, and 2·i + 1 for the second
number : ℕ → ℕ
number l = get_or (0 ∷ 0 ∷ 0 ∷ 4 ∷ 8 ∷ 0 ∷ 0 ∷ 1 ∷ 2 ∷ 5 ∷ 6 ∷ 9 ∷ 10 ∷ 0 ∷ 0 ∷ 3 ∷ 7 ∷ 11 ∷ []) l 0

numbered : (i : ℕ) → i < 6 → (number (first_line i) ≡ 2 * i) × (number (second_line i) ≡ 2 * i + 1)
unfolding number
numbered =
    each_pass (λ i. (number (first_line i) ≡ 2 * i) × (number (second_line i) ≡ 2 * i + 1))
    ((refl, refl), (refl, refl), (refl, refl), (refl, refl), (refl, refl), (refl, refl))

-- lines with different numbers are different
other : (l m a b : ℕ) → number l ≡ a → number m ≡ b → a ≢ b → l ≢ m
other l m a b e f ne g = ne (sym e ∙ ap number g ∙ f)

pub two_lines : (xtrans : Bool) (i : ℕ) → i < 6 → (plan_of xtrans i).first ≢ (plan_of xtrans i).second
two_lines xtrans i h =
    let e = lines_are xtrans i in
    let n = numbered i h in
    rw (e.0, e.1) (other (first_line i) (second_line i) (2 * i) (2 * i + 1) n.0 n.1 (λ z. omega arith))

-- a line is not one of pass i
abbrev pub NotOf : Bool → ℕ → ℕ → Type 0
NotOf xtrans i l = (l ≢ (plan_of xtrans i).first) × (l ≢ (plan_of xtrans i).second)

pub other_lines : (xtrans : Bool) (i j : ℕ) → i < 6 → j < 6 → i ≢ j → NotOf xtrans j (plan_of xtrans i).first × NotOf xtrans j (plan_of xtrans i).second
other_lines xtrans i j hi hj ne =
    let e = lines_are xtrans i in
    let f = lines_are xtrans j in
    let n = numbered i hi in
    let m = numbered j hj in
    rw (e.0, e.1, f.0, f.1) (
      (other _ _ (2 * i) (2 * j) n.0 m.0 (λ z. ne (omega arith)), other _ _ (2 * i) (2 * j + 1) n.0 m.1 (λ z. omega arith)),
      (other _ _ (2 * i + 1) (2 * j) n.1 m.0 (λ z. omega arith), other _ _ (2 * i + 1) (2 * j + 1) n.1 m.1 (λ z. ne (omega arith))),
    )

-- ---- which positions are interpolated: the rules of the passes are those of the definition

by_four : {X : Type 0} (p : ℕ) → p % 2 ≡ 0 → (p % 4 ≡ 0 → X) → (p % 4 ≡ 2 → X) → X
by_four p e f g = split (p % 4) 0 (λ h. f (omega arith)) (λ h. g (omega arith))

abbrev SameRules : Bool → Plan → Type 0
SameRules xtrans P =
    (p : ℕ) → p % 2 ≡ 0
    → (interpolated P.first_rule p ≡ is_interpolated xtrans P.first p) × (interpolated P.second_rule p ≡ is_interpolated xtrans P.second p)

-- an odd position has a code
odd_coded : (xtrans : Bool) (l p : ℕ) → p % 2 ≢ 0 → is_interpolated xtrans l p ≡ false
unfolding is_interpolated
odd_coded false l p h = refl
odd_coded true l p h =
    rw (ne_eqb (p % 2) 0 h, ne_eqb (p % 4) 0 (λ e. h (omega arith)), ne_eqb (p % 4) 2 (λ e. h (omega arith)))

-- so an interpolated one is even
pub interpolated_even : (xtrans : Bool) (l p : ℕ) → is_interpolated xtrans l p ≡ true → p % 2 ≡ 0
interpolated_even xtrans l p e =
    split (p % 2) 0 (λ k. omega arith)
    (λ k. let no : false ≡ true = sym (odd_coded xtrans l p (λ z. omega arith)) ∙ e in let y : ◌≡◌ {A = ℕ} 0 1 = cc in absurd (omega arith))

same_rules : (xtrans : Bool) (i : ℕ) → i < 6 → SameRules xtrans (plan_of xtrans i)
unfolding plan_of interpolated is_interpolated
same_rules false i h = λ p e. (refl, refl)
same_rules true i h =
    each_pass (λ i. SameRules true (get_or plans i no_plan)) (
      (λ p e. by_four p e (λ f. rw (f, e) (refl, refl)) (λ f. rw (f, e) (refl, refl))),
      (λ p e. by_four p e (λ f. rw (f, e) (refl, refl)) (λ f. rw (f, e) (refl, refl))),
      (λ p e. by_four p e (λ f. rw (f, e) (refl, refl)) (λ f. rw (f, e) (refl, refl))),
      (λ p e. by_four p e (λ f. rw (f, e) (refl, refl)) (λ f. rw (f, e) (refl, refl))),
      (λ p e. by_four p e (λ f. rw (f, e) (refl, refl)) (λ f. rw (f, e) (refl, refl))),
      (λ p e. by_four p e (λ f. rw (f, e) (refl, refl)) (λ f. rw (f, e) (refl, refl))),
    ) i h

-- ---- the steps of a pass

abbrev pub CodedIn : Bool → Step → Type 0
CodedIn xtrans x = x.coded ≡ not (is_interpolated xtrans x.line x.position)

pub steps_coded : (xtrans : Bool) (W i : ℕ) → i < 6 → All (CodedIn xtrans) (pass_steps W (plan_of xtrans i))
unfolding pass_steps turn_steps
steps_coded xtrans W i h = all_upto (CodedIn xtrans) (turn_steps W P) (W / 2 + 4) (λ t k. turn t)
  where
    P : Plan
    P = plan_of xtrans i

    evens : (p : ℕ) → p % 2 ≡ 0 → All (CodedIn xtrans) (even_steps P p)
    evens p e = let s = same_rules xtrans i h p e in (ap not s.0, (ap not s.1, tt))

    odds : (p : ℕ) → p % 2 ≢ 0 → All (CodedIn xtrans) (odd_steps P p)
    odds p e = (rw (odd_coded xtrans P.first p e), (rw (odd_coded xtrans P.second p e), tt))

    turn : (t : ℕ) → All (CodedIn xtrans) (turn_steps W P t)
    turn t =
        all_append (CodedIn xtrans) (cond (ltb (2 * t) W) (even_steps P (2 * t)) []) (cond (leb 8 (2 * t)) (odd_steps P (2 * t - 7)) [])
        (split W (2 * t) (λ k. rw (le-ltb (2 * t) W k) tt) (λ k. rw (lt-ltb (2 * t) W k) (evens (2 * t) (omega arith))))
        (split 8 (2 * t) (λ k. rw (le-leb 8 (2 * t) k) (odds (2 * t - 7) (λ e. omega arith))) (λ k. rw (lt-leb 8 (2 * t) k) tt))
