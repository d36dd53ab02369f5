-- The passes of a line: their lines and sets, the order of their samples, and how many codes they have, by computation. Assumes nothing.
use mathlib.Core.Bool.{Bool, true, false, cond, not, ◌&&◌}
use mathlib.Core.List.{List, [], ◌∷◌, ◌++◌}
use mathlib.Core.Path.{◌≡◌, refl}
use Prim.Native.Nat.{ℕ, zero, suc, ◌+◌, ◌-◌, ◌/◌, ◌%◌, ◌<◌}
use native.Mathlib.Omega.{arith}
use lib.Dec.{eqb, leb, ltb}
use lib.ListN.{length, get_or}
use borrow.Author.Tests.{leb-true, ltb-true}
use Rattle.pass_schedule.specs.Steps.{interpolated, plans, no_plan, coded_all, plan_of, Step, even_steps, odd_steps, turn_steps, upto, pass_steps}
use Rattle.pass_schedule.specs.Inside.{PlanInRange, evens_of}
use Rattle.pass_schedule.specs.declared.Plan.{Plan}
use Rattle.pass_schedule.specs.declared.Rule.{Rule}
use Rattle.pass_schedule.specs.declared.Rule.TheVariants.{Nowhere, At0Mod4, At2Mod4, Everywhere}
use Rattle.std.proofs.lemmas.Grind.{common_steps}

-- ---- the table

within : Plan → Bool
within P = leb 2 P.first && (leb P.first 17 && (leb 2 P.second && (leb P.second 17 && ltb P.set 3)))

every : {A : Type 0} → (A → Bool) → List A → Bool
every f [] = true
every f (x ∷ l) = f x && every f l

left : (a b : Bool) → (a && b) ≡ true → a ≡ true
left true b e = refl
left false b e = e

right : (a b : Bool) → (a && b) ≡ true → b ≡ true
right true b e = e
right false b e = let no : ◌≡◌ {A = ℕ} 0 1 = cc in absurd (omega arith)

at : {A : Type 0} (f : A → Bool) (l : List A) (d : A) → every f l ≡ true → (i : ℕ) → i < length l → f (get_or l i d) ≡ true
unfolding every
at f [] d e i h = absurd (omega arith)
at f (x ∷ l) d e zero h = left (f x) (every f l) e
at f (x ∷ l) d e (suc i) h = at f l d (right (f x) (every f l) e) i (omega arith)

in_range : (P : Plan) → within P ≡ true → PlanInRange P × (P.set < 3)
unfolding within
in_range P e =
    let a : Bool = leb 2 P.first in
    let b : Bool = leb P.first 17 in
    let c : Bool = leb 2 P.second in
    let d : Bool = leb P.second 17 in
    let f : Bool = ltb P.set 3 in
    let e1 = right a (b && (c && (d && f))) e in
    let e2 = right b (c && (d && f)) e1 in
    let e3 = right c (d && f) e2 in (
      record {
        first_low = leb-true _ _ (left a (b && (c && (d && f))) e);
        first_high = leb-true _ _ (left b (c && (d && f)) e1);
        second_low = leb-true _ _ (left c (d && f) e2);
        second_high = leb-true _ _ (left d f e3);
      },
      ltb-true _ _ (right d f e3),
    )

coded_range : (P : Plan) → PlanInRange P × (P.set < 3) → PlanInRange (coded_all P) × (P.set < 3)
coded_range P h =
    let r = h.0 in
    (record { first_low = r.first_low; first_high = r.first_high; second_low = r.second_low; second_high = r.second_high }, h.1)

-- each of a pass's lines has two lines of its colour above it, and there are three sets
pub plan_in_range : (xtrans : Bool) (i : ℕ) → i < 6 → PlanInRange (plan_of xtrans i) × ((plan_of xtrans i).set < 3)
unfolding plan_of within every
plan_in_range true i h = in_range (get_or plans i no_plan) (at within plans no_plan refl i h)
plan_in_range false i h = coded_range (get_or plans i no_plan) (in_range (get_or plans i no_plan) (at within plans no_plan refl i h))

-- ---- the order

-- the two samples at a position
abbrev pub steps_at : Plan → ℕ → List Step
steps_at P p = cond (eqb (p % 2) 0) (even_steps P p) (odd_steps P p)

unfoldable pub each : (ℕ → List Step) → List ℕ → List Step
each f [] = []
each f (p ∷ l) = f p ++ each f l

-- n pairs of an odd position and an even one, from position p on
unfoldable pub alternate : ℕ → ℕ → List ℕ → List ℕ
alternate zero p l = l
alternate (suc n) p l = p ∷ (p + 9) ∷ alternate n (p + 2) l

-- n odd positions from p on
unfoldable pub odds : ℕ → ℕ → List ℕ
odds zero p = []
odds (suc n) p = p ∷ odds n (p + 2)

-- the even positions 0 to 8, then an odd one and an even one by turns, then the odd ones that are left
unfoldable pub order : ℕ → List ℕ
order W = 0 ∷ 2 ∷ 4 ∷ 6 ∷ 8 ∷ alternate ((W - 10) / 2) 1 (odds 5 (W - 9))

pub bayer_order : (P : Plan) → pass_steps 384 P ≡ each (steps_at P) (order 384)
unfolding pass_steps upto turn_steps each order alternate odds
bayer_order P = refl

pub x_trans_order : (P : Plan) → pass_steps 512 P ≡ each (steps_at P) (order 512)
unfolding pass_steps upto turn_steps each order alternate odds
x_trans_order P = refl

-- ---- the number of codes

unfoldable pub codes : List Step → ℕ
codes [] = 0
codes (x ∷ l) = cond x.coded 1 0 + codes l

-- the steps of a line: its six passes
unfoldable pub line_steps : ℕ → Bool → List Step
line_steps W xtrans = upto (λ i. pass_steps W (plan_of xtrans i)) 6

pub bayer_codes : codes (line_steps 384 false) ≡ 4608
unfolding codes line_steps pass_steps upto turn_steps plan_of interpolated
bayer_codes = refl

pub x_trans_codes : codes (line_steps 512 true) ≡ 4608
unfolding codes line_steps pass_steps upto turn_steps plan_of interpolated
x_trans_codes = refl

-- ---- even positions: two answers say for each of them whether it has a code
pub coded_evens : (rule : Rule) (p : ℕ) (codes : List Bool) → p % 2 ≡ 0 → codes ≡ evens_of rule
    → get_or codes (p / 2 % 2) false ≡ not (interpolated rule p)
unfolding interpolated
coded_evens Nowhere p codes even e = rw e (grind (arith, common_steps))
coded_evens At0Mod4 p codes even e = rw e (grind (arith, common_steps))
coded_evens At2Mod4 p codes even e = rw e (grind (arith, common_steps))
coded_evens Everywhere p codes even e = rw e (grind (arith, common_steps))
