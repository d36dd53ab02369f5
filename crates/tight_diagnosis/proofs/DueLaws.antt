-- The samples of a pass one by one, four in each turn, and where they lie. Assumes nothing.
use borrow.Author.Tests.{leb-true, ltb-true}
use mathlib.Core.Bool.{Bool, true, false, cond}
use mathlib.Core.List.{List, [], ◌∷◌, ◌++◌, append-nil, append_assoc}
use mathlib.Core.Path.{◌≡◌, refl, sym, ap, ◌∙◌}
use Prim.Native.Nat.{ℕ, zero, suc, ◌+◌, ◌*◌, ◌/◌, ◌%◌, ◌≤◌, ◌<◌}
use native.Mathlib.Numerals.{add-one}
use native.Mathlib.Omega.{arith}
use Rattle.std.specs.Prelude.{Option, Some, None}
use lib.Dec.{eqb, ltb, leb}
use Rattle.pass_schedule.specs.Steps.{Step, turn_steps, upto, pass_steps}
use Rattle.pass_schedule.specs.Inside.{PlanInRange}
use Rattle.pass_schedule.specs.declared.Plan.{Plan}
use Rattle.pass_schedule.specs.declared.Rule.{Rule}
use Rattle.read_pass.specs.Readings.{Reading}
use Rattle.tight_diagnosis.specs.Due.{steps_due, even_sample, odd_sample, even_due, odd_due, due_at}
use Rattle.tight_diagnosis.specs.Ways.{step_of, steps_way, Way}
use Rattle.tight_diagnosis.specs.Traces.{Inside}
use Rattle.tight_diagnosis.specs.declared.trace.Sample.{Sample}
use Rattle.tight_diagnosis.specs.declared.trace.Stage.{Stage}

-- ---- by the rest of u by 4

module _ (W : ℕ) (P : Plan) (u : ℕ) where
  pub due_0 : u % 4 ≡ 0 → even_due W P.first P.first_rule (2 * (u / 4)) ≡ due_at W P u
  unfolding due_at
  due_0 e = rw e

  pub due_1 : u % 4 ≡ 1 → even_due W P.second P.second_rule (2 * (u / 4)) ≡ due_at W P u
  unfolding due_at
  due_1 e = rw e

  pub due_2 : u % 4 ≡ 2 → odd_due P.first (2 * (u / 4)) ≡ due_at W P u
  unfolding due_at
  due_2 e = rw e

  pub due_3 : u % 4 ≡ 3 → odd_due P.second (2 * (u / 4)) ≡ due_at W P u
  unfolding due_at
  due_3 e = rw e

-- ---- all of them are the steps of the pass

-- the steps of number u
unfoldable pub quarter : ℕ → Plan → ℕ → List Step
quarter W P u = steps_due (due_at W P u)

abbrev may : Bool → Sample → Option Sample
may b x = cond b (Some x) None

four : (X : List Step) (b d : Bool) (x y z v : Sample)
    → (((X ++ steps_due (may b x)) ++ steps_due (may b y)) ++ steps_due (may d z)) ++ steps_due (may d v)
    ≡ X ++ (cond b (step_of x ∷ step_of y ∷ []) [] ++ cond d (step_of z ∷ step_of v ∷ []) [])
four X true true x y z v =
    ap (λ (l : List Step). (l ++ step_of z ∷ []) ++ step_of v ∷ []) (append_assoc X (step_of x ∷ []) (step_of y ∷ []))
    ∙ (ap (λ (l : List Step). l ++ step_of v ∷ []) (append_assoc X (step_of x ∷ step_of y ∷ []) (step_of z ∷ []))
    ∙ append_assoc X (step_of x ∷ step_of y ∷ step_of z ∷ []) (step_of v ∷ []))
four X true false x y z v =
    append-nil (((X ++ step_of x ∷ []) ++ step_of y ∷ []) ++ []) ∙ (append-nil ((X ++ step_of x ∷ []) ++ step_of y ∷ []) ∙ append_assoc X (step_of x ∷ []) (step_of y ∷ []))
four X false true x y z v =
    ap (λ (l : List Step). (l ++ step_of z ∷ []) ++ step_of v ∷ []) (append-nil (X ++ []) ∙ append-nil X) ∙ append_assoc X (step_of z ∷ []) (step_of v ∷ [])
four X false false x y z v = append-nil (((X ++ []) ++ []) ++ []) ∙ (append-nil ((X ++ []) ++ []) ∙ append-nil (X ++ []))

module _ (W : ℕ) (P : Plan) where
  -- number k of turn t
  is_0 : (u t : ℕ) → u % 4 ≡ 0 → u / 4 ≡ t → quarter W P u ≡ steps_due (even_due W P.first P.first_rule (2 * t))
  unfolding quarter
  is_0 u t e f = sym (ap steps_due (due_0 W P u e)) ∙ rw f

  is_1 : (u t : ℕ) → u % 4 ≡ 1 → u / 4 ≡ t → quarter W P u ≡ steps_due (even_due W P.second P.second_rule (2 * t))
  unfolding quarter
  is_1 u t e f = sym (ap steps_due (due_1 W P u e)) ∙ rw f

  is_2 : (u t : ℕ) → u % 4 ≡ 2 → u / 4 ≡ t → quarter W P u ≡ steps_due (odd_due P.first (2 * t))
  unfolding quarter
  is_2 u t e f = sym (ap steps_due (due_2 W P u e)) ∙ rw f

  is_3 : (u t : ℕ) → u % 4 ≡ 3 → u / 4 ≡ t → quarter W P u ≡ steps_due (odd_due P.second (2 * t))
  unfolding quarter
  is_3 u t e f = sym (ap steps_due (due_3 W P u e)) ∙ rw f

  next_four : (f : ℕ → List Step) (n : ℕ) → upto f (suc (suc (suc (suc n)))) ≡ (((upto f n ++ f n) ++ f (suc n)) ++ f (suc (suc n))) ++ f (suc (suc (suc n)))
  unfolding upto
  next_four f n = refl

  turn_four : (X : List Step) (t u : ℕ) → u ≡ 4 * t
      → (((X ++ quarter W P u) ++ quarter W P (suc u)) ++ quarter W P (suc (suc u))) ++ quarter W P (suc (suc (suc u))) ≡ X ++ turn_steps W P t
  unfolding turn_steps
  turn_four X t u e =
      rw (
        is_0 u t (omega arith) (omega arith),
        is_1 (suc u) t (omega arith) (omega arith),
        is_2 (suc (suc u)) t (omega arith) (omega arith),
        is_3 (suc (suc (suc u))) t (omega arith) (omega arith),
      )
      (four X (ltb (2 * t) W) (leb 8 (2 * t)) (even_sample P.first P.first_rule (2 * t)) (even_sample P.second P.second_rule (2 * t))
      (odd_sample P.first (2 * t)) (odd_sample P.second (2 * t)))

  quarters : (t : ℕ) → upto (quarter W P) (4 * t) ≡ upto (turn_steps W P) t
  unfolding upto
  quarters zero = refl
  quarters (suc t) =
      let e : 4 * suc t ≡ suc (suc (suc (suc (4 * t)))) = omega arith in
      rw e (next_four (quarter W P) (4 * t) ∙ (turn_four (upto (quarter W P) (4 * t)) t (4 * t) refl ∙ ap (λ (l : List Step). l ++ turn_steps W P t)
      (quarters t)))

-- a pass is so many of them
pub pass_is : (t : Stage) (s : List ℕ) (P : Plan) (n : ℕ) → n ≡ 4 * (t.w / 2 + 4) → (r : Reading)
    → steps_way t s (pass_steps t.w P) r ≡ steps_way t s (upto (quarter t.w P) n) r
unfolding pass_steps
pass_is t s P n e r = rw (e, quarters t.w P (t.w / 2 + 4))

module _ (t : Stage) (s : List ℕ) (P : Plan) (u : ℕ) where
  pub due_steps : (x : Sample) → due_at t.w P u ≡ Some x → (r : Reading) → steps_way t s (quarter t.w P u) r ≡ steps_way t s (step_of x ∷ []) r
  unfolding quarter
  due_steps x e r = rw e

  -- where none is due
  pub skipped : due_at t.w P u ≡ None → (r : Reading) (o : Way Reading) → steps_way t s (upto (quarter t.w P) u) r ≡ o
      → steps_way t s (upto (quarter t.w P) (u + 1)) r ≡ o
  unfolding upto quarter
  skipped e r o h = rw (add-one u, e, append-nil (upto (quarter t.w P) u)) h

-- ---- each that is due lies in its line

module _ (t : Stage) (P : Plan) (h : PlanInRange P) where
  abbrev DueInside : Option Sample → Type 0
  DueInside None = Unit {0}
  DueInside (Some x) = Inside t x

  if_due : (b : Bool) (x : Sample) → (b ≡ true → Inside t x) → DueInside (may b x)
  if_due true x i = i refl
  if_due false x i = tt

  evens_in : (line : ℕ) (rule : Rule) (p : ℕ) → 2 ≤ line → line ≤ 17 → DueInside (even_due t.w line rule p)
  evens_in line rule p low high =
      if_due (ltb p t.w) (even_sample line rule p) (λ e. record { low = low; high = high; position = ltb-true p t.w e })

  odds_in : (line p : ℕ) → 2 ≤ line → line ≤ 17 → p < t.w + 7 → DueInside (odd_due line p)
  odds_in line p low high k =
      if_due (leb 8 p) (odd_sample line p) (λ e. record { low = low; high = high; position = omega (arith, k, leb-true 8 p e) })

  picked : (a b c : Bool) (p : ℕ) → p < t.w + 7
      → DueInside (cond a (even_due t.w P.first P.first_rule p) (cond b (even_due t.w P.second P.second_rule p) (cond c (odd_due P.first p) (odd_due P.second p))))
  picked true b c p k = evens_in P.first P.first_rule p h.first_low h.first_high
  picked false true c p k = evens_in P.second P.second_rule p h.second_low h.second_high
  picked false false true p k = odds_in P.first p h.first_low h.first_high k
  picked false false false p k = odds_in P.second p h.second_low h.second_high k

  due_in : (u : ℕ) → t.w % 2 ≡ 0 → u < 4 * (t.w / 2 + 4) → DueInside (due_at t.w P u)
  unfolding due_at
  due_in u even lt = picked (eqb (u % 4) 0) (eqb (u % 4) 1) (eqb (u % 4) 2) (2 * (u / 4)) (omega (arith, even, lt))

  pub due_inside : (u : ℕ) (x : Sample) → due_at t.w P u ≡ Some x → t.w % 2 ≡ 0 → u < 4 * (t.w / 2 + 4) → Inside t x
  due_inside u x e even lt = rw e at (due_in u even lt)
