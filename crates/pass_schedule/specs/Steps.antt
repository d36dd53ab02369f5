-- Rules. The order of the samples: the six passes of a line, and the steps of a pass.
use Rattle.std.specs.Prelude.{Bool, true, false, cond, not, ◌&&◌, ◌||◌, List, [], ◌∷◌, ◌++◌, ℕ, zero, suc, ◌+◌, ◌-◌, ◌*◌, ◌/◌, ◌%◌, leb, ltb, eqb, get_or}
use Rattle.pass_schedule.specs.declared.Plan.{Plan}
use Rattle.pass_schedule.specs.declared.Rule.{Rule}
use Rattle.pass_schedule.specs.declared.Rule.TheVariants.{Nowhere, At0Mod4, At2Mod4, Everywhere}

-- a pass of X-Trans: its two colour lines, its statistics set, and the rule of each line
abbrev pub plan : ℕ → ℕ → ℕ → Rule → Rule → Plan
plan first second set first_rule second_rule =
    record { first = first; second = second; set = set; first_rule = first_rule; second_rule = second_rule }

-- a rule says which even positions p of a line are interpolated: none, those with p mod 4 = 0, those with p mod 4 = 2, or all
unfoldable pub interpolated : Rule → ℕ → Bool
interpolated Nowhere p = false
interpolated At0Mod4 p = eqb (p % 4) 0
interpolated At2Mod4 p = eqb (p % 4) 2
interpolated Everywhere p = true

-- the six passes of a line, in order
abbrev pub plans : List Plan
plans =
    plan 2 7 0 Everywhere Nowhere
    ∷ plan 8 15 1 Nowhere Everywhere
    ∷ plan 3 9 2 At0Mod4 Everywhere
    ∷ plan 10 16 0 Nowhere At2Mod4
    ∷ plan 4 11 1 At2Mod4 Nowhere
    ∷ plan 12 17 2 Everywhere At0Mod4
    ∷ []

-- past the end
abbrev pub no_plan : Plan
no_plan = plan 0 0 0 Nowhere Nowhere

-- Bayer codes all positions
abbrev pub coded_all : Plan → Plan
coded_all P = plan P.first P.second P.set Nowhere Nowhere

-- pass i of a line
unfoldable pub plan_of : Bool → ℕ → Plan
plan_of xtrans i = cond xtrans (get_or plans i no_plan) (coded_all (get_or plans i no_plan))

-- ---- by colour line and position

-- X-Trans interpolates even positions of these lines: 2, 15, 9, 12 all; 3, 17 where p mod 4 is 0; 16, 4 where p mod 4 is 2. Bayer none
unfoldable pub is_interpolated : Bool → ℕ → ℕ → Bool
is_interpolated xtrans l p =
    xtrans
    && ((eqb (p % 2) 0 && (eqb l 2 || eqb l 15 || eqb l 9 || eqb l 12))
    || (eqb (p % 4) 0 && (eqb l 3 || eqb l 17))
    || (eqb (p % 4) 2 && (eqb l 16 || eqb l 4)))

-- ---- steps

-- one step is one sample: its colour line, its position, and whether it has a code
pub record Step : Type 0 where
  pub line : ℕ
  pub position : ℕ
  pub coded : Bool

abbrev pub step_at : ℕ → ℕ → Bool → Step
step_at line position coded = record { line = line; position = position; coded = coded }

-- at each position the first line goes before the second
abbrev pub even_steps : Plan → ℕ → List Step
even_steps P p =
    step_at P.first p (not (interpolated P.first_rule p)) ∷ step_at P.second p (not (interpolated P.second_rule p)) ∷ []

abbrev pub odd_steps : Plan → ℕ → List Step
odd_steps P p = step_at P.first p true ∷ step_at P.second p true ∷ []

-- the even position p, where it is one of the line; and the odd position seven before p, once positions 0 to 8 are done
abbrev pub even_part : ℕ → Plan → ℕ → List Step
even_part W P p = cond (ltb p W) (even_steps P p) []

abbrev pub odd_part : Plan → ℕ → List Step
odd_part P p = cond (leb 8 p) (odd_steps P (p - 7)) []

-- turn t of a pass
unfoldable pub turn_steps : ℕ → Plan → ℕ → List Step
turn_steps W P t = even_part W P (2 * t) ++ odd_part P (2 * t)

-- f 0, f 1, .. one after the other, up to n
unfoldable pub upto : {A : Type 0} → (ℕ → List A) → ℕ → List A
upto f zero = []
upto f (suc n) = upto f n ++ f n

-- the steps of a pass over lines of W samples
unfoldable pub pass_steps : ℕ → Plan → List Step
pass_steps W P = upto (turn_steps W P) (W / 2 + 4)

-- one place before the sample of a step, in colour lines of W samples with a guard at either end
abbrev pub step_place : ℕ → Step → ℕ
step_place W x = x.line * (W + 2) + x.position
