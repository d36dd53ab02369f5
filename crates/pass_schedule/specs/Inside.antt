-- Inside. What only our own functions say.
use Rattle.std.specs.Prelude.{Bool, not, List, [], ◌∷◌, ◌≤◌, ℕ, zero, suc}
use Rattle.pass_schedule.specs.Steps.{interpolated}
use Rattle.pass_schedule.specs.declared.Plan.{Plan}
use Rattle.pass_schedule.specs.declared.Rule.{Rule}
use Rattle.pass_schedule.specs.declared.Rule.TheVariants.{Nowhere, At0Mod4, At2Mod4, Everywhere}

-- the rule of a number: 0 is none, 1 those with p mod 4 = 0, 2 those with p mod 4 = 2, 3 and above all
unfoldable pub rule_of : ℕ → Rule
rule_of zero = Nowhere
rule_of (suc zero) = At0Mod4
rule_of (suc (suc zero)) = At2Mod4
rule_of (suc (suc (suc n))) = Everywhere

-- whether the even positions of a line with that rule have codes: those with p mod 4 = 0, and those with p mod 4 = 2
abbrev pub evens_of : Rule → List Bool
evens_of rule = not (interpolated rule 0) ∷ not (interpolated rule 2) ∷ []

-- each of a pass's lines has two lines of its colour above it
pub record PlanInRange (P : Plan) : Type 0 where
  pub first_low : 2 ≤ P.first
  pub first_high : P.first ≤ 17
  pub second_low : 2 ≤ P.second
  pub second_high : P.second ≤ 17
