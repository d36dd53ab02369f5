-- Inside. The samples of a pass one by one, four in each turn: none, where the pass has no such sample.
use Rattle.std.specs.Prelude.{true, cond, not, List, [], ◌∷◌, Option, Some, None, ℕ, ◌-◌, ◌*◌, ◌/◌, ◌%◌, eqb, ltb, leb}
use Rattle.pass_schedule.specs.Steps.{Step, interpolated}
use Rattle.pass_schedule.specs.declared.Plan.{Plan}
use Rattle.tight_diagnosis.specs.Ways.{step_of}
use Rattle.tight_diagnosis.specs.declared.trace.Sample.{Sample}
use Rattle.pass_schedule.specs.declared.Rule.{Rule}

-- the steps of a sample that the pass may have
abbrev pub steps_due : Option Sample → List Step
steps_due None = []
steps_due (Some x) = step_of x ∷ []

abbrev pub even_sample : ℕ → Rule → ℕ → Sample
even_sample line rule p = record { line = line; position = p; coded = not (interpolated rule p) }

abbrev pub odd_sample : ℕ → ℕ → Sample
odd_sample line p = record { line = line; position = p - 7; coded = true }

-- at the even position p, if it is one of the line; and at the odd position seven before p, once positions 0 to 8 are done
abbrev pub even_due : ℕ → ℕ → Rule → ℕ → Option Sample
even_due W line rule p = cond (ltb p W) (Some (even_sample line rule p)) None

abbrev pub odd_due : ℕ → ℕ → Option Sample
odd_due line p = cond (leb 8 p) (Some (odd_sample line p)) None

-- number u: of each turn the two at its even position, and then the two at its odd one
unfoldable pub due_at : ℕ → Plan → ℕ → Option Sample
due_at W P u =
    let p = 2 * (u / 4) in
    cond (eqb (u % 4) 0) (even_due W P.first P.first_rule p)
    (cond (eqb (u % 4) 1) (even_due W P.second P.second_rule p) (cond (eqb (u % 4) 2) (odd_due P.first p) (odd_due P.second p)))
