-- Promises. The base of the quantiser that coded a sample: the one that the reading picks as it comes to its place.
use Rattle.std.specs.Prelude.{cond, ◌&&◌, List, [], ◌∷◌, ℕ, ◌+◌, ◌≤◌, eqb, None, Option, Some}
use Rattle.pass_schedule.specs.Steps.{Step}
use Rattle.pass_steps.specs.Contexts.{step_look}
use Rattle.read_pass.specs.Readings.{Reading, read_step, and_then}

-- the base that the reading of these steps picks for position p of colour line l, by the lines as it finds them there; none where it does not get there
unfoldable pub base_in_steps : ℕ → ℕ → ℕ → List ℕ → ℕ → ℕ → List Step → Reading → Option ℕ
base_in_steps bits q W s l p [] r = None
base_in_steps bits q W s l p (x ∷ k) r =
    cond (eqb x.line l && eqb x.position p)
    (Some (step_look q W x r.lines).base)
    (and_then (read_step bits q W s x r) (λ z. base_in_steps bits q W s l p k z))

-- a wanted sample v reads back as w, within b of it
abbrev pub IsNear : ℕ → ℕ → ℕ → Type 0
IsNear b v w = (w ≤ v + b) × (v ≤ w + b)
