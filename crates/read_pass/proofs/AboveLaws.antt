-- The lines above those of a pass do not change while it is read, and so what was made ahead of it stays right. Assumes nothing.
use mathlib.Core.Bool.{Bool}
use mathlib.Core.List.{List, [], ◌∷◌}
use mathlib.Core.Logic.{◌≢◌}
use mathlib.Core.Path.{◌≡◌}
use Prim.Native.Nat.{ℕ, ◌+◌, ◌-◌, ◌*◌, ◌≤◌, ◌<◌}
use native.Mathlib.Nat.{mul-le-mul_right, add-mul}
use native.Mathlib.Omega.{arith}
use lib.ListN.{get_or}
use Rattle.pass_schedule.specs.Steps.{step_at}
use Rattle.pass_schedule.specs.declared.Plan.{Plan}
use Rattle.read_pass.specs.Readings.{Reading}
use Rattle.read_pass.specs.Pairs.{Apart}
use Rattle.read_pass.proofs.StepLaws.{StepGives, StepsGive}
use Rattle.read_pass.proofs.FrameLaws.{step_leaves, steps_leave}
use Rattle.std.specs.Prelude.{Some}

-- the two lines above a line are as they were
abbrev pub Above : ℕ → ℕ → List ℕ → List ℕ → Type 0
Above W line lines new = (j : ℕ) → (line - 2) * (W + 2) ≤ j → j < line * (W + 2) → get_or new j 0 ≡ get_or lines j 0

module _ (W : ℕ) (P : Plan) (apart : Apart P) (p : ℕ) (inside : p < W) where
  -- no place above either line is one of position p
  first_side : (j : ℕ) → j < P.first * (W + 2) → (j ≢ P.first * (W + 2) + p + 1) × (j ≢ P.second * (W + 2) + p + 1)
  first_side j h =
      let le : P.first ≤ P.second = omega arith in
      let m = mul-le-mul_right (W + 2) le in
      (λ e. omega arith, λ e. omega (arith, m))

  second_side : (j : ℕ) → (P.second - 2) * (W + 2) ≤ j → j < P.second * (W + 2) → (j ≢ P.first * (W + 2) + p + 1) × (j ≢ P.second * (W + 2) + p + 1)
  second_side j l h =
      let le : P.first + 1 ≤ P.second - 2 = omega arith in
      let m = mul-le-mul_right (W + 2) le in
      let a = add-mul P.first 1 (W + 2) in
      (λ e. omega (arith, m, a), λ e. omega arith)

  module _ {bits q : ℕ} {s : List ℕ} {r z : Reading} where
    -- after the first sample, and after both
    pub second_above : {a : Bool} → StepGives bits q W s (step_at P.first p a) r (Some z) → Above W P.second r.lines z.lines
    second_above g j l h = step_leaves bits q W s j _ r z (second_side j l h).0 g.is

    pub both_above : {a b : Bool} → StepsGive bits q W s (step_at P.first p a ∷ step_at P.second p b ∷ []) r (Some z)
        → Above W P.first r.lines z.lines × Above W P.second r.lines z.lines
    both_above g = (
      λ j l h. let f = first_side j h in steps_leave bits q W s j _ r z (f.0, (f.1, tt)) g.are,
      λ j l h. let f = second_side j l h in steps_leave bits q W s j _ r z (f.0, (f.1, tt)) g.are,
    )
