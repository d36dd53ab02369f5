-- What steps and passes leave as it is. Assumes nothing.
use mathlib.Core.Bool.{Bool, true, false, cond}
use mathlib.Core.List.{List, [], ◌∷◌}
use mathlib.Core.Logic.{◌≢◌}
use mathlib.Core.Path.{◌≡◌, refl, sym, ap, ◌∙◌}
use Prim.Native.Nat.{ℕ, ◌+◌, ◌*◌, ◌/◌, ◌%◌, ◌<◌}
use native.Mathlib.Omega.{arith}
use lib.Arith.{digits_div}
use lib.ListN.{get_or}
use lib.Seq.{get_or-set_other}
use Rattle.pass_schedule.specs.Steps.{Step, pass_steps}
use Rattle.pass_schedule.specs.Steps.{step_place}
use Rattle.pass_steps.specs.Contexts.{step_context, step_look, step_slot}
use Rattle.pass_schedule.specs.declared.Plan.{Plan}
use Rattle.pass_schedule.proofs.OrderLaws.{All, cell, pass_all}
use Rattle.read_pass.specs.Readings.{Reading, interpolate, taken, step_code, read_step, and_then, reads, read_pass}
use Rattle.std.specs.Prelude.{None, Some, Option}
use Rattle.code.specs.declared.Code.{Code}

-- ---- what a reading leaves as it is

none_some : {X : Type 0} (z : Reading) → None ≡ Some z → X
none_some z e = let no : ◌≡◌ {A = ℕ} 0 1 = cc in absurd (omega arith)

-- a list of steps that was read: its first step was, and then the others
pub first_then : (bits q W : ℕ) (s : List ℕ) (x : Step) (l : List Step) (r z : Reading) → reads bits q W s (x ∷ l) r ≡ Some z
    → (y : Reading) × (read_step bits q W s x r ≡ Some y) × (reads bits q W s l y ≡ Some z)
unfolding reads and_then
first_then bits q W s x l r z e = go (read_step bits q W s x r) refl e
  where
    go : (o : Option Reading) → read_step bits q W s x r ≡ o → and_then o (λ y. reads bits q W s l y) ≡ Some z
        → (y : Reading) × (read_step bits q W s x r ≡ Some y) × (reads bits q W s l y ≡ Some z)
    go None f g = none_some z g
    go (Some y) f g = (y, f, g)

module _ (bits q W : ℕ) (s : List ℕ) (j : ℕ) where
  same_lines : {a : ℕ} (y z : Reading) → Some y ≡ Some z → get_or y.lines j 0 ≡ a → get_or z.lines j 0 ≡ a
  same_lines y z e h = let is : y ≡ z = cc in rw is at h

  pub step_leaves : (x : Step) (r z : Reading) → j ≢ cell W x → read_step bits q W s x r ≡ Some z → get_or z.lines j 0 ≡ get_or r.lines j 0
  unfolding read_step
  step_leaves x r z ne e = go x.coded (step_code bits q W s x r) e
    where
      go : (b : Bool) (g : Option Code)
          → cond b (taken bits q (step_place W x) (step_slot q W x r.lines) (step_context W x r.lines) (step_look q W x r.lines) r g)
          (Some (interpolate (step_place W x) (step_context W x r.lines) r)) ≡ Some z
          → get_or z.lines j 0 ≡ get_or r.lines j 0
      go true None f = none_some z f
      go true (Some d) f = same_lines _ z f (get_or-set_other r.lines (cell W x) j _ 0 ne)
      go false g f = same_lines _ z f (get_or-set_other r.lines (cell W x) j _ 0 ne)

  pub steps_leave : (l : List Step) (r z : Reading) → All (λ y. j ≢ cell W y) l → reads bits q W s l r ≡ Some z → get_or z.lines j 0 ≡ get_or r.lines j 0
  unfolding reads
  steps_leave [] r z a e = let is : r ≡ z = cc in rw is
  steps_leave (x ∷ l) r z a e =
      let f = first_then bits q W s x l r z e in
      steps_leave l f.0 z a.1 f.2 ∙ step_leaves x r f.0 a.0 f.1

-- a pass leaves every line but its two as it is, guards too
pub pass_frame : (bits q W : ℕ) (s : List ℕ) (P : Plan) (r z : Reading) (l d : ℕ) → W % 2 ≡ 0 → d < W + 2 → l ≢ P.first → l ≢ P.second
    → read_pass bits q W s P r ≡ Some z → get_or z.lines (l * (W + 2) + d) 0 ≡ get_or r.lines (l * (W + 2) + d) 0
unfolding read_pass
pass_frame bits q W s P r z l d even h first second e =
    steps_leave bits q W s (l * (W + 2) + d) (pass_steps W P) r z
    (pass_all W P even (λ m p. l * (W + 2) + d ≢ m * (W + 2) + p + 1) (λ p k. (
      λ f. first (line_is P.first p k f),
      λ f. second
          (line_is P.second p k f),
    ))) e
  where
    line_is : (m p : ℕ) → p < W → l * (W + 2) + d ≡ m * (W + 2) + p + 1 → l ≡ m
    line_is m p k f =
        let g : l * (W + 2) + d ≡ m * (W + 2) + (p + 1) = omega arith in
        let b : p + 1 < W + 2 = omega arith in
        sym (digits_div l h) ∙ ap (λ (z : ℕ). z / (W + 2)) g ∙ digits_div m b
