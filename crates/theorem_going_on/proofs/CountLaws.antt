-- What was counted before has no influence on what is read: a reading of which n more codes were long goes on alike. Assumes nothing.
use mathlib.Core.Bool.{Bool, true, false, cond}
use mathlib.Core.List.{List, [], ◌∷◌}
use mathlib.Core.Path.{◌≡◌, refl}
use Prim.Native.Nat.{ℕ, ◌+◌}
use native.Mathlib.Omega.{arith}
use Rattle.prediction.specs.declared.Context.{Context}
use Rattle.pass_schedule.specs.Steps.{Step, pass_steps}
use Rattle.pass_schedule.specs.Steps.{step_place}
use Rattle.pass_steps.specs.Contexts.{slot_of, look_of, step_context}
use Rattle.pass_steps.specs.declared.Look.{Look}
use Rattle.pass_schedule.specs.declared.Plan.{Plan}
use Rattle.read_pass.specs.Readings.{Reading, interpolate, taken, code_of, read_step, and_then, reads, read_pass}
use Rattle.std.specs.Prelude.{None, Some, Option}
use Rattle.code.specs.declared.Code.{Code}

-- ---- two outcomes

-- both are cut off, or both go on, with results that R holds of
abbrev pub Both : {A : Type 0} → (A → A → Type 0) → Option A → Option A → Type 0
Both R None None = Unit {0}
Both R None (Some y) = ⊥
Both R (Some x) None = ⊥
Both R (Some x) (Some y) = R x y

pub both_then : {A : Type 0} (R Q : A → A → Type 0) (o o' : Option A) (f f' : A → Option A) → Both R o o'
    → ((x y : A) → R x y → Both Q (f x) (f' y)) → Both Q (and_then o f) (and_then o' f')
unfolding and_then
both_then R Q None None f f' a k = tt
both_then R Q None (Some y) f f' a k = absurd a
both_then R Q (Some x) None f f' a k = absurd a
both_then R Q (Some x) (Some y) f f' a k = k x y a

-- ---- readings

-- the same, but n more codes were long, and the verdict may be another
pub record More (n : ℕ) (r r' : Reading) : Type 0 where
  pub lines : r.lines ≡ r'.lines
  pub set : r.set ≡ r'.set
  pub at : r.at ≡ r'.at
  pub long : r.long ≡ n + r'.long

module _ (bits q W : ℕ) (s : List ℕ) (n : ℕ) where
  step_more : (x : Step) (r r' : Reading) → More n r r' → Both (More n) (read_step bits q W s x r) (read_step bits q W s x r')
  unfolding read_step
  step_more x r r' m =
      let c : Context = step_context W x r'.lines in
      let h : Look = look_of q c in
      let slot : ℕ = slot_of x.position h.place in
      let same : step_context W x r.lines ≡ c = rw m.lines in
      rw (same, same_code slot h) (go x.coded (code_of bits q s slot h r') (step_place W x) slot c h)
    where
      same_code : (slot : ℕ) (h : Look) → code_of bits q s slot h r ≡ code_of bits q s slot h r'
      same_code slot h = rw (m.set, m.at)

      go : (b : Bool) (g : Option Code) (i slot : ℕ) (c : Context) (h : Look)
          → Both (More n) (cond b (taken bits q i slot c h r g) (Some (interpolate i c r))) (cond b (taken bits q i slot c h r' g) (Some (interpolate i c r')))
      go true None i slot c h = tt
      go true (Some d) i slot c h = record { lines = rw m.lines; set = rw m.set; at = refl; long = omega (arith, m.long) }
      go false g i slot c h = record { lines = rw m.lines; set = m.set; at = m.at; long = m.long }

  reads_more : (l : List Step) (r r' : Reading) → More n r r' → Both (More n) (reads bits q W s l r) (reads bits q W s l r')
  unfolding reads
  reads_more [] r r' m = m
  reads_more (x ∷ l) r r' m =
      both_then (More n) (More n) (read_step bits q W s x r) (read_step bits q W s x r') (λ z. reads bits q W s l z) (λ z. reads bits q W s l z)
      (step_more x r r' m) (λ z z' k. reads_more l z z' k)

  pub pass_more : (P : Plan) (r r' : Reading) → More n r r' → Both (More n) (read_pass bits q W s P r) (read_pass bits q W s P r')
  unfolding read_pass
  pass_more P r r' m = reads_more (pass_steps W P) r r' m
