-- The count of long codes has no influence: a reading goes on as it does without it. Assumes nothing.
use mathlib.Core.Bool.{Bool, true, false, cond}
use mathlib.Core.List.{List, [], ◌∷◌}
use mathlib.Core.Path.{◌≡◌, refl, sym, ap, ◌∙◌}
use Prim.Native.Nat.{ℕ, zero, suc, ◌+◌, ◌*◌}
use lib.Dec.{leb}
use lib.ListN.{length}
use Rattle.prediction.specs.declared.Context.{Context}
use Rattle.pass_schedule.specs.Steps.{Step, plan_of, pass_steps, step_place}
use Rattle.pass_steps.specs.Contexts.{step_context, step_look, step_slot}
use Rattle.pass_steps.specs.declared.Look.{Look}
use Rattle.pass_schedule.specs.declared.Plan.{Plan}
use Rattle.image_map.specs.Places.{width_of}
use Rattle.read_pass.specs.Readings.{Reading, interpolate, taken, step_code, read_step, and_then, reads, read_pass}
use Rattle.read_block.specs.Records.{base_of}
use Rattle.read_block.specs.Blocks.{State, runs, enter, leave, pass_at, end_line, read_line, before_line, read_line_at}
use Rattle.read_block.specs.BadCodes.{BadCode, bad_at, step_reason, bad_in_steps, first_found, bad_in_pass, bad_in_line}
use Rattle.read_block.specs.declared.Form.{Form}
use Rattle.tight_diagnosis.specs.Ways.{plain, plain_state}
use Rattle.std.specs.Prelude.{None, Some, Option, option_map}
use Rattle.code.specs.declared.Code.{Code}
use Rattle.std.specs.Option.{option_or}
use Rattle.std.proofs.lemmas.Option.{none-some, same_Some}

-- ---- what goes on from values that differ in what is left out

module _ {A C : Type 0} (f : A → A) (g : A → Option C) (blind : (z : A) → g (f z) ≡ g z) where
  pub then_blind : (o o' : Option A) → option_map f o ≡ option_map f o' → and_then o g ≡ and_then o' g
  unfolding and_then
  then_blind None None e = refl
  then_blind None (Some z) e = absurd (none-some _ e)
  then_blind (Some z) None e = absurd (none-some _ (sym e))
  then_blind (Some z) (Some y) e = sym (blind z) ∙ ap g (same_Some _ _ e) ∙ blind y

map_then : {A B C : Type 0} (h : B → C) (o : Option A) (g : A → Option B) → option_map h (and_then o g) ≡ and_then o (λ z. option_map h (g z))
unfolding and_then
map_then h None g = refl
map_then h (Some z) g = refl

-- ---- steps

module _ (bits q W : ℕ) (s : List ℕ) where
  pub step_plain : (x : Step) (r : Reading) → option_map plain (read_step bits q W s x (plain r)) ≡ option_map plain (read_step bits q W s x r)
  unfolding read_step
  step_plain x r = go x.coded (step_code bits q W s x r)
    where
      i : ℕ
      i = step_place W x

      c : Context
      c = step_context W x r.lines

      h : Look
      h = step_look q W x r.lines

      go : (b : Bool) (g : Option Code)
          → option_map plain (cond b (taken bits q i (step_slot q W x r.lines) c h (plain r) g) (Some (interpolate i c (plain r))))
          ≡ option_map plain (cond b (taken bits q i (step_slot q W x r.lines) c h r g) (Some (interpolate i c r)))
      go true (Some d) = refl
      go true None = refl
      go false g = refl

  pub steps_plain : (l : List Step) (r : Reading) → option_map plain (reads bits q W s l (plain r)) ≡ option_map plain (reads bits q W s l r)
  unfolding reads
  steps_plain [] r = refl
  steps_plain (x ∷ l) r =
      map_then plain (read_step bits q W s x (plain r)) (λ z. reads bits q W s l z)
      ∙ then_blind plain (λ z. option_map plain (reads bits q W s l z)) (λ z. steps_plain l z) (read_step bits q W s x (plain r)) (read_step bits q W s x r) (step_plain x r)
      ∙ sym (map_then plain (read_step bits q W s x r) (λ z. reads bits q W s l z))

  pub bad_plain : (n i : ℕ) (l : List Step) (r : Reading) → bad_in_steps n i bits q W s l (plain r) ≡ bad_in_steps n i bits q W s l r
  unfolding bad_in_steps step_reason
  bad_plain n i [] r = refl
  bad_plain n i (x ∷ l) r =
      ap (λ (o : Option BadCode). option_or (option_map (bad_at n i x r) (step_reason bits q W s x r)) o)
      (then_blind plain (λ z. bad_in_steps n i bits q W s l z) (λ z. bad_plain n i l z) (read_step bits q W s x (plain r)) (read_step bits q W s x r) (step_plain x r))

-- ---- passes

leave_plain : (P : Plan) (r : State) (o o' : Option Reading) → option_map plain o ≡ option_map plain o'
    → option_map plain_state (leave P (plain_state r) o) ≡ option_map plain_state (leave P r o')
leave_plain P r None None e = refl
leave_plain P r None (Some z) e = absurd (none-some _ e)
leave_plain P r (Some z) None e = absurd (none-some _ (sym e))
leave_plain P r (Some z) (Some y) e = ap (λ (x : Reading). option_map plain_state (leave P r (Some x))) (same_Some _ _ e)

module _ (F : Form) (q : ℕ) (s : List ℕ) where
  pub pass_plain : (i : ℕ) (r : State) → option_map plain_state (pass_at F q s i (plain_state r)) ≡ option_map plain_state (pass_at F q s i r)
  unfolding pass_at read_pass
  pass_plain i r =
      let P = plan_of F.xtrans i in
      leave_plain P r (reads F.bits q (width_of F.xtrans) s (pass_steps (width_of F.xtrans) P) (plain (enter F P r)))
      (reads F.bits q (width_of F.xtrans) s (pass_steps (width_of F.xtrans) P) (enter F P r)) (steps_plain F.bits q (width_of F.xtrans) s (pass_steps (width_of F.xtrans) P) (enter F P r))

  pub bad_pass_plain : (n i : ℕ) (r : State) → bad_in_pass F q s n i (plain_state r) ≡ bad_in_pass F q s n i r
  unfolding bad_in_pass
  bad_pass_plain n i r =
      let P = plan_of F.xtrans i in
      bad_plain F.bits q (width_of F.xtrans) s n i (pass_steps (width_of F.xtrans) P) (enter F P r)

-- ---- one after the other

module _ (f : ℕ → State → Option State) (blind : (i : ℕ) (z : State) → option_map plain_state (f i (plain_state z)) ≡ option_map plain_state (f i z)) where
  pub runs_plain : (n : ℕ) (r : State) → option_map plain_state (runs f n (plain_state r)) ≡ option_map plain_state (runs f n r)
  unfolding runs
  runs_plain zero r = refl
  runs_plain (suc n) r =
      map_then plain_state (runs f n (plain_state r)) (λ z. f n z)
      ∙ then_blind plain_state (λ z. option_map plain_state (f n z)) (blind n) (runs f n (plain_state r)) (runs f n r) (runs_plain n r)
      ∙ sym (map_then plain_state (runs f n r) (λ z. f n z))

  pub found_plain : (g : ℕ → State → Option BadCode) → ((i : ℕ) (z : State) → g i (plain_state z) ≡ g i z) → (n : ℕ) (r : State)
      → first_found f g n (plain_state r) ≡ first_found f g n r
  unfolding first_found
  found_plain g same zero r = refl
  found_plain g same (suc n) r =
      ap (λ (o : Option BadCode). option_or o (and_then (runs f n (plain_state r)) (λ z. g n z))) (found_plain g same n r)
      ∙ ap (λ (o : Option BadCode). option_or (first_found f g n r) o) (then_blind plain_state (λ z. g n z) (same n) (runs f n (plain_state r)) (runs f n r) (runs_plain n r))

-- ---- lines

pub end_plain : (s : List ℕ) (z : State) → option_map plain_state (end_line s (plain_state z)) ≡ option_map plain_state (end_line s z)
end_plain s z = go (leb z.at.0 (8 * length s + 7))
  where
    go : (b : Bool) → option_map plain_state (cond b (Some (plain_state z)) None) ≡ option_map plain_state (cond b (Some z) None)
    go true = refl
    go false = refl

module _ (F : Form) (bases s : List ℕ) (n : ℕ) (r : State) where
  pub line_plain : option_map plain_state (read_line_at F bases s n (plain_state r)) ≡ option_map plain_state (read_line_at F bases s n r)
  unfolding read_line_at read_line
  line_plain =
      let f = pass_at F (base_of bases n) s in
      let b = before_line F bases n r in
      map_then plain_state (runs f 6 (plain_state b)) (end_line s)
      ∙ then_blind plain_state (λ z. option_map plain_state (end_line s z)) (end_plain s) (runs f 6 (plain_state b)) (runs f 6 b) (runs_plain f (pass_plain F (base_of bases n) s) 6 b)
      ∙ sym (map_then plain_state (runs f 6 b) (end_line s))

  pub bad_line_plain : bad_in_line F bases s n (plain_state r) ≡ bad_in_line F bases s n r
  unfolding bad_in_line
  bad_line_plain =
      found_plain (pass_at F (base_of bases n) s) (pass_plain F (base_of bases n) s) (bad_in_pass F (base_of bases n) s n) (bad_pass_plain F (base_of bases n) s n) 6
      (before_line F bases n r)
