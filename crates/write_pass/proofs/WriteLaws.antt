-- Writing by itself: the two ways in which a step goes, steps that are put together, and bits that are only added to. Assumes nothing.
use mathlib.Core.Bool.{Bool, true, false, cond}
use mathlib.Core.List.{List, [], ◌∷◌, ◌++◌, append_assoc, append-nil}
use mathlib.Core.Path.{◌≡◌, refl}
use Prim.Native.Nat.{ℕ}
use lib.ListN.{get_or}
use Rattle.prediction.specs.declared.Context.{Context}
use Rattle.pass_schedule.specs.Steps.{step_place}
use Rattle.pass_steps.specs.Contexts.{step_context, step_look, step_slot}
use Rattle.pass_schedule.specs.Steps.{Step, pass_steps}
use Rattle.pass_schedule.specs.declared.Plan.{Plan}
use Rattle.colour_lines.specs.Sets.{index_in}
use Rattle.write_pass.specs.Writings.{Writing, or_second, pass_over, put_code, write_step, writes, write_pass}
use Rattle.std.specs.Prelude.{None, Option, Some}

-- ---- one step

-- the sample of a step
abbrev pub wanted : ℕ → List ℕ → ℕ → Step → ℕ
wanted W t n x = get_or t (index_in W n x.line x.position) 0

module _ (bits q W : ℕ) (strict : Bool) (t : List ℕ) (n : ℕ) (x : Step) (r : Writing) where
  pub write_coded : x.coded ≡ true
      → write_step bits q W strict t n x r
      ≡ put_code bits q (step_place W x) (step_slot q W x r.lines) (wanted W t n x) (step_context W x r.lines) (step_look q W x r.lines) r
  unfolding write_step
  write_coded e = rw e

  pub write_interpolated : x.coded ≡ false
      → write_step bits q W strict t n x r
      ≡ pass_over strict (step_place W x) (index_in W n x.line x.position) (wanted W t n x) (step_context W x r.lines) r
  unfolding write_step
  write_interpolated e = rw e

-- ---- bits that stand before those of a writing

abbrev pub after : List Bool → Writing → Writing
after l r = record { lines = r.lines; set = r.set; bits = l ++ r.bits; wrong = r.wrong }

-- the same with no bits yet
abbrev pub afresh : Writing → Writing
afresh r = record { lines = r.lines; set = r.set; bits = []; wrong = r.wrong }

module _ (bits q W : ℕ) (strict : Bool) (t : List ℕ) (n : ℕ) (l : List Bool) where
  -- a step adds the same bits, whatever stands before
  pub step_after : (x : Step) (r : Writing) → write_step bits q W strict t n x (after l r) ≡ after l (write_step bits q W strict t n x r)
  unfolding write_step
  step_after x r = go x.coded
    where
      c : Context
      c = step_context W x r.lines

      put : Writing → Writing
      put y = put_code bits q (step_place W x) (step_slot q W x r.lines) (wanted W t n x) c (step_look q W x r.lines) y

      pass : Writing → Writing
      pass y = pass_over strict (step_place W x) (index_in W n x.line x.position) (wanted W t n x) c y

      go : (b : Bool) → cond b (put (after l r)) (pass (after l r)) ≡ after l (cond b (put r) (pass r))
      go true = rw (append_assoc l r.bits _)
      go false = refl

  pub writes_after : (k : List Step) (r : Writing) → writes bits q W strict t n k (after l r) ≡ after l (writes bits q W strict t n k r)
  unfolding writes
  writes_after [] r = refl
  writes_after (x ∷ k) r = rw (step_after x r) (writes_after k (write_step bits q W strict t n x r))

  pub pass_after : (P : Plan) (r : Writing) → write_pass bits q W strict t n P (after l r) ≡ after l (write_pass bits q W strict t n P r)
  unfolding write_pass
  pass_after P r = writes_after (pass_steps W P) r

module _ (bits q W : ℕ) (strict : Bool) (t : List ℕ) (n : ℕ) where
  -- so what a list of steps writes is what was there, and the bits of the steps alone
  pub writes_add : (k : List Step) (r : Writing) → writes bits q W strict t n k r ≡ after r.bits (writes bits q W strict t n k (afresh r))
  writes_add k r =
      let e : after r.bits (afresh r) ≡ r = rw (append-nil r.bits) in
      rw e at (writes_after bits q W strict t n r.bits k (afresh r))

  -- the second part goes on where the first ends
  pub writes_append : (k l : List Step) (r : Writing) → writes bits q W strict t n (k ++ l) r ≡ writes bits q W strict t n l (writes bits q W strict t n k r)
  unfolding writes
  writes_append [] l r = refl
  writes_append (x ∷ k) l r = writes_append k l (write_step bits q W strict t n x r)

  -- ---- the first wrong sample stays

  first_none_lem : (a b : Option ℕ) → or_second a b ≡ None → a ≡ None
  first_none_lem None b e = refl
  first_none_lem (Some i) b e = e

  pub step_right : (x : Step) (r : Writing) → (write_step bits q W strict t n x r).wrong ≡ None → r.wrong ≡ None
  step_right x r e = go x.coded refl
    where
      go : (b : Bool) → x.coded ≡ b → r.wrong ≡ None
      go true c = rw (write_coded bits q W strict t n x r c) at e
      go false c = first_none_lem r.wrong _ (rw (write_interpolated bits q W strict t n x r c) at e)

  pub writes_right : (k : List Step) (r : Writing) → (writes bits q W strict t n k r).wrong ≡ None → r.wrong ≡ None
  unfolding writes
  writes_right [] r e = e
  writes_right (x ∷ k) r e = step_right x r (writes_right k (write_step bits q W strict t n x r) e)
