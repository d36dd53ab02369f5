-- A set with bases is not held to its predictions: no sample of it is wrong. Assumes nothing.
use mathlib.Core.Bool.{Bool, true, false}
use mathlib.Core.List.{List, [], ◌∷◌}
use mathlib.Core.Path.{◌≡◌, refl, ap, ◌∙◌}
use Prim.Native.Nat.{ℕ, zero, suc, ◌≤◌}
use native.Mathlib.Omega.{arith}
use lib.ListN.{length}
use borrow.Author.Tests.{ne_eqb}
use Rattle.pass_schedule.specs.Steps.{Step, plan_of, pass_steps}
use Rattle.pass_schedule.specs.declared.Plan.{Plan}
use Rattle.image_map.specs.Places.{width_of}
use Rattle.write_pass.specs.Writings.{Writing, or_second, write_step, writes, write_pass}
use Rattle.write_pass.proofs.WriteLaws.{write_coded, write_interpolated}
use Rattle.read_block.specs.Records.{base_of}
use Rattle.write_block.specs.WrittenBlocks.{WriteState, repeats, enter_writing, write_pass_at, before_writing, is_strict, write_line, start_writing, write_lines}
use Rattle.read_block.specs.declared.Form.{Form}
use Rattle.std.specs.Prelude.{None, Option, Some}

pub not_strict : (bases : List ℕ) → 1 ≤ length bases → is_strict bases ≡ false
not_strict bases h = ne_eqb (length bases) 0 (λ e. omega arith)

first_alone : (a : Option ℕ) → or_second a None ≡ a
first_alone None = refl
first_alone (Some i) = refl

module _ (bits q W : ℕ) (t : List ℕ) (n : ℕ) where
  step_keeps_wrong : (x : Step) (r : Writing) → (write_step bits q W false t n x r).wrong ≡ r.wrong
  step_keeps_wrong x r = go x.coded refl
    where
      go : (b : Bool) → x.coded ≡ b → (write_step bits q W false t n x r).wrong ≡ r.wrong
      go true e = ap (λ (z : Writing). z.wrong) (write_coded bits q W false t n x r e)
      go false e = ap (λ (z : Writing). z.wrong) (write_interpolated bits q W false t n x r e) ∙ first_alone r.wrong

  writes_keep_wrong : (l : List Step) (r : Writing) → (writes bits q W false t n l r).wrong ≡ r.wrong
  unfolding writes
  writes_keep_wrong [] r = refl
  writes_keep_wrong (x ∷ l) r = writes_keep_wrong l (write_step bits q W false t n x r) ∙ step_keeps_wrong x r

-- what each of some things keeps, all of them keep
repeats_keep_wrong : (f : ℕ → WriteState → WriteState) → ((i : ℕ) (r : WriteState) → (f i r).wrong ≡ r.wrong) → (n : ℕ) (r : WriteState)
    → (repeats f n r).wrong ≡ r.wrong
unfolding repeats
repeats_keep_wrong f k zero r = refl
repeats_keep_wrong f k (suc n) r = k n (repeats f n r) ∙ repeats_keep_wrong f k n r

module _ (F : Form) (bases t : List ℕ) (free : is_strict bases ≡ false) where
  pass_keeps_wrong : (n i : ℕ) (r : WriteState) → (write_pass_at F (base_of bases n) (is_strict bases) t n i r).wrong ≡ r.wrong
  unfolding write_pass_at write_pass
  pass_keeps_wrong n i r =
      let P : Plan = plan_of F.xtrans i in
      let W : ℕ = width_of F.xtrans in
      rw free (writes_keep_wrong F.bits (base_of bases n) W t n (pass_steps W P) (enter_writing F P r))

  line_keeps_wrong : (n : ℕ) (r : WriteState) → (write_line F bases t n r).wrong ≡ r.wrong
  unfolding write_line
  line_keeps_wrong n r = repeats_keep_wrong (write_pass_at F (base_of bases n) (is_strict bases) t n) (pass_keeps_wrong n) 6 (before_writing F bases n r)

  pub never_wrong : (lines : ℕ) → (write_lines F bases t lines).wrong ≡ None
  unfolding write_lines start_writing
  never_wrong lines = repeats_keep_wrong (write_line F bases t) line_keeps_wrong lines (start_writing F bases)
