-- The set of zeros fits, so that no header is without a tight block. Assumes nothing.
use mathlib.Core.Bool.{Bool, true, false}
use mathlib.Core.List.{List, [], ◌∷◌}
use mathlib.Core.Path.{◌≡◌, refl}
use Prim.Native.Nat.{ℕ, zero, suc, ◌+◌, ◌*◌, ◌≤◌}
use native.Mathlib.Omega.{arith}
use lib.ListN.{get_or, set, replicate, length-replicate}
use borrow.Author.Tests.{eq-eqb}
use Rattle.quantiser.specs.Quantisers.{largest}
use Rattle.pass_schedule.specs.Steps.{Step, plan_of, pass_steps}
use Rattle.pass_schedule.specs.Steps.{step_place}
use Rattle.pass_steps.specs.Contexts.{step_context, step_look}
use Rattle.pass_schedule.specs.declared.Plan.{Plan}
use Rattle.pass_steps.proofs.ContextLaws.{AllLe, context_le, stored_le}
use Rattle.image_map.specs.Places.{width_of}
use Rattle.colour_lines.specs.ColourLines.{guarded}
use Rattle.colour_lines.specs.Sets.{set_size, index_in}
use Rattle.write_pass.specs.Writings.{Writing, wanted_code, given_sample, write_step, writes, write_pass}
use Rattle.write_pass.proofs.WriteLaws.{wanted, write_coded, write_interpolated}
use Rattle.write_block.specs.WrittenBlocks.{WriteState, repeats, enter_writing, write_pass_at, before_writing, write_line, start_writing, write_lines}
use Rattle.write_block.specs.Inside.{FitSet}
use Rattle.read_block.specs.declared.Form.{Form}
use Rattle.read_block.proofs.SampleLaws.{zeros_le, guarded_le, turned_le}
use Rattle.write_pass.proofs.LookLaws.{given_exact}
use Rattle.std.specs.Prelude.{None, Option}

module _ (F : Form) (t : List ℕ) (none_above : (j : ℕ) → get_or t j 0 ≤ 0) where
  abbrev W : ℕ
  W = width_of F.xtrans

  abbrev Inv : List ℕ → Option ℕ → Type 0
  Inv lines wrong = AllLe 0 lines × (wrong ≡ None)

  step_inv : (n : ℕ) (x : Step) (r : Writing) → Inv r.lines r.wrong
      → Inv (write_step F.bits 0 W true t n x r).lines (write_step F.bits 0 W true t n x r).wrong
  step_inv n x r h = go x.coded refl
    where
      low : (step_context W x r.lines).prediction ≤ 0
      low = context_le 0 W r.lines x.line x.position h.0

      put : (v : ℕ) → v ≤ 0 → AllLe 0 (set r.lines (step_place W x + 1) v)
      put v z = stored_le 0 r.lines (step_place W x + 1) v z h.0

      zero_given : given_sample F.bits 0 (wanted_code F.bits 0 (wanted W t n x) (step_context W x r.lines) (step_look 0 W x r.lines))
          (step_context W x r.lines) (step_look 0 W x r.lines) ≤ 0
      zero_given =
          rw (given_exact F.bits (wanted W t n x) (step_context W x r.lines) (omega (arith, low)) (omega (arith, none_above (index_in W n x.line x.position))))
          (none_above (index_in W n x.line x.position))

      is : wanted W t n x ≡ (step_context W x r.lines).prediction
      is = omega (arith, none_above (index_in W n x.line x.position), low)

      go : (b : Bool) → x.coded ≡ b → Inv (write_step F.bits 0 W true t n x r).lines (write_step F.bits 0 W true t n x r).wrong
      go true e = rw (write_coded F.bits 0 W true t n x r e) (put _ zero_given, h.1)
      go false e = rw (write_interpolated F.bits 0 W true t n x r e) (put _ low, rw (h.1, eq-eqb (wanted W t n x) (step_context W x r.lines).prediction is))

  steps_inv : (n : ℕ) (l : List Step) (r : Writing) → Inv r.lines r.wrong
      → Inv (writes F.bits 0 W true t n l r).lines (writes F.bits 0 W true t n l r).wrong
  unfolding writes
  steps_inv n [] r h = h
  steps_inv n (x ∷ l) r h = steps_inv n l (write_step F.bits 0 W true t n x r) (step_inv n x r h)

  abbrev StateInv : WriteState → Type 0
  StateInv r = Inv r.lines r.wrong

  pass_inv : (n i : ℕ) (r : WriteState) → StateInv r → StateInv (write_pass_at F 0 true t n i r)
  unfolding write_pass_at write_pass
  pass_inv n i r h =
      let P : Plan = plan_of F.xtrans i in
      steps_inv n (pass_steps W P) (enter_writing F P r)
      (guarded_le 0 W P.second (guarded W P.first r.lines) (guarded_le 0 W P.first r.lines h.0), h.1)

  all_inv : (f : ℕ → WriteState → WriteState) → ((i : ℕ) (r : WriteState) → StateInv r → StateInv (f i r)) → (n : ℕ) (r : WriteState) → StateInv r
      → StateInv (repeats f n r)
  unfolding repeats
  all_inv f each zero r h = h
  all_inv f each (suc n) r h = each n (repeats f n r) (all_inv f each n r h)

  line_inv : (n : ℕ) (r : WriteState) → StateInv r → StateInv (write_line F [] t n r)
  unfolding write_line
  line_inv n r h = all_inv (write_pass_at F 0 true t n) (pass_inv n) 6 (before_writing F [] n r) (turned_le 0 W r.lines h.0, h.1)

  lines_inv : (n : ℕ) → StateInv (write_lines F [] t n)
  unfolding write_lines start_writing
  lines_inv n = all_inv (write_line F [] t) line_inv n (start_writing F []) (zeros_le 0 (18 * (W + 2)), refl)

pub zeros_fit : (F : Form) (lines : ℕ) → FitSet F lines (replicate (set_size (width_of F.xtrans) lines) 0)
zeros_fit F lines =
    let t : List ℕ = replicate (set_size (width_of F.xtrans) lines) 0 in
    record {
      size = length-replicate (set_size (width_of F.xtrans) lines) 0;
      range = λ j. zeros_le (largest F.bits) (set_size (width_of F.xtrans) lines) j;
      predicted = (lines_inv F t (zeros_le 0 (set_size (width_of F.xtrans) lines)) lines).1;
    }
