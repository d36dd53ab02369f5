-- A tight code has at most 4·bits bits, and a line 4608 codes. Assumes nothing.
use mathlib.Core.Bool.{Bool, true, false, cond}
use mathlib.Core.List.{List, [], ◌∷◌}
use mathlib.Core.Path.{◌≡◌, refl, ◌∙◌}
use Prim.Native.Nat.{ℕ, zero, suc, ◌+◌, ◌*◌, ◌^◌, ◌≤◌}
use native.Mathlib.Omega.{arith}
use lib.Dec.{leb}
use lib.ListN.{length, get_or}
use Rattle.numbers.proofs.BoolLaws.{both}
use Rattle.statistics.specs.Statistics.{k_of}
use Rattle.statistics.proofs.RecordLaws.{k_least}
use Rattle.quantiser.specs.Quantisers.{largest}
use Rattle.prediction.specs.declared.Context.{Context}
use Rattle.code.specs.Codes.{short_code, long_code, code_at}
use Rattle.code.specs.Samples.{choice_of}
use Rattle.code.specs.Tight.{is_tight}
use Rattle.code.specs.declared.Code.{Code}
use Rattle.code.proofs.CodeLaws.{code_cases}
use Rattle.code.proofs.TightLaws.{tight_small, tight_long}
use Rattle.pass_schedule.specs.Steps.{Step, plan_of, pass_steps, upto}
use Rattle.pass_schedule.specs.Steps.{step_place}
use Rattle.pass_steps.specs.Contexts.{look_of, used_quantiser, no_record, step_context, step_look, step_slot}
use Rattle.pass_steps.specs.declared.Look.{Look}
use Rattle.pass_schedule.specs.declared.Plan.{Plan}
use Rattle.pass_steps.specs.Contexts.{Depth}
use Rattle.pass_schedule.proofs.ScheduleLaws.{codes, line_steps}
use Rattle.read_pass.specs.Readings.{Reading, interpolate, take_code, taken, read_step, reads, read_pass}
use Rattle.write_pass.proofs.BoundLaws.{short_most, four}
use Rattle.write_pass.proofs.LosslessLaws.{lossless}
use Rattle.read_pass.proofs.FrameLaws.{first_then}
use Rattle.image_map.specs.Places.{width_of}
use Rattle.stream.proofs.HeaderLaws.{ruled}
use Rattle.read_block.specs.Blocks.{State, runs, enter, leave, pass_at, end_line, read_line, before_line, read_line_at, start_state, read_lines}
use Rattle.read_block.specs.Images.{form_of}
use Rattle.read_block.specs.declared.Form.{Form}
use Rattle.write_block.proofs.BoundLaws.{codes_append, line_codes}
use Rattle.read_block.proofs.RunLaws.{then_both, runs_last}
use Rattle.theorem_one_to_one.specs.Lengths.{Bounds}
use Rattle.theorem_one_to_one.proofs.BlockLaws.{tail_was}
use Rattle.std.specs.Prelude.{None, Some, Option}
use Rattle.std.proofs.lemmas.Option.{same_Some}

-- ---- one code

module _ (M : ℕ) (s : List ℕ) (p k limit raw : ℕ) (small : M ≤ 2 ^ raw) (low : k ≤ 15) (wide : 15 ≤ limit + raw) where
  code_most : (x : Code) → code_at s p k limit raw ≡ Some x → is_tight M x ≡ true → x.after.0 ≤ p + (limit + 1 + raw)
  code_most x e t =
      code_cases s p k limit raw {X = x.after.0 ≤ p + (limit + 1 + raw)}
      (λ r g. let no : ◌≡◌ {A = ℕ} 0 1 = cc in absurd (omega arith))
      (λ z r h g.
      let is : short_code s p k z ≡ x = cc in
      let v : (short_code s p k z).value ≤ M = tight_small M (short_code s p k z) (rw (← is) at t) in
      rw (← is) (omega (arith, short_most k limit raw low wide z h (omega (arith, v, small)))))
      (λ z r h g.
      let is : long_code s p k limit raw z ≡ x = cc in
      let l = tight_long M s p k limit raw z (rw (← is) at t) in
      rw (← is) (omega (arith, l.0)))

-- ---- steps, passes, lines

-- a reading that is tight has read tight codes alone, and went on by so many bits at most
record Went (from at : ℕ) (was : Bool) (most : ℕ) : Type 0 where
  tight : was ≡ true
  within : at ≤ from + most

module _ (bits W : ℕ) (s : List ℕ) (depth : Depth bits) where
  step_most : (x : Step) (r z : Reading) → read_step bits 0 W s x r ≡ Some z → z.tight ≡ true
      → Went r.at.0 z.at.0 r.tight (cond x.coded 1 0 * (4 * bits))
  unfolding read_step look_of choice_of
  step_most x r z e t = go x.coded (code_at s r.at.0 k limit raw) refl e
    where
      i : ℕ
      i = step_place W x

      c : Context
      c = step_context W x r.lines

      h : Look
      h = step_look 0 W x r.lines

      slot : ℕ
      slot = step_slot 0 W x r.lines

      k : ℕ
      k = k_of (get_or r.set slot no_record)

      limit : ℕ
      limit = (used_quantiser bits 0 0).limit

      raw : ℕ
      raw = (used_quantiser bits 0 0).raw

      go : (b : Bool) (g : Option Code) → code_at s r.at.0 k limit raw ≡ g
          → cond b (taken bits 0 i slot c h r g) (Some (interpolate i c r)) ≡ Some z
          → Went r.at.0 z.at.0 r.tight (cond b 1 0 * (4 * bits))
      go true None eg f = let no : ◌≡◌ {A = ℕ} 0 1 = cc in absurd (omega arith)
      go true (Some d) eg f =
          let y : Reading = take_code bits 0 i slot c h d r in
          let is : y ≡ z = same_Some y z f in
          let ts = both r.tight (is_tight (largest bits) d) (rw (← is) at t) in
          let n = (lossless bits (omega (arith, depth.0)) depth.1).raw in
          let low = (k_least (get_or r.set slot no_record)).capped in
          let m = code_most (largest bits) s r.at.0 k limit raw n low (omega (arith, four bits 0 9 depth, depth.0)) d eg ts.1 in
          record { tight = ts.0; within = rw (← is) (omega (arith, m, four bits 0 9 depth)) }
      go false g eg f =
          let y : Reading = interpolate i c r in
          let is : y ≡ z = same_Some y z f in
          record { tight = rw (← is) at t; within = rw (← is) (omega arith) }

  steps_most : (l : List Step) (r z : Reading) → reads bits 0 W s l r ≡ Some z → z.tight ≡ true → Went r.at.0 z.at.0 r.tight (codes l * (4 * bits))
  unfolding codes reads
  steps_most [] r z e t = let is : r ≡ z = same_Some r z e in record { tight = rw is t; within = rw is (omega arith) }
  steps_most (x ∷ l) r z e t =
      let f = first_then bits 0 W s x l r z e in
      let after = steps_most l f.0 z f.2 t in
      let first = step_most x r f.0 f.1 after.tight in
      record { tight = first.tight; within = omega (arith, first.within, after.within) }

module _ (F : Form) (s : List ℕ) (depth : Depth F.bits) where
  abbrev W : ℕ
  W = width_of F.xtrans

  abbrev WentOn : State → State → ℕ → Type 0
  WentOn r z n = Went r.at.0 z.at.0 r.tight (n * (4 * F.bits))

  pass_most : (i : ℕ) (r z : State) → pass_at F 0 s i r ≡ Some z → z.tight ≡ true → WentOn r z (codes (pass_steps W (plan_of F.xtrans i)))
  unfolding pass_at read_pass
  pass_most i r z e t = go (read_pass F.bits 0 W s P (enter F P r)) refl e
    where
      P : Plan
      P = plan_of F.xtrans i

      go : (o : Option Reading) → read_pass F.bits 0 W s P (enter F P r) ≡ o → leave P r o ≡ Some z → WentOn r z (codes (pass_steps W P))
      go None eo f = let no : ◌≡◌ {A = ℕ} 0 1 = cc in absurd (omega arith)
      go (Some y) eo f =
          let at_is : y.at ≡ z.at = cc in
          let tight_is : y.tight ≡ z.tight = cc in
          let m = steps_most F.bits W s depth (pass_steps W P) (enter F P r) y eo (tight_is ∙ t) in
          record { tight = m.tight; within = rw (← at_is) m.within }

  passes_most : (n : ℕ) (r z : State) → runs (pass_at F 0 s) n r ≡ Some z → z.tight ≡ true
      → WentOn r z (codes (upto (λ i. pass_steps W (plan_of F.xtrans i)) n))
  unfolding runs upto codes
  passes_most zero r z e t = let is : r ≡ z = same_Some r z e in record { tight = rw is t; within = rw is (omega arith) }
  passes_most (suc n) r z e t =
      let o = runs_last (pass_at F 0 s) r n z e in
      let last = pass_most n o.0 z o.2 t in
      let before = passes_most n r o.0 o.1 last.tight in
      let l : List Step = upto (λ i. pass_steps W (plan_of F.xtrans i)) n in
      record {
        tight = before.tight;
        within = rw (codes_append l (pass_steps W (plan_of F.xtrans n))) (omega (arith, before.within, last.within));
      }

  line_most : (n : ℕ) (r z : State) → read_line_at F [] s n r ≡ Some z → z.tight ≡ true → WentOn r z 4608
  unfolding read_line_at read_line line_steps
  line_most n r z e t =
      let o = then_both (runs (pass_at F 0 s) 6 (before_line F [] n r)) (end_line s) z e in
      let is : o.0 ≡ z = ended o.0 (leb o.0.at.0 (8 * length s + 7)) o.2 in
      let m = passes_most 6 (before_line F [] n r) o.0 o.1 (rw is t) in
      rw (line_codes F.xtrans, is) at m
    where
      ended : (y : State) (b : Bool) → cond b (Some y) None ≡ Some z → y ≡ z
      ended y true f = same_Some y z f
      ended y false f = let no : ◌≡◌ {A = ℕ} 0 1 = cc in absurd (omega arith)

  -- n lines
  lines_most : (n : ℕ) (z : State) → read_lines F [] s n ≡ Some z → z.tight ≡ true → z.at.0 ≤ n * (4608 * (4 * F.bits))
  unfolding read_lines runs start_state
  lines_most zero z e t = let is : start_state F [] ≡ z = same_Some (start_state F []) z e in rw (← is) (omega arith)
  lines_most (suc n) z e t =
      let o = runs_last (read_line_at F [] s) (start_state F []) n z e in
      let last = line_most n o.0 z o.2 t in
      omega (arith, last.within, lines_most n o.0 o.1 last.tight)

-- the bound
pub bounds : Bounds
bounds d h e lossless s T =
    let R = ruled d h e in
    let m = lines_most (form_of h) s (R.bits_low, R.bits_high) h.lines T.end T.read T.codes in
    omega (arith, m, (tail_was s T.end.at.0 T.tail).full)
