-- One step of a lossless line that was read: the bits of its code stand where it was read. Assumes nothing.
use mathlib.Core.Bool.{Bool, true, false, cond, ◌&&◌}
use mathlib.Core.List.{List}
use mathlib.Core.Path.{◌≡◌, refl, sym, ◌∙◌, subst}
use Prim.Native.Nat.{ℕ, suc, ◌+◌, ◌*◌, ◌≤◌}
use native.Mathlib.Omega.{arith}
use lib.ListN.{length, get_or, set}
use lib.Seq.{get_or-set_same}
use borrow.Author.Tests.{eq-eqb}
use Rattle.numbers.proofs.BoolLaws.{both}
use Rattle.statistics.specs.Statistics.{k_of}
use Rattle.quantiser.specs.Quantisers.{largest}
use Rattle.prediction.specs.declared.Context.{Context}
use Rattle.code.specs.Codes.{code_at}
use Rattle.code.specs.Samples.{choice_of, sample_of}
use Rattle.code.specs.Inside.{code_for}
use Rattle.code.specs.Tight.{code_bits, is_tight}
use Rattle.code.specs.Inside.{code_length}
use Rattle.code.specs.Nearest.{code_near}
use Rattle.code.specs.declared.Code.{Code}
use Rattle.code.proofs.SampleLaws.{OneToOne, one_to_one, sample_le}
use Rattle.code.proofs.NearLaws.{near_exact}
use Rattle.code.proofs.TightLaws.{length_code_bits, Stands, stands_there}
use Rattle.pass_schedule.specs.Steps.{Step}
use Rattle.pass_schedule.specs.Steps.{step_place}
use Rattle.pass_steps.specs.Contexts.{look_of, used_quantiser, no_record, step_context, step_look, step_slot}
use Rattle.pass_steps.specs.declared.Look.{Look}
use Rattle.pass_steps.proofs.ContextLaws.{context_le}
use Rattle.read_pass.specs.Readings.{Reading, interpolate, take_code, taken, read_step}
use Rattle.write_pass.specs.Writings.{write_step}
use Rattle.write_pass.proofs.LosslessLaws.{Lossless}
use Rattle.write_pass.proofs.WriteLaws.{wanted}
use Rattle.theorem_one_to_one.proofs.Together.{taken_more, Clean, Sound, writing_of, CleanReading, Back}
use Rattle.theorem_one_to_one.proofs.StepForward.{InLines, cell_lt, same_code, same_interpolated}
use Rattle.std.specs.Prelude.{None, Option, Some}

-- a step of line n, at a reading r, and the quantiser, context, record and sample that it goes by
module _ (bits W : ℕ) (s t : List ℕ) (n : ℕ) (Q : Lossless bits) (x : Step) (r : Reading) (ok : Sound bits W r.lines) (inside : InLines W x) where
  abbrev M : ℕ
  M = largest bits

  abbrev p : ℕ
  p = r.at.0

  abbrev i : ℕ
  i = step_place W x

  abbrev c : Context
  c = step_context W x r.lines

  abbrev h : Look
  h = step_look 0 W x r.lines

  abbrev slot : ℕ
  slot = step_slot 0 W x r.lines

  abbrev k : ℕ
  k = k_of (get_or r.set slot no_record)

  abbrev limit : ℕ
  limit = (used_quantiser bits 0 0).limit

  abbrev raw : ℕ
  raw = (used_quantiser bits 0 0).raw

  abbrev v : ℕ
  v = wanted W t n x

  abbrev code : ℕ
  code = code_for M h.negative c.prediction v

  abbrev sample : ℕ → ℕ
  sample value = sample_of M 0 (suc M) h.negative c.prediction value

  one : OneToOne M h.negative c.prediction
  one = one_to_one bits Q.low h.negative c.prediction (context_le M W r.lines x.line x.position ok.small)

  -- a sample that is put into its place is there
  put_there : (a : ℕ) → get_or (set r.lines (i + 1) a) (i + 1) 0 ≡ a
  put_there a = get_or-set_same r.lines (i + 1) a 0 (rw ok.long (cell_lt W x inside))

  abbrev pub StepBack : Reading → Type 0
  StepBack z = Back (CleanReading s) (writing_of s) (write_step bits 0 W true t n x) r z

  -- ---- with a code

  abbrev after : Code → Reading
  after d = take_code bits 0 i slot c h d r

  -- the nearest sample is the wanted one itself
  exact : v ≤ M → code_near 0 (used_quantiser bits 0 0).total h.negative c.prediction v ≡ code
  exact small = rw Q.total (near_exact bits Q.low h.negative c.prediction v (context_le M W r.lines x.line x.position ok.small) small)

  -- its bits stand where it was read
  coded_backward : x.coded ≡ true → (d : Code) → code_at s p k limit raw ≡ Some d → Clean s d.after.0 (r.tight && is_tight M d) → sample d.value ≡ v
      → StepBack (after d)
  unfolding look_of choice_of
  coded_backward e d read clean is =
      let ts = both r.tight (is_tight M d) clean.tight in
      let b : Stands M s p k limit raw d = stands_there M s p k limit raw d read ts.1 clean.inside in
      let m : List Bool = code_bits k limit raw d.value in
      let small : v ≤ M = rw (← is) (sample_le M 0 (suc M) h.negative c.prediction d.value) in
      let value : d.value ≡ code_near 0 (used_quantiser bits 0 0).total h.negative c.prediction v =
      sym (one.there d.value b.small) ∙ rw is (sym (exact small)) in
      let len : length m ≡ code_length k limit raw d.value = length_code_bits k limit raw d.value in
      let before : p ≤ 8 * length s = omega (arith, b.after, clean.inside) in
      record {
        clean = record { tight = ts.0; inside = before };
        same = same_code bits 0 W true s t n x r d e value (rw (← value) (taken_more s p d.after.0 m before (omega (arith, b.after)) b.there));
      }

  -- ---- without a code

  abbrev between : Reading
  between = interpolate i c r

  -- where a step was read, its bits stand
  pub step_backward : (z : Reading) → read_step bits 0 W s x r ≡ Some z → CleanReading s z → get_or z.lines (step_place W x + 1) 0 ≡ wanted W t n x → StepBack z
  unfolding read_step look_of choice_of
  step_backward z e clean stands = go x.coded refl (code_at s p k limit raw) refl e
    where
      go : (b : Bool) → x.coded ≡ b → (g : Option Code) → code_at s p k limit raw ≡ g → cond b (taken bits 0 i slot c h r g) (Some between) ≡ Some z → StepBack z
      go true eb None eg f = let no : ◌≡◌ {A = ℕ} 0 1 = cc in absurd (omega arith)
      go true eb (Some d) eg f =
          let is : after d ≡ z = cc in
          subst StepBack is (coded_backward eb d eg (rw (← is) at clean) (sym (put_there _ ∙ rw Q.total) ∙ (rw (← is) at stands)))
      go false eb g eg f =
          let is : between ≡ z = cc in
          let predicted : v ≡ c.prediction = sym (rw (← is) at stands) ∙ put_there c.prediction in
          subst StepBack is
          (record { clean = rw (← is) at clean; same = same_interpolated bits 0 W true s t n x r eb (rw (eq-eqb v c.prediction predicted)) })
