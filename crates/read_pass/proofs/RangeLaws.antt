-- What a reading keeps: samples stay within 0..M, records stay in range, the lists keep their lengths, and there are no more long codes than bits.
-- Assumes nothing.
use mathlib.Core.Bool.{Bool, true, false, cond}
use mathlib.Core.List.{List, [], ◌∷◌}
use mathlib.Core.Path.{◌≡◌, refl, ◌∙◌}
use Prim.Native.Nat.{ℕ, ◌+◌, ◌≤◌, ◌<◌}
use native.Mathlib.Omega.{arith}
use lib.ListN.{length, get_or, set, length-set}
use Rattle.numbers.specs.Numbers.{flag}
use Rattle.statistics.specs.Statistics.{k_of, updated}
use Rattle.statistics.specs.Inside.{InRange}
use Rattle.statistics.specs.declared.Record.{Record}
use Rattle.statistics.proofs.RecordLaws.{k_least, updated_in_range}
use Rattle.quantiser.specs.Quantisers.{largest}
use Rattle.prediction.specs.declared.Context.{Context}
use Rattle.code.specs.Samples.{residual_of}
use Rattle.code.specs.declared.Code.{Code}
use Rattle.code.proofs.CodeLaws.{code_bounds, code_shape}
use Rattle.code.proofs.SampleLaws.{residual_size, sample_le}
use Rattle.pass_schedule.specs.Steps.{Step, pass_steps}
use Rattle.pass_schedule.specs.Steps.{step_place}
use Rattle.pass_steps.specs.Contexts.{used_base, used_weight, used_quantiser, no_record, step_context, step_look, step_slot}
use Rattle.pass_steps.specs.Values.{SetInRange}
use Rattle.pass_steps.specs.declared.Look.{Look}
use Rattle.pass_schedule.specs.declared.Plan.{Plan}
use Rattle.pass_steps.proofs.ContextLaws.{AllLe, context_le, stored_le, slot_lt}
use Rattle.pass_steps.proofs.TableLaws.{numbers_le}
use Rattle.pass_steps.proofs.ZipLaws.{set_keeps}
use Rattle.read_pass.specs.Readings.{Reading, interpolate, taken, code_of, read_step, and_then, reads, read_pass}
use Rattle.std.specs.Prelude.{None, Some, Option}

-- what a reading keeps
pub record Kept (bits : ℕ) (r z : Reading) : Type 0 where
  pub samples : AllLe (largest bits) r.lines → AllLe (largest bits) z.lines
  pub lines : length z.lines ≡ length r.lines
  pub records : length z.set ≡ length r.set
  pub ranges : SetInRange r.set → SetInRange z.set
  pub counted : r.long ≤ r.at.0 → z.long ≤ z.at.0

same : (bits : ℕ) (r y z : Reading) → Some y ≡ Some z → Kept bits r y → Kept bits r z
same bits r y z e k = let f : y ≡ z = cc in rw f at k

none_some : {X : Type 0} (z : Reading) → None ≡ Some z → X
none_some z e = let no : ◌≡◌ {A = ℕ} 0 1 = cc in absurd (omega arith)

-- the record of a code is updated
updated_ranges : (bits q : ℕ) (s : List ℕ) (slot : ℕ) (h : Look) (r : Reading) (d : Code) → bits ≤ 16 → slot < 112 → code_of bits q s slot h r ≡ Some d
    → SetInRange r.set
    → SetInRange (set r.set slot (updated (get_or r.set slot no_record) (residual_of d.value).size))
updated_ranges bits q s slot h r d b small e ok k hk =
    let old : Record = get_or r.set slot no_record in
    let n = numbers_le bits (used_base q h.choice) (used_weight h.choice) b in
    let v = rw e at (code_bounds s r.at.0 (k_of old) (used_quantiser bits q h.choice).limit (used_quantiser bits q h.choice).raw (k_least old).capped n.2 n.1) in
    set_keeps InRange r.set no_record slot _ k (ok k hk) (updated_in_range old _ (ok slot small) (omega (arith, v.0, residual_size d.value)))

-- a code has a bit or more, so that there are no more long codes than bits
flag_le : (b : Bool) → flag b ≤ 1
flag_le true = omega arith
flag_le false = omega arith

code_counted : (bits q : ℕ) (s : List ℕ) (slot : ℕ) (h : Look) (r : Reading) (d : Code) → code_of bits q s slot h r ≡ Some d → r.long ≤ r.at.0
    → r.long + flag d.long ≤ d.after.0
code_counted bits q s slot h r d e k =
    let Q = used_quantiser bits q h.choice in
    let shape = code_shape s r.at.0 (k_of (get_or r.set slot no_record)) Q.limit Q.raw d e in
    omega (arith, shape.some_bits, shape.counts.bits, flag_le d.long)

module _ (bits q W : ℕ) (s : List ℕ) (depth : bits ≤ 16) where
  pub step_keeps : (x : Step) (r z : Reading) → read_step bits q W s x r ≡ Some z → Kept bits r z
  unfolding read_step
  step_keeps x r z e = go x.coded (code_of bits q s slot h r) refl e
    where
      i : ℕ
      i = step_place W x

      c : Context
      c = step_context W x r.lines

      h : Look
      h = step_look q W x r.lines

      slot : ℕ
      slot = step_slot q W x r.lines

      go : (b : Bool) (g : Option Code) → code_of bits q s slot h r ≡ g → cond b (taken bits q i slot c h r g) (Some (interpolate i c r)) ≡ Some z → Kept bits r z
      go true None eg f = none_some z f
      go true (Some d) eg f =
          same bits r _ z f (record {
            samples = stored_le (largest bits) r.lines (i + 1) _ (sample_le (largest bits) h.base _ h.negative c.prediction d.value);
            lines = length-set r.lines (i + 1) _;
            records = length-set r.set slot _;
            ranges = updated_ranges bits q s slot h r d depth (slot_lt x.position q c) eg;
            counted = code_counted bits q s slot h r d eg;
          })
      go false g eg f =
          same bits r _ z f (record {
            samples = λ k. stored_le (largest bits) r.lines (i + 1) _ (context_le (largest bits) W r.lines x.line x.position k) k;
            lines = length-set r.lines (i + 1) _;
            records = refl;
            ranges = λ k. k;
            counted = λ k. k;
          })

  -- what a list of steps keeps
  pub reads_keep : (l : List Step) (r z : Reading) → reads bits q W s l r ≡ Some z → Kept bits r z
  unfolding reads and_then
  reads_keep [] r z e = same bits r r z e (record { samples = λ h. h; lines = refl; records = refl; ranges = λ h. h; counted = λ h. h })
  reads_keep (x ∷ l) r z e = go (read_step bits q W s x r) (λ y f. step_keeps x r y f) (λ y f. reads_keep l y z f) e
    where
      go : (o : Option Reading) → ((y : Reading) → o ≡ Some y → Kept bits r y) → ((y : Reading) → reads bits q W s l y ≡ Some z → Kept bits y z)
          → and_then o (λ y. reads bits q W s l y) ≡ Some z → Kept bits r z
      go None a b f = none_some z f
      go (Some y) a b f =
          let k = a y refl in
          let m = b y f in
          record {
            samples = λ h. m.samples (k.samples h);
            lines = m.lines ∙ k.lines;
            records = m.records ∙ k.records;
            ranges = λ h. m.ranges (k.ranges h);
            counted = λ h. m.counted (k.counted h);
          }

  pub pass_keeps : (P : Plan) (r z : Reading) → read_pass bits q W s P r ≡ Some z → Kept bits r z
  unfolding read_pass
  pass_keeps P r z e = reads_keep (pass_steps W P) r z e
