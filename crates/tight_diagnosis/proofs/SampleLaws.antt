-- One sample, from the answers of the leaves. A lossless sample is coded by the main quantiser. Assumes nothing.
use mathlib.Core.Bool.{Bool, true, false}
use mathlib.Core.List.{List}
use mathlib.Core.Path.{◌≡◌, refl, sym, ◌∙◌, subst}
use Prim.Native.Nat.{ℕ, ◌+◌, ◌*◌, ◌^◌, ◌≤◌, ◌<◌}
use lib.ListN.{get_or, set}
use Rattle.bits.specs.declared.BitPosition.{BitPosition}
use Rattle.statistics.specs.Statistics.{k_of, updated}
use Rattle.statistics.specs.declared.Record.{Record}
use Rattle.quantiser.specs.Quantisers.{largest, main_of}
use Rattle.prediction.specs.declared.Context.{Context}
use Rattle.code.specs.Codes.{code_at}
use Rattle.code.specs.Inside.{Bounds}
use Rattle.code.specs.Samples.{choice_of, residual_of, sample_of}
use Rattle.code.specs.Tight.{is_tight}
use Rattle.code.specs.declared.Code.{Code}
use Rattle.pass_schedule.specs.Steps.{Step, step_at}
use Rattle.pass_steps.specs.Contexts.{context_in, look_of, slot_of, no_record, step_look}
use Rattle.pass_steps.specs.Values.{zip_records}
use Rattle.pass_steps.specs.declared.Look.{Look}
use Rattle.pass_steps.proofs.TableLaws.{numbers_le}
use Rattle.read_pass.specs.Readings.{Reading, step_code}
use Rattle.read_pass.proofs.StepLaws.{step_interpolated, step_cut_off, step_read}
use Rattle.code.specs.declared.reasons.Reason.{Reason}
use Rattle.code.specs.Reasons.{reason_of, coded_reason}
use Rattle.read_block.specs.BadCodes.{step_reason, bad_at}
use Rattle.read_block.proofs.BadCodeLaws.{code_stays}
use Rattle.tight_diagnosis.specs.Ways.{found, cut_off, on, step_way}
use Rattle.tight_diagnosis.specs.Traces.{clean}
use Rattle.tight_diagnosis.specs.declared.trace.Stage.{Stage}
use Rattle.std.specs.Prelude.{None, Some, Option}

-- a code that was read is not too large for what follows
pub read_small : (s : List ℕ) (g : Option Code) (c : Code) → Bounds s g → g ≡ Some c → c.value < 63 * 2 ^ 15
read_small s g c h e = let b : Bounds s (Some c) = subst (Bounds s) e h in b.0

-- ---- the look of a lossless sample

choice_main : (x : Context) → (look_of 0 x).choice ≡ 0
unfolding look_of choice_of
choice_main x = refl

-- the sample at position p of a line goes after place i, in lines of w samples; it is coded as h says, by the record at j of its set
pub record Here (t : Stage) (line p : ℕ) (lines sums ns : List ℕ) (i : ℕ) (x : Context) (h : Look) (j : ℕ) (old : Record) : Type 0 where
  pub place : i ≡ line * (t.w + 2) + p
  pub context : x ≡ context_in t.w lines line p
  pub look : h ≡ look_of 0 x
  pub slot : j ≡ slot_of p h.place
  pub record_is : old ≡ get_or (zip_records sums ns) j no_record
  pub quantiser : t.q ≡ main_of t.bits 0

-- an interpolated sample is its prediction
pub interpolated : (t : Stage) (s : List ℕ) (line p : ℕ) (coded : Bool) (lines sums ns : List ℕ) (i : ℕ) (x : Context) (at : BitPosition)
    → i ≡ line * (t.w + 2) + p → x ≡ context_in t.w lines line p → coded ≡ false
    → step_way t s (step_at line p coded) (clean lines sums ns at) ≡ on (clean (set lines (i + 1) x.prediction) sums ns at)
unfolding step_way step_reason
interpolated t s line p coded lines sums ns i x at ei ex ec =
    let r : Reading = clean lines sums ns at in
    let e = step_interpolated t.bits 0 t.w s (step_at line p coded) r ec in
    rw (e, ec, ex, ei)

-- what the leaves ask of the quantiser
pub reader_small : (t : Stage) → t.q ≡ main_of t.bits 0 → t.bits ≤ 16 → (t.q.limit < 64) × (t.q.raw ≤ 16)
reader_small t e h = let n = numbers_le t.bits 0 9 h in rw e (n.2, n.1)

pub total_small : (t : Stage) → t.q ≡ main_of t.bits 0 → t.bits ≤ 16 → t.q.total ≤ 2 ^ 16
total_small t e h = rw e (numbers_le t.bits 0 9 h).0

module _ (s : List ℕ) (at : BitPosition) {t : Stage} {line p : ℕ} {coded : Bool} {lines sums ns : List ℕ} {i : ℕ} {x : Context} {h : Look} {j : ℕ}
    {old : Record} {k : ℕ} {got : Option Code}
    (here : Here t line p lines sums ns i x h j old) (ec : coded ≡ true) (ek : k ≡ k_of old) (eg : got ≡ code_at s at.0 k t.q.limit t.q.raw) where
  abbrev step : Step
  step = step_at line p coded

  abbrev reading : Reading
  reading = clean lines sums ns at

  main : h.choice ≡ 0
  main = rw here.look (choice_main x)

  look_is : step_look 0 t.w step lines ≡ h
  look_is = rw (here.look, here.context)

  code_is : step_code t.bits 0 t.w s step reading ≡ got
  code_is = rw (look_is, main, ← here.slot, ← here.record_is, eg, ek, here.quantiser)

  reason_is : step_reason t.bits 0 t.w s step reading ≡ coded_reason (largest t.bits) k t.q.limit got
  unfolding step_reason
  reason_is = rw (ec, code_is, look_is, main, ← here.slot, ← here.record_is, ek, here.quantiser)

  pub step_cut : got ≡ None → step_way t s step reading ≡ cut_off
  unfolding step_way
  step_cut e =
      let r = step_cut_off t.bits 0 t.w s step reading ec (code_is ∙ e) in
      rw (reason_is, r, e)

  module _ {c : Code} {m : ℕ} (e : got ≡ Some c) (em : m ≡ largest t.bits) where
    pub step_bad : {w : Reason} → reason_of m k t.q.limit c ≡ Some w → step_way t s step reading ≡ found (bad_at t.line t.pass step reading w)
    unfolding step_way
    step_bad b = let f = rw em at b in rw (reason_is, e, f)

    -- a code without a reason is tight
    good : reason_of m k t.q.limit c ≡ None → is_tight (largest t.bits) c ≡ true
    good b = let f = rw em at b in rw f at (code_stays (largest t.bits) s at.0 k t.q.limit t.q.raw c true (sym eg ∙ e))

    pub step_good : {v : ℕ} (sums' ns' : List ℕ) → reason_of m k t.q.limit c ≡ None
        → v ≡ sample_of m h.base t.q.total h.negative x.prediction c.value
        → zip_records sums' ns' ≡ set (zip_records sums ns) j (updated old (residual_of c.value).size)
        → step_way t s step reading ≡ on (clean (set lines (i + 1) v) sums' ns' c.after)
    unfolding step_way
    step_good sums' ns' b ev en =
        let f = rw em at b in
        let r = step_read t.bits 0 t.w s step reading c ec (code_is ∙ e) in
        let tight = good b in
        rw (reason_is, r, e, f, look_is, main, ← here.slot, ← here.record_is, en, ev, em, tight, here.quantiser, here.context, here.place)
