-- Base 0 uses no flat record, so that those of a lossless block stay as they were at the start. Assumes nothing.
use mathlib.Core.Bool.{Bool, true, false, cond}
use mathlib.Core.List.{List, [], ◌∷◌}
use mathlib.Core.Path.{◌≡◌, refl, sym, ◌∙◌}
use Prim.Native.Nat.{ℕ, zero, suc, ◌+◌, ◌*◌, ◌%◌, ◌≤◌, ◌<◌}
use native.Mathlib.Omega.{arith}
use borrow.Author.Tests.{eqb-true, eqb-false, le-ltb}
use lib.Dec.{ltb, eqb, lit<}
use lib.ListN.{length, get_or, drop, length-drop, get_or-eq_default}
use lib.Seq.{get_or-set_same, get_or-set_other, paste, paste-zero, paste-suc, length-paste, length-take-le}
use Rattle.numbers.proofs.OrderLaws.{split}
use Rattle.statistics.specs.declared.Record.{Record}
use Rattle.quantiser.proofs.GradientLaws.{main_le}
use Rattle.prediction.specs.declared.Context.{Context}
use Rattle.code.specs.Samples.{choice_of}
use Rattle.pass_schedule.specs.Steps.{Step, plans, no_plan, coded_all, plan_of, pass_steps}
use Rattle.pass_schedule.specs.Steps.{step_place}
use Rattle.pass_steps.specs.Contexts.{look_of, slot_of, no_record, step_context, step_look, step_slot}
use Rattle.pass_schedule.specs.declared.Plan.{Plan}
use Rattle.pass_schedule.proofs.ScheduleLaws.{plan_in_range}
use Rattle.read_pass.specs.Readings.{Reading, interpolate, taken, step_code, read_step, reads, read_pass}
use Rattle.read_pass.proofs.FrameLaws.{first_then}
use Rattle.read_pass.proofs.RangeLaws.{pass_keeps}
use Rattle.image_map.specs.Places.{width_of}
use Rattle.image_map.proofs.PartLaws.{by_test}
use Rattle.read_block.specs.Blocks.{State, runs, enter, pass_at, end_line, read_line, before_line, read_line_at, start_state, read_lines}
use Rattle.read_block.specs.Records.{start_record, start_records, restarted_main, is_restarted, set_of, put_set}
use Rattle.read_block.specs.declared.Form.{Form}
use Rattle.read_block.proofs.KeepLaws.{left_by, end_same}
use Rattle.read_block.proofs.RunLaws.{then_keeps, runs_keep}
use Rattle.read_block.proofs.SetLaws.{set_get_d}
use Rattle.read_block.proofs.TableLaws.{table_length, table_get_d}
use Rattle.std.specs.Prelude.{None, Option, Some}
use Rattle.code.specs.declared.Code.{Code}

-- ---- a pass

main_place : (x : Context) → (look_of 0 x).place ≤ 40
unfolding look_of choice_of
main_place x = main_le 0 x.first x.second

slot_main : (p : ℕ) (x : Context) (j : ℕ) → 41 ≤ j % 56 → j ≡ slot_of p (look_of 0 x).place → ⊥
slot_main p x j h e = omega (arith, main_place x)

module _ (bits W : ℕ) (s : List ℕ) (j : ℕ) (flat : 41 ≤ j % 56) where
  abbrev Stays : Reading → Reading → Type 0
  Stays r z = get_or z.set j no_record ≡ get_or r.set j no_record

  step_flat : (x : Step) (r z : Reading) → read_step bits 0 W s x r ≡ Some z → Stays r z
  unfolding read_step
  step_flat x r z e = go x.coded (step_code bits 0 W s x r) e
    where
      same : (y : Reading) → Some y ≡ Some z → Stays r y → Stays r z
      same y f k = let is : y ≡ z = cc in rw is at k

      go : (b : Bool) (g : Option Code)
          → cond b (taken bits 0 (step_place W x) (step_slot 0 W x r.lines) (step_context W x r.lines) (step_look 0 W x r.lines) r g)
          (Some (interpolate (step_place W x) (step_context W x r.lines) r)) ≡ Some z
          → Stays r z
      go true None f = let no : ◌≡◌ {A = ℕ} 0 1 = cc in absurd (omega arith)
      go true (Some d) f =
          same _ f (get_or-set_other r.set (step_slot 0 W x r.lines) j _ no_record (slot_main x.position (step_context W x r.lines) j flat))
      go false g f = same _ f refl

  steps_flat : (l : List Step) (r z : Reading) → reads bits 0 W s l r ≡ Some z → Stays r z
  unfolding reads
  steps_flat [] r z e = let is : r ≡ z = cc in rw is
  steps_flat (x ∷ l) r z e =
      let f = first_then bits 0 W s x l r z e in
      steps_flat l f.0 z f.2 ∙ step_flat x r f.0 f.1

  pub pass_flat : (P : Plan) (r z : Reading) → read_pass bits 0 W s P r ≡ Some z → Stays r z
  unfolding read_pass
  pass_flat P r z e = steps_flat (pass_steps W P) r z e

-- ---- a set that goes back

-- what holds of an entry, where n entries from `at` on are replaced
paste_at : {A : Type 0} (Q : A → Type 0) (d s : List A) (at : ℕ) (z : A) (n k : ℕ) → at + n ≤ length d → n ≤ length s → Q (get_or d k z)
    → ((j : ℕ) → j < n → at + j ≡ k → Q (get_or s j z)) → Q (get_or (paste d at s n) k z)
paste_at Q d s at z zero k hd hs old new = rw (← paste-zero d at s) old
paste_at Q d s at z (suc n) k hd hs old new =
    rw (← paste-suc d at s n z (omega arith) (omega arith))
    (by_test (eqb k (at + n))
    (λ t.
    let e = eqb-true k (at + n) t in
    let room : at + n < length (paste d at s n) = rw (length-paste d at s n (omega arith) (omega arith)) (omega arith) in
    rw (e, get_or-set_same (paste d at s n) (at + n) (get_or s n z) z room) (new n (omega arith) (sym e)))
    (λ t.
    rw (get_or-set_other (paste d at s n) (at + n) k (get_or s n z) z (eqb-false k (at + n) t))
    (paste_at Q d s at z n k (omega arith) (omega arith) old (λ j h e. new j (omega arith) e))))

-- a pass has one of the three sets
set_low : (xtrans : Bool) (i : ℕ) → (plan_of xtrans i).set < 3
unfolding plan_of
set_low xtrans i = split 6 i (λ h. let e = get_or-eq_default plans no_plan h in rw e (past xtrans)) (λ h. (plan_in_range xtrans i h).1)
  where
    past : (b : Bool) → (cond b no_plan (coded_all no_plan)).set < 3
    past true = lit< tt
    past false = lit< tt

set_long : (g : ℕ) (rs : List Record) → g < 3 → length rs ≡ 336 → length (set_of g rs) ≡ 112
unfolding set_of
set_long g rs h long = let e = length-drop (112 * g) rs in length-take-le 112 (drop (112 * g) rs) (omega arith)

-- ---- a block without bases

-- there are 336 records, and the flat ones are those of the start
pub record Started (F : Form) (r : State) : Type 0 where
  pub all : length r.records ≡ 336
  pub flat : (j : ℕ) → j < 336 → 41 ≤ j % 56 → get_or r.records j no_record ≡ start_record F.bits 0 j

module _ (F : Form) (depth : F.bits ≤ 16) (s : List ℕ) where
  abbrev W : ℕ
  W = width_of F.xtrans

  pass_started : (i : ℕ) (r z : State) → Started F r → pass_at F 0 s i r ≡ Some z → Started F z
  unfolding pass_at put_set
  pass_started i r z h e =
      let P : Plan = plan_of F.xtrans i in
      let low : P.set < 3 = set_low F.xtrans i in
      left_by (Started F) P r z (read_pass F.bits 0 W s P (enter F P r))
      (λ y k.
      let long : length y.set ≡ 112 = (pass_keeps F.bits 0 W s depth P (enter F P r) y k).records ∙ set_long P.set r.records low h.all in
      record {
        all = length-paste r.records (112 * P.set) y.set 112 (omega (arith, low, h.all)) (omega arith) ∙ h.all;
        flat =
            λ j a b. paste_at (λ (x : Record). x ≡ start_record F.bits 0 j) r.records y.set (112 * P.set) no_record 112 j
            (omega (arith, low, h.all)) (omega arith) (h.flat j a b)
            (λ m c f. pass_flat F.bits W s m (omega (arith, b)) P (enter F P r) y k ∙ set_get_d P.set m r.records c
            ∙ rw f (h.flat j a b));
      })
      e

  line_started : (r z : State) → Started F r → read_line F 0 s r ≡ Some z → Started F z
  unfolding read_line
  line_started r z h e =
      then_keeps (Started F) (runs (pass_at F 0 s) 6 r) (end_line s) z (λ y f. runs_keep (pass_at F 0 s) r (Started F) h pass_started 6 y f)
      (λ y k f. let same = end_same s y z f in rw same at k) e

  before_started : (n : ℕ) (r : State) → Started F r → Started F (before_line F [] n r)
  unfolding restarted_main
  before_started n r h = record { all = long (is_restarted [] n); flat = λ j a b. same (is_restarted [] n) j a b }
    where
      long : (b : Bool) → length (cond b (restarted_main F.bits 0 r.records) r.records) ≡ 336
      long true = table_length (λ j. cond (ltb (j % 56) 41) (start_record F.bits 0 j) (get_or r.records j no_record)) 336
      long false = h.all

      same : (b : Bool) (j : ℕ) → j < 336 → 41 ≤ j % 56
          → get_or (cond b (restarted_main F.bits 0 r.records) r.records) j no_record ≡ start_record F.bits 0 j
      same true j a c =
          table_get_d (λ j. cond (ltb (j % 56) 41) (start_record F.bits 0 j) (get_or r.records j no_record)) 336 j no_record a
          ∙ rw (le-ltb (j % 56) 41 c) (h.flat j a c)
      same false j a c = h.flat j a c

  pub flat_stay : (n : ℕ) (z : State) → read_lines F [] s n ≡ Some z → Started F z
  unfolding read_lines read_line_at start_state start_records
  flat_stay n z e =
      runs_keep (read_line_at F [] s) (start_state F []) (Started F)
      (record {
        all = table_length (start_record F.bits 0) 336;
        flat = λ j a b. table_get_d (start_record F.bits 0) 336 j no_record a;
      })
      (λ m r y h f. line_started (before_line F [] m r) y (before_started m r h) f) n z e
