-- The records stay in range, line after line. Assumes nothing.
use mathlib.Core.Bool.{Bool, true, false, cond}
use mathlib.Core.List.{List}
use mathlib.Core.Path.{◌≡◌, refl, ◌∙◌}
use Prim.Native.Nat.{ℕ, zero, suc, ◌*◌, ◌≤◌, ◌<◌}
use native.Mathlib.Omega.{arith}
use lib.ListN.{length}
use lib.Seq.{length-paste}
use Rattle.statistics.specs.declared.Record.{Record}
use Rattle.image_map.specs.Places.{width_of}
use Rattle.pass_schedule.specs.Steps.{plan_of}
use Rattle.pass_schedule.specs.declared.Plan.{Plan}
use Rattle.read_pass.specs.Readings.{read_pass}
use Rattle.read_pass.proofs.RangeLaws.{pass_keeps}
use Rattle.read_block.specs.Blocks.{State, enter, pass_at, start_state, read_lines}
use Rattle.read_block.specs.Records.{base_of, is_restarted, restarted_main, put_set, start_records}
use Rattle.read_block.specs.Walks.{AllInRange}
use Rattle.read_block.specs.declared.Form.{Form}
use Rattle.read_block.proofs.KeepLaws.{lines_keep, left_by}
use Rattle.read_block.proofs.RangeLaws.{all_started, all_kept, set_in_range, set_full, put_in_range}
use Rattle.read_block.proofs.TableLaws.{table_length}
use Rattle.std.specs.Prelude.{Some}

pub Whole : State → Type 0
Whole r = (length r.records ≡ 336) × AllInRange r.records

plan_set : (xtrans : Bool) (i : ℕ) → (plan_of xtrans i).set < 3
unfolding plan_of
plan_set true zero = omega arith
plan_set true (suc zero) = omega arith
plan_set true (suc (suc zero)) = omega arith
plan_set true (suc (suc (suc zero))) = omega arith
plan_set true (suc (suc (suc (suc zero)))) = omega arith
plan_set true (suc (suc (suc (suc (suc zero))))) = omega arith
plan_set true (suc (suc (suc (suc (suc (suc i)))))) = omega arith
plan_set false zero = omega arith
plan_set false (suc zero) = omega arith
plan_set false (suc (suc zero)) = omega arith
plan_set false (suc (suc (suc zero))) = omega arith
plan_set false (suc (suc (suc (suc zero)))) = omega arith
plan_set false (suc (suc (suc (suc (suc zero))))) = omega arith
plan_set false (suc (suc (suc (suc (suc (suc i)))))) = omega arith

put_long : (g : ℕ) (new rs : List Record) → g < 3 → length rs ≡ 336 → 112 ≤ length new → length (put_set g new rs) ≡ 336
unfolding put_set
put_long g new rs h long full = length-paste rs (112 * g) new 112 (omega arith) full ∙ long

module _ (F : Form) (depth : F.bits ≤ 16) (s : List ℕ) where
  pass_whole : (q i : ℕ) (r z : State) → Whole r → pass_at F q s i r ≡ Some z → Whole z
  unfolding pass_at Whole
  pass_whole q i r z h e =
      let P : Plan = plan_of F.xtrans i in
      let g : P.set < 3 = plan_set F.xtrans i in
      left_by Whole P r z (read_pass F.bits q (width_of F.xtrans) s P (enter F P r))
      (λ y k. let ok = (pass_keeps F.bits q (width_of F.xtrans) s depth P (enter F P r) y k).ranges (set_in_range P.set r.records g h.1) in
      (put_long P.set y.set r.records g h.0 (set_full y.set ok), put_in_range P.set y.set r.records g h.0 ok h.1)) e

  again : (bits q : ℕ) (b : Bool) (rs : List Record) → length rs ≡ 336 → length (cond b (restarted_main bits q rs) rs) ≡ 336
  unfolding restarted_main
  again bits q true rs h = table_length _ 336
  again bits q false rs h = h

  pub records_whole : (bases : List ℕ) (n : ℕ) (z : State) → read_lines F bases s n ≡ Some z → (length z.records ≡ 336) × AllInRange z.records
  unfolding Whole start_state start_records
  records_whole bases n z e =
      lines_keep F s Whole pass_whole bases
      (λ m r h. (
        again F.bits (base_of bases m) (is_restarted bases m) r.records h.0,
        all_kept (is_restarted bases m) F.bits (base_of bases m)
            r.records _ depth refl h.1,
      ))
      (table_length _ 336, all_started F.bits (base_of bases 0) depth) n z e
