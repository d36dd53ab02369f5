-- What is needed of a state that was read, so that it can be stored and loads again: its records are in range, and it ends inside the bytes that
-- a line may consume. Assumes nothing.
use borrow.Author.Tests.{leb-true}
use mathlib.Core.Bool.{Bool, true, false, cond}
use mathlib.Core.List.{List}
use mathlib.Core.Path.{◌≡◌, refl, ◌∙◌}
use Prim.Native.Nat.{ℕ, zero, suc, ◌+◌, ◌*◌, ◌%◌, ◌≤◌, ◌<◌}
use native.Mathlib.Omega.{arith}
use lib.Dec.{leb, ltb, lit<}
use lib.ListN.{length, get_or}
use lib.Seq.{length-paste}
use Rattle.statistics.specs.declared.Record.{Record}
use Rattle.pass_steps.specs.Contexts.{no_record}
use Rattle.pass_schedule.specs.Steps.{plan_of}
use Rattle.pass_steps.specs.Values.{SetInRange}
use Rattle.pass_schedule.specs.declared.Plan.{Plan}
use Rattle.image_map.specs.Places.{width_of}
use Rattle.read_pass.specs.Readings.{read_pass}
use Rattle.read_pass.proofs.RangeLaws.{pass_keeps}
use Rattle.read_block.specs.Blocks.{State, runs, enter, pass_at, end_line, read_line, before_line, read_line_at, start_state, read_lines}
use Rattle.read_block.specs.Walks.{AllInRange}
use Rattle.read_block.specs.Between.{records_before}
use Rattle.read_block.specs.Records.{base_of, is_restarted, start_record, start_records, restarted_main, put_set}
use Rattle.read_block.specs.declared.Form.{Form}
use Rattle.read_block.proofs.TableLaws.{table_length}
use Rattle.read_block.proofs.RangeLaws.{all_started, all_kept, set_in_range, set_full, put_in_range}
use Rattle.read_block.proofs.RunLaws.{then_both, runs_last}
use Rattle.read_block.proofs.KeepLaws.{lines_keep, left_by}
use Rattle.std.specs.Prelude.{None, Some}

-- a pass has one of the three sets
set_low : (xtrans : Bool) (i : ℕ) → (plan_of xtrans i).set < 3
unfolding plan_of
set_low true zero = lit< tt
set_low true (suc zero) = lit< tt
set_low true (suc (suc zero)) = lit< tt
set_low true (suc (suc (suc zero))) = lit< tt
set_low true (suc (suc (suc (suc zero)))) = lit< tt
set_low true (suc (suc (suc (suc (suc zero))))) = lit< tt
set_low true (suc (suc (suc (suc (suc (suc i)))))) = lit< tt
set_low false zero = lit< tt
set_low false (suc zero) = lit< tt
set_low false (suc (suc zero)) = lit< tt
set_low false (suc (suc (suc zero))) = lit< tt
set_low false (suc (suc (suc (suc zero)))) = lit< tt
set_low false (suc (suc (suc (suc (suc zero))))) = lit< tt
set_low false (suc (suc (suc (suc (suc (suc i)))))) = lit< tt

put_long : (g : ℕ) (new rs : List Record) → g < 3 → length rs ≡ 336 → 112 ≤ length new → length (put_set g new rs) ≡ 336
unfolding put_set
put_long g new rs h long full = length-paste rs (112 * g) new 112 (omega arith) full ∙ long

restarted_long : (bits q : ℕ) (rs : List Record) → length (restarted_main bits q rs) ≡ 336
unfolding restarted_main
restarted_long bits q rs = table_length (λ j. cond (ltb (j % 56) 41) (start_record bits q j) (get_or rs j no_record)) 336

-- the records of a state
abbrev pub Sound : State → Type 0
Sound r = (length r.records ≡ 336) × AllInRange r.records

module _ (F : Form) (depth : F.bits ≤ 16) (s : List ℕ) where
  pass_sound : (q i : ℕ) (r z : State) → Sound r → pass_at F q s i r ≡ Some z → Sound z
  unfolding pass_at
  pass_sound q i r z h e =
      let P : Plan = plan_of F.xtrans i in
      let low : P.set < 3 = set_low F.xtrans i in
      left_by Sound P r z (read_pass F.bits q (width_of F.xtrans) s P (enter F P r))
      (λ y k.
      let new : SetInRange y.set =
      (pass_keeps F.bits q (width_of F.xtrans) s depth P (enter F P r) y k).ranges (set_in_range P.set r.records low h.1) in
      (put_long P.set y.set r.records low h.0 (set_full y.set new), put_in_range P.set y.set r.records low h.0 new h.1))
      e

  module _ (bases : List ℕ) where
    before_sound : (n : ℕ) (r : State) → Sound r → Sound (before_line F bases n r)
    before_sound n r h =
        let again : Bool = is_restarted bases n in
        (go again, all_kept again F.bits (base_of bases n) r.records (records_before F bases n r.records) depth refl h.1)
      where
        go : (b : Bool) → length (cond b (restarted_main F.bits (base_of bases n) r.records) r.records) ≡ 336
        go true = restarted_long F.bits (base_of bases n) r.records
        go false = h.0

    start_sound : Sound (start_state F bases)
    unfolding start_state start_records
    start_sound = (table_length (start_record F.bits (base_of bases 0)) 336, all_started F.bits (base_of bases 0) depth)

    -- after any number of lines there are 336 records, and they are in range
    pub records_in_range : (n : ℕ) (z : State) → read_lines F bases s n ≡ Some z → Sound z
    records_in_range n z e = lines_keep F s Sound pass_sound bases before_sound start_sound n z e

    end_inside : (r z : State) → end_line s r ≡ Some z → z.at.0 ≤ 8 * length s + 7
    end_inside r z e = go (leb r.at.0 (8 * length s + 7)) refl e
      where
        go : (b : Bool) → leb r.at.0 (8 * length s + 7) ≡ b → cond b (Some r) None ≡ Some z → z.at.0 ≤ 8 * length s + 7
        go true l f = let same : r ≡ z = cc in rw same at (leb-true r.at.0 (8 * length s + 7) l)
        go false l f = let no : ◌≡◌ {A = ℕ} 0 1 = cc in absurd (omega arith)

    -- and after a line at most 8·length + 7 bits are consumed
    pub ends_inside : (n : ℕ) (z : State) → read_lines F bases s (suc n) ≡ Some z → z.at.0 ≤ 8 * length s + 7
    unfolding read_lines read_line_at read_line
    ends_inside n z e =
        let l = runs_last (read_line_at F bases s) (start_state F bases) n z e in
        let p = then_both (runs (pass_at F (base_of bases n) s) 6 (before_line F bases n l.0)) (end_line s) z l.2 in
        end_inside p.0 z p.2
