-- A state that was stored loads as one that the next line cannot tell from it. Assumes nothing.
use mathlib.Core.Bool.{Bool, true, false, ◌&&◌}
use mathlib.Core.List.{List, []}
use mathlib.Core.Path.{◌≡◌, refl, sym, ◌∙◌}
use Prim.Native.Nat.{ℕ, suc, ◌+◌, ◌-◌, ◌*◌, ◌/◌, ◌%◌, ◌^◌, ◌≤◌, ◌<◌}
use native.Mathlib.Omega.{arith}
use borrow.Author.Tests.{eqb-true, eqb-false, leb-true}
use lib.Arith.{digits_div, digits_mod, digits_lt}
use lib.Dec.{eqb, lit<}
use lib.ListN.{length, get_or, length-replicate}
use lib.Seq.{ext_get_or}
use Rattle.pass_steps.specs.Contexts.{no_record}
use Rattle.colour_lines.specs.ColourLines.{guarded, zero_lines}
use Rattle.colour_lines.proofs.LineLaws.{length_guarded}
use Rattle.image_map.specs.Places.{width_of}
use Rattle.image_map.proofs.PartLaws.{by_test}
use Rattle.saved_state.specs.Checkpoints.{is_flat, kept_line, stored_sample, loaded_record, with_kept, with_six, with_guards, loaded_lines}
use Rattle.saved_state.specs.Inside.{IsCheckpoint}
use Rattle.saved_state.proofs.PutLaws.{put_length}
use Rattle.saved_state.proofs.LoadedLines.{loaded_sample, left_of_4, right_of_4, left_of_12, right_of_12, left_of_17, right_of_17}
use Rattle.saved_state.proofs.StateLaws.{Storable, record_back, sample_back, position_back}
use Rattle.read_block.specs.Blocks.{State, read_lines}
use Rattle.saved_state.specs.BlockStates.{saved_of, loaded_state}
use Rattle.read_block.specs.Records.{table, start_record, base_of}
use Rattle.read_block.specs.WindowedLines.{Latest, Windows}
use Rattle.read_block.specs.declared.Form.{Form}
use Rattle.saved_state.proofs.LoadLaws.{read_storable}
use Rattle.saved_state.proofs.StoredLaws.{records_in_range}
use Rattle.read_block.proofs.TableLaws.{table_length, table_get_d}
use Rattle.theorem_going_on.proofs.FlatLaws.{flat_stay}
use Rattle.theorem_going_on.proofs.GuardLaws.{Ends, read_long, read_ends}
use Rattle.theorem_going_on.proofs.NearLaws.{Near}
use Rattle.std.specs.Prelude.{Some}

-- ---- the lines that were kept, as the nine that stand for the 18

abbrev pick : ℕ → ℕ
pick slot = kept_line (slot / 3 * 2 + (slot % 3 - 1))

nine_of : ℕ → List ℕ → List ℕ
nine_of W l = table (λ j. get_or l (pick (j / (W + 2)) * (W + 2) + j % (W + 2)) 0) (9 * (W + 2))

nine_at : (W slot d : ℕ) (l : List ℕ) → slot < 9 → d < W + 2 → get_or (nine_of W l) (slot * (W + 2) + d) 0 ≡ get_or l (pick slot * (W + 2) + d) 0
unfolding nine_of
nine_at W slot d l h k =
    table_get_d (λ j. get_or l (pick (j / (W + 2)) * (W + 2) + j % (W + 2)) 0) (9 * (W + 2)) (slot * (W + 2) + d) 0 (digits_lt h k)
    ∙ rw (digits_div slot k, digits_mod slot k)

-- lines that agree in those that were kept have the same nine
module _ (W : ℕ) (l m : List ℕ) (red : Latest W 4 4 l m) (green : Latest W 12 12 l m) (blue : Latest W 17 17 l m) where
  windows_of : Windows W 6 l (nine_of W m)
  unfolding kept_line
  windows_of =
      record {
        red = record {
          above = λ p h. red.above p h ∙ sym (nine_at W 1 (p + 1) m (lit< tt) (omega arith));
          line = λ d h. red.line d h ∙ sym (nine_at W 2 d m (lit< tt) h);
        };
        green = record {
          above = λ p h. green.above p h ∙ sym (nine_at W 4 (p + 1) m (lit< tt) (omega arith));
          line = λ d h. green.line d h ∙ sym (nine_at W 5 d m (lit< tt) h);
        };
        blue = record {
          above = λ p h. blue.above p h ∙ sym (nine_at W 7 (p + 1) m (lit< tt) (omega arith));
          line = λ d h. blue.line d h ∙ sym (nine_at W 8 d m (lit< tt) h);
        };
      }

same_latest : (W L : ℕ) (l : List ℕ) → Latest W L L l l
same_latest W L l = record { above = λ p h. refl; line = λ d h. refl }

-- ---- loading keeps the number of lines

loaded_length : (W : ℕ) (s l : List ℕ) → length (loaded_lines W s l) ≡ length l
unfolding loaded_lines with_guards with_six
loaded_length W s l = guards (with_six W s l) ∙ six
  where
    guards : (k : List ℕ) → length (guarded W 17 (guarded W 12 (guarded W 4 k))) ≡ length k
    guards k = length_guarded W 17 (guarded W 12 (guarded W 4 k)) ∙ length_guarded W 12 (guarded W 4 k) ∙ length_guarded W 4 k

    kept : (m : ℕ) (k : List ℕ) → length (with_kept W s m k) ≡ length k
    kept m k = put_length (λ p. stored_sample s (m * W + p)) (kept_line m * (W + 2) + 1) k W

    l₁ : List ℕ
    l₁ = with_kept W s 0 l

    l₂ : List ℕ
    l₂ = with_kept W s 1 l₁

    l₃ : List ℕ
    l₃ = with_kept W s 2 l₂

    l₄ : List ℕ
    l₄ = with_kept W s 3 l₃

    six : length (with_six W s l) ≡ length l
    six = kept 5 (with_kept W s 4 l₄) ∙ kept 4 l₄ ∙ kept 3 l₃ ∙ kept 2 l₂ ∙ kept 1 l₁ ∙ kept 0 l

-- ---- a state that was read and stored

module _ (F : Form) (bases s : List ℕ) (depth : F.bits ≤ 16) (short : length s < 2 ^ 32) (lines : ℕ) (few : lines < 2 ^ 16) (d : List ℕ) (b n : ℕ)
    (z : State) (lossless : Bool) (c : List ℕ) (low : b < 256) (h : n + 1 ≤ lines) (read : read_lines F bases s (suc n) ≡ Some z)
    (is : IsCheckpoint lossless (width_of F.xtrans) (saved_of d b n z) c) (without : lossless ≡ true → bases ≡ []) where
  abbrev W : ℕ
  W = width_of F.xtrans

  pub ok : Storable W F.bits lines (length s) (saved_of d b n z)
  ok = read_storable F bases s depth short lines few d b n z low h read

  abbrev loaded : State
  loaded = loaded_state F lossless bases c

  abbrev ls : List ℕ
  ls = loaded_lines W c (zero_lines W)

  zeros_long : length (zero_lines W) ≡ 18 * (W + 2)
  zeros_long = length-replicate (18 * (W + 2)) 0

  room : 18 * (W + 2) ≤ length (zero_lines W)
  room = omega (arith, zeros_long)

  -- samples, and the guards of the nearer line of each colour
  stored_as : (m p : ℕ) → m < 6 → p < W → stored_sample c (m * W + p) ≡ get_or z.lines (kept_line m * (W + 2) + (p + 1)) 0
  stored_as m p a k =
      sample_back lossless W F.bits lines (length s) (saved_of d b n z) c is ok (m * W + p) (digits_lt a k) ∙ rw (digits_div m k, digits_mod m k)

  loaded_as : (m p : ℕ) → m < 6 → p < W → get_or ls (kept_line m * (W + 2) + (p + 1)) 0 ≡ get_or z.lines (kept_line m * (W + 2) + (p + 1)) 0
  loaded_as m p a k = loaded_sample W c (zero_lines W) room m p a k ∙ stored_as m p a k

  kept_latest : (m L : ℕ) → m + 1 < 6 → kept_line m ≡ L - 1 → kept_line (m + 1) ≡ L → get_or ls (L * (W + 2) + 0) 0 ≡ stored_sample c (m * W + 0)
      → get_or ls (L * (W + 2) + (W + 1)) 0 ≡ stored_sample c (m * W + (W - 1)) → Ends W L z.lines → Latest W L L ls z.lines
  kept_latest m L a u v left right ends =
      record {
        above = λ p k. rw u at (loaded_as m p (omega arith) k);
        line =
            λ e k. by_test (eqb e 0)
            (λ t.
            let x = eqb-true e 0 t in
            rw x (left ∙ (rw u at (stored_as m 0 (omega arith) ok.some)) ∙ sym ends.left))
            (λ t. by_test (eqb e (W + 1))
            (λ t'.
            let x = eqb-true e (W + 1) t' in
            let w : W - 1 + 1 ≡ W = omega (arith, ok.some) in
            rw x (right ∙ (rw (u, w) at (stored_as m (W - 1) (omega arith) (omega (arith, ok.some)))) ∙ sym ends.right))
            (λ t'.
            let x = eqb-false e 0 t in
            let y = eqb-false e (W + 1) t' in
            let w : e - 1 + 1 ≡ e = omega (arith, x) in
            rw (v, w) at (loaded_as (m + 1) (e - 1) a (omega (arith, k, x, y)))));
      }

  -- records
  records_same : z.records ≡ loaded.records
  unfolding loaded_state
  records_same =
      ext_get_or no_record z.records (table (λ j. loaded_record lossless (start_record F.bits (base_of bases 0) j) c j) 336)
      (long ∙ sym (table_length (λ j. loaded_record lossless (start_record F.bits (base_of bases 0) j) c j) 336))
      (λ j k.
      let i : j < 336 = omega (arith, k, long) in
      sym
      (table_get_d (λ j. loaded_record lossless (start_record F.bits (base_of bases 0) j) c j) 336 j no_record i
      ∙ record_back lossless W F.bits lines (length s) (saved_of d b n z) c is ok (start_record F.bits (base_of bases 0) j) j i
      ∙ by_test (lossless && is_flat j) (λ t. rw t (flat j i t)) (λ t. rw t)))
    where
      long : length z.records ≡ 336
      long = (records_in_range F depth s bases (suc n) z read).0

      both : (a b : Bool) → (a && b) ≡ true → (a ≡ true) × (b ≡ true)
      both true b e = (refl, e)
      both false b e = (e, absurd (let no : ◌≡◌ {A = ℕ} 0 1 = cc in omega arith))

      flat : (j : ℕ) → j < 336 → (lossless && is_flat j) ≡ true → start_record F.bits (base_of bases 0) j ≡ get_or z.records j no_record
      flat j i t =
          let p = both lossless (is_flat j) t in
          let e = without p.0 in
          rw e (sym ((flat_stay F depth s (suc n) z (rw e at read)).flat j i (leb-true 41 (j % 56) p.1)))

  pub loaded_near : Near W z.long 6 z loaded
  unfolding loaded_state kept_line nine_of
  loaded_near =
      let ends = read_ends F depth s bases n z read in
      let Some = ok.some in
      record {
        windows = nine_of W z.lines;
        nine = table_length (λ j. get_or z.lines (pick (j / (W + 2)) * (W + 2) + j % (W + 2)) 0) (9 * (W + 2));
        held = windows_of W z.lines z.lines (same_latest W 4 z.lines) (same_latest W 12 z.lines) (same_latest W 17 z.lines);
        held' =
            windows_of W ls z.lines
            (kept_latest 0 4 (lit< tt) refl refl (left_of_4 W c (zero_lines W) room Some) (right_of_4 W c (zero_lines W) room Some) ends.0)
            (kept_latest 2 12 (lit< tt) refl refl (left_of_12 W c (zero_lines W) room Some) (right_of_12 W c (zero_lines W) room Some) ends.1)
            (kept_latest 4 17 (lit< tt) refl refl (left_of_17 W c (zero_lines W) room Some) (right_of_17 W c (zero_lines W) room Some) ends.2);
        room = read_long F depth s bases (suc n) z read;
        room' = loaded_length W c (zero_lines W) ∙ zeros_long;
        records = records_same;
        at = rw (position_back lossless W F.bits lines (length s) (saved_of d b n z) c is ok);
        long = omega arith;
      }
