-- A block that was read whole, tight or not: its set is that of a tight block, and its colour lines go by the set alone. Assumes nothing.
use mathlib.Core.Bool.{Bool, true, false, cond}
use mathlib.Core.List.{List, []}
use mathlib.Core.Path.{◌≡◌, refl, sym, ap, ◌∙◌}
use Prim.Native.Nat.{ℕ, zero, suc, ◌+◌, ◌-◌, ◌*◌, ◌%◌, ◌≤◌, ◌<◌, zero-le}
use native.Mathlib.Nat.{le_refl}
use native.Mathlib.Omega.{arith}
use lib.ListN.{length, get_or, length-replicate, get_or-eq_default}
use Rattle.numbers.proofs.OrderLaws.{split}
use Rattle.quantiser.specs.Quantisers.{largest}
use Rattle.pass_schedule.specs.Steps.{plan_of, pass_steps}
use Rattle.pass_schedule.specs.declared.Plan.{Plan}
use Rattle.pass_schedule.proofs.OrderLaws.{All, cell, pass_all, pass_apart}
use Rattle.pass_schedule.proofs.PlanLaws.{two_lines, other_lines}
use Rattle.pass_schedule.proofs.ScheduleLaws.{plan_in_range}
use Rattle.pass_steps.specs.Contexts.{Depth}
use Rattle.colour_lines.specs.ColourLines.{guarded}
use Rattle.colour_lines.specs.Sets.{set_size, line_of_rank, index_in, line_at, colour_line_at, position_at}
use Rattle.colour_lines.proofs.LineLaws.{length_guarded, length_turned}
use Rattle.image_map.specs.Places.{width_of}
use Rattle.read_pass.specs.Readings.{Reading, read_pass, and_then}
use Rattle.write_pass.specs.Writings.{Writing, write_pass}
use Rattle.write_pass.proofs.SetLaws.{lines_passes, index_lt, line_at_lem, colour_line_at_lem, position_at_lem}
use Rattle.write_pass.proofs.WriteLaws.{wanted}
use Rattle.theorem_one_to_one.proofs.PassBack.{Holds}
use Rattle.theorem_one_to_one.proofs.StepForward.{InLines}
use Rattle.theorem_one_to_one.proofs.Together.{Sound}
use Rattle.read_block.specs.Blocks.{State, runs, enter, leave, pass_at, end_line, read_line, before_line, read_line_at, start_state, read_lines, lines_of}
use Rattle.read_block.specs.TightBlocks.{read_sample, set_read}
use Rattle.read_block.specs.Records.{base_of}
use Rattle.write_block.specs.WrittenBlocks.{WriteState, repeats, enter_writing, write_pass_at, before_writing, write_line, start_writing, write_lines}
use Rattle.write_block.specs.Inside.{FitSet}
use Rattle.read_block.specs.declared.Form.{Form}
use Rattle.read_block.proofs.KeepLaws.{end_same}
use Rattle.read_block.proofs.LineLaws.{width_in_range}
use Rattle.read_block.proofs.RunLaws.{then_both, runs_last, runs_keep, runs_stay}
use Rattle.read_block.proofs.SampleLaws.{zeros_le, guarded_le, turned_le, samples_in_range}
use Rattle.read_block.proofs.TableLaws.{table_length, table_get_d}
use Rattle.theorem_one_to_one.proofs.LineTwins.{line_sound}
use Rattle.theorem_one_to_one.proofs.PassTwins.{SoundState, PassHolds, pass_sound, pass_keeps_others}
use Rattle.theorem_one_to_one.proofs.PredictedBlocks.{fits_is}
use Rattle.read_set.specs.HandedSets.{set_with}
use Rattle.theorem_whole_streams.specs.ReadSets.{WithoutBases, ReadablePredicted, LinesDetermined}
use Rattle.theorem_whole_streams.proofs.StepRight.{Same, steps_same}
use Rattle.std.specs.Prelude.{None, Option, Some}

-- writing goes through the lines of this state, and has met no wrong sample
abbrev SameState : State → WriteState → Type 0
SameState r w = (w.lines ≡ r.lines) × (w.wrong ≡ None)

module _ (F : Form) (high : F.bits ≤ 16) (s t : List ℕ) (range : (j : ℕ) → get_or t j 0 ≤ largest F.bits) where
  abbrev W : ℕ
  W = width_of F.xtrans

  even : W % 2 ≡ 0
  even = (width_in_range F.xtrans W refl).2

  -- ---- a pass

  module _ (q n i : ℕ) (hi : i < 6) where
    abbrev P : Plan
    P = plan_of F.xtrans i

    entered_sound : (r : State) → SoundState F r → Sound F.bits W (enter F P r).lines
    entered_sound r ok =
        let M : ℕ = largest F.bits in
        record {
          long = length_guarded W P.second (guarded W P.first r.lines) ∙ length_guarded W P.first r.lines ∙ ok.long;
          small = guarded_le M W P.second (guarded W P.first r.lines) (guarded_le M W P.first r.lines ok.small);
        }

    pass_read : (r : State) (y : Reading) (w : WriteState) → SoundState F r → read_pass F.bits q W s P (enter F P r) ≡ Some y
        → Holds W t n y.lines P.first × Holds W t n y.lines P.second → SameState r w
        → Same y.lines (write_pass F.bits 0 W true t n P (enter_writing F P w))
    unfolding read_pass write_pass
    pass_read r y w ok e holds same =
        let in_range = (plan_in_range F.xtrans i hi).0 in
        steps_same F.bits q W high s t n (pass_steps W P) (enter F P r) y (enter_writing F P w) (entered_sound r ok)
        (pass_all W P even (λ l p. (l ≤ 17) × (p < W)) (λ p h. ((in_range.first_high, h), (in_range.second_high, h))))
        (pass_apart W P even (two_lines F.xtrans i hi)) e
        (pass_all W P even (λ l p. get_or y.lines (l * (W + 2) + p + 1) 0 ≡ get_or t (index_in W n l p) 0) (λ p h. (holds.0 p h, holds.1 p h)))
        (pass_all W P even (λ l p. get_or t (index_in W n l p) 0 ≤ largest F.bits) (λ p h. (range _, range _)))
        (rw same.0, same.1)

    pass_same : (r z : State) (w : WriteState) → SoundState F r → pass_at F q s i r ≡ Some z → PassHolds F t n i z → SameState r w
        → SameState z (write_pass_at F 0 true t n i w)
    unfolding pass_at write_pass_at
    pass_same r z w ok e holds same = go (read_pass F.bits q W s P (enter F P r)) refl e
      where
        go : (o : Option Reading) → read_pass F.bits q W s P (enter F P r) ≡ o → leave P r o ≡ Some z → SameState z (write_pass_at F 0 true t n i w)
        go None f g = let no : ◌≡◌ {A = ℕ} 0 1 = cc in absurd (omega arith)
        go (Some y) f g =
            let is : y.lines ≡ z.lines = cc in
            let a = pass_read r y w ok f (rw is holds) same in
            (a.0 ∙ is, a.1)

  -- ---- a line: six passes, of which later ones leave what earlier ones put

  module _ (q n : ℕ) (r : State) (ok : SoundState F r) (w : WriteState) (same : SameState r w) where
    sound_after : (k : ℕ) (z : State) → runs (pass_at F q s) k r ≡ Some z → SoundState F z
    sound_after k z e = runs_keep (pass_at F q s) r (SoundState F) ok (λ i a b g f. pass_sound F q high s i a g b f) k z e

    was : (i c : ℕ) (y z : State) → i < 6 → c < i → SoundState F y → pass_at F q s i y ≡ Some z → PassHolds F t n c z → PassHolds F t n c y
    was i c y z hi k g e h =
        let apart = other_lines F.xtrans c i (omega arith) hi (λ f. omega arith) in (
          λ p j. sym (pass_keeps_others F q high s i y g z _ p j apart.0 e) ∙ h.0 p j,
          λ p j. sym (pass_keeps_others F q high s i y g z _ p j apart.1 e) ∙ h.1 p j,
        )

    passes_same : (k : ℕ) (z : State) → k ≤ 6 → runs (pass_at F q s) k r ≡ Some z → ((c : ℕ) → c < k → PassHolds F t n c z)
        → SameState z (repeats (write_pass_at F 0 true t n) k w)
    unfolding runs repeats
    passes_same zero z h e holds = let is : r ≡ z = cc in rw (← is) same
    passes_same (suc k) z h e holds =
        let o = runs_last (pass_at F q s) r k z e in
        let y : State = o.0 in
        let g : SoundState F y = sound_after k y o.1 in
        let before = passes_same k y (omega arith) o.1 (λ c j. was k c y z h j g o.2 (holds c (omega arith))) in
        pass_same q n k h y z (repeats (write_pass_at F 0 true t n) k w) g o.2 (holds k (omega arith)) before

  line_same : (bases : List ℕ) (n : ℕ) (r z : State) (w : WriteState) → SoundState F r → read_line_at F bases s n r ≡ Some z
      → ((i : ℕ) → i < 6 → PassHolds F t n i z) → SameState r w → SameState z (write_line F [] t n w)
  unfolding read_line_at read_line write_line
  line_same bases n r z w ok e holds same =
      let b = then_both (runs (pass_at F (base_of bases n) s) 6 (before_line F bases n r)) (end_line s) z e in
      let is : b.0 ≡ z = end_same s b.0 z b.2 in
      passes_same (base_of bases n) n (before_line F bases n r)
      (record {
        long = length_turned W r.lines (omega (arith, ok.long)) ∙ ok.long;
        small = turned_le (largest F.bits) W r.lines ok.small;
      })
      (before_writing F [] n w) (rw same.0, same.1) 6 z (le_refl 6) (b.1 ∙ ap Some is) holds

-- ---- the set of a block

module _ (F : Form) (bases : List ℕ) (lines : ℕ) (s : List ℕ) where
  abbrev pub width : ℕ
  width = width_of F.xtrans

  pub set_size_lem : length (set_with F bases lines s) ≡ set_size width lines
  unfolding set_with
  set_size_lem = table_length (read_sample F bases s) (set_size width lines)

  pub set_at : (j : ℕ) → j < set_size width lines → get_or (set_with F bases lines s) j 0 ≡ read_sample F bases s j
  unfolding set_with
  set_at j h = table_get_d (read_sample F bases s) (set_size width lines) j 0 h

  pub set_shown : (n c p : ℕ) → n < lines → c < 12 → p < width
      → get_or (set_with F bases lines s) (index_in width n (line_of_rank c) p) 0 ≡ get_or (lines_of (read_lines F bases s (suc n)))
      (line_of_rank c * (width + 2) + p + 1) 0
  set_shown n c p hn hc hp =
      set_at (index_in width n (line_of_rank c) p) (index_lt width n c p hc hp lines hn)
      ∙ rw (line_at_lem width n c p hc hp, colour_line_at_lem width n c p hc hp, position_at_lem width n c p hc hp)

  read_le : F.bits ≤ 16 → (n j : ℕ) → get_or (lines_of (read_lines F bases s n)) j 0 ≤ largest F.bits
  read_le high n j = go (read_lines F bases s n) refl
    where
      go : (o : Option State) → read_lines F bases s n ≡ o → get_or (lines_of o) j 0 ≤ largest F.bits
      go None e = zero-le
      go (Some z) e = samples_in_range F bases s n z high e j

  pub set_le : F.bits ≤ 16 → (j : ℕ) → get_or (set_with F bases lines s) j 0 ≤ largest F.bits
  set_le high j =
      split (set_size width lines) j
      (λ h. rw (get_or-eq_default (set_with F bases lines s) 0 {n = j} (omega (arith, set_size_lem))) zero-le)
      (λ h. rw (set_at j h) (read_le high (suc (line_at width j)) (colour_line_at width j * (width + 2) + position_at width j + 1)))

pub without_bases : WithoutBases
unfolding set_with set_read
without_bases F lines s = refl

-- ---- a block

module _ (F : Form) (high : F.bits ≤ 16) (bases : List ℕ) (lines : ℕ) (s : List ℕ) where
  abbrev t : List ℕ
  t = set_with F bases lines s

  start_sound : SoundState F (start_state F bases)
  unfolding start_state
  start_sound =
      let W : ℕ = width_of F.xtrans in
      record { long = length-replicate (18 * (W + 2)) 0; small = zeros_le (largest F.bits) (18 * (W + 2)) }

  sound_lines : (n : ℕ) (z : State) → read_lines F bases s n ≡ Some z → SoundState F z
  unfolding read_lines
  sound_lines n z e =
      runs_keep (read_line_at F bases s) (start_state F bases) (SoundState F) start_sound (λ i a b q f. line_sound F bases high s i a b q f) n z e

  pub lines_same : (n : ℕ) (z : State) → n ≤ lines → read_lines F bases s n ≡ Some z → SameState z (write_lines F [] t n)
  unfolding read_lines write_lines repeats start_writing start_state runs
  lines_same zero z h e =
      let is : start_state F bases ≡ z = cc in
      rw (← is) (refl, refl)
  lines_same (suc n) z h e =
      let o = runs_last (read_line_at F bases s) (start_state F bases) n z e in
      let y : State = o.0 in
      line_same F high s t (set_le F bases lines s high) bases n y z (write_lines F [] t n) (sound_lines n y o.1) o.2
      (lines_passes F.xtrans (Holds (width_of F.xtrans) t n z.lines)
      (λ c hc p hp. let shows = set_shown F bases lines s n c p h hc hp in sym (rw e at shows)))
      (lines_same n y (omega arith) o.1)

-- where all lines are read, fewer are too
pub fewer_read : (F : Form) (bases s : List ℕ) (n m : ℕ) (z : State) → read_lines F bases s n ≡ Some z → m ≤ n → (y : State) × (read_lines F bases s m ≡ Some y)
unfolding read_lines
fewer_read F bases s n m z e h = go (read_lines F bases s m) refl
  where
    go : (o : Option State) → read_lines F bases s m ≡ o → (y : State) × (read_lines F bases s m ≡ Some y)
    go (Some y) f = (y, f)
    go None f =
        let k : m + (n - m) ≡ n = omega arith in
        let g : read_lines F bases s n ≡ None = rw k at (runs_stay (read_line_at F bases s) (start_state F bases) m (n - m) f) in
        let c : Some z ≡ None = sym e ∙ g in
        let no : ◌≡◌ {A = ℕ} 0 1 = cc in
        absurd (omega arith)

pub readable_predicted : ReadablePredicted
readable_predicted F bases lines s depth R =
    (fits_is F lines (set_with F bases lines s)).0
    (record {
      size = set_size_lem F bases lines s;
      range = set_le F bases lines s depth.1;
      predicted = (lines_same F depth.1 bases lines s lines R.0 (le_refl lines) R.1).1;
    })

pub lines_determined : LinesDetermined
lines_determined F bases lines s depth R n h =
    let y = fewer_read F bases s lines n R.0 R.1 h in
    rw y.1 (sym (lines_same F depth.1 bases lines s n y.0 h y.1).0)
