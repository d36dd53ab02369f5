-- A line of a block, read and written: six passes, and the test at its end. Assumes nothing.
use mathlib.Core.Bool.{Bool, true, false, cond}
use mathlib.Core.List.{List, []}
use mathlib.Core.Path.{◌≡◌, sym, ap, ◌∙◌}
use Prim.Native.Nat.{ℕ, ◌+◌, ◌*◌, ◌≤◌, ◌<◌}
use native.Mathlib.Omega.{arith}
use lib.Dec.{leb}
use lib.ListN.{length, get_or}
use borrow.Author.Tests.{le-leb}
use Rattle.quantiser.specs.Quantisers.{largest}
use Rattle.read_pass.specs.Readings.{and_then}
use Rattle.pass_schedule.specs.Steps.{plan_of}
use Rattle.pass_steps.specs.Contexts.{Depth}
use Rattle.colour_lines.proofs.LineLaws.{length_turned}
use Rattle.image_map.specs.Places.{width_of}
use Rattle.colour_lines.specs.Sets.{line_of_rank}
use Rattle.theorem_one_to_one.proofs.PassBack.{Holds, place_same}
use Rattle.write_pass.proofs.LosslessLaws.{Lossless}
use Rattle.read_block.specs.Blocks.{State, runs, pass_at, end_line, read_line, before_line, read_line_at}
use Rattle.read_block.specs.Records.{base_of}
use Rattle.write_block.specs.WrittenBlocks.{write_pass_at, is_strict, write_line}
use Rattle.write_block.specs.Inside.{SetWanted}
use Rattle.read_block.specs.declared.Form.{Form}
use Rattle.read_block.proofs.RunLaws.{runs_keep}
use Rattle.read_block.proofs.SampleLaws.{turned_le}
use Rattle.write_block.proofs.WrittenLaws.{pass_at_adds, pass_at_right}
use Rattle.pass_schedule.proofs.PlanLaws.{NotOf, other_lines}
use Rattle.write_pass.proofs.SetLaws.{lines_passes}
use Rattle.theorem_one_to_one.proofs.RunTwins.{write_state_of, CleanState, StoredState, StateForward, StateBack, stored_before, Each, runs_forward, runs_backward}
use Rattle.theorem_one_to_one.proofs.PassTwins.{SoundState, PassHolds, LeftBy, PassLeft, pass_sound, pass_keeps_others, pass_at_forward, pass_at_backward}
use Rattle.std.specs.Prelude.{None, Option, Some}

-- the samples of all twelve colour lines in line n of the set t stand in the lines
abbrev pub LineHolds : ℕ → List ℕ → ℕ → List ℕ → Type 0
LineHolds W t n lines = (c : ℕ) → c < 12 → Holds W t n lines (line_of_rank c)

-- ---- what any line does

module _ (F : Form) (bases : List ℕ) (high : F.bits ≤ 16) (s : List ℕ) (n : ℕ) where
  abbrev W : ℕ
  W = width_of F.xtrans

  abbrev q : ℕ
  q = base_of bases n

  -- the lines of pass c are after pass i as they were before it
  module _ (i c : ℕ) (y z : State) (hi : i < 6) (before : c < i) (ok : SoundState F y) (e : pass_at F q s i y ≡ Some z) where
    apart : NotOf F.xtrans i (plan_of F.xtrans c).first × NotOf F.xtrans i (plan_of F.xtrans c).second
    apart = other_lines F.xtrans c i (omega arith) hi (λ f. omega arith)

    abbrev SameLine : ℕ → Type 0
    SameLine l = (p : ℕ) → p < W → get_or z.lines (l * (W + 2) + p + 1) 0 ≡ get_or y.lines (l * (W + 2) + p + 1) 0

    same_lines : SameLine (plan_of F.xtrans c).first × SameLine (plan_of F.xtrans c).second
    same_lines = (λ p h. pass_keeps_others F q high s i y ok z _ p h apart.0 e, λ p h. pass_keeps_others F q high s i y ok z _ p h apart.1 e)

  -- before it the lines are turned, and the same is done for writing
  abbrev before : State → State
  before r = before_line F bases n r

  before_sound : (r : State) → SoundState F r → SoundState F (before r)
  before_sound r ok =
      record {
        long = length_turned W r.lines (omega (arith, ok.long)) ∙ ok.long;
        small = turned_le (largest F.bits) W r.lines ok.small;
      }

  -- the test at its end
  end_is : (z : State) → CleanState s z → end_line s z ≡ Some z
  end_is z clean = rw (le-leb z.at.0 (8 * length s + 7) (omega (arith, clean.inside)))

  end_was : (y z : State) → end_line s y ≡ Some z → y ≡ z
  end_was y z e = go (leb y.at.0 (8 * length s + 7)) e
    where
      go : (b : Bool) → cond b (Some y) None ≡ Some z → y ≡ z
      go true f = cc
      go false f = let no : ◌≡◌ {A = ℕ} 0 1 = cc in absurd (omega arith)

  line_is : (r z : State) → runs (pass_at F q s) 6 (before r) ≡ Some z → CleanState s z → read_line_at F bases s n r ≡ Some z
  unfolding read_line_at read_line and_then
  line_is r z e clean = rw e (end_is z clean)

  line_was : (r z : State) → read_line_at F bases s n r ≡ Some z → runs (pass_at F q s) 6 (before r) ≡ Some z
  unfolding read_line_at read_line and_then
  line_was r z e = go (runs (pass_at F q s) 6 (before r)) e
    where
      go : (o : Option State) → and_then o (end_line s) ≡ Some z → o ≡ Some z
      go None f = f
      go (Some y) f = ap Some (end_was y z f)

  pub line_sound : (r z : State) → SoundState F r → read_line_at F bases s n r ≡ Some z → SoundState F z
  line_sound r z ok e =
      runs_keep (pass_at F q s) (before r) (SoundState F) (before_sound r ok) (λ i a b k f. pass_sound F q high s i a k b f) 6 z (line_was r z e)

-- ---- forward, with any base

-- what these lines have of line n, which was read from the state r on: of both lines of each pass, by the state before that pass
abbrev pub LineLeft : Form → (bases s t : List ℕ) → ℕ → State → List ℕ → Type 0
LineLeft F bases s t n r lines =
    let q = base_of bases n in
    (i : ℕ) → i < 6 → (y : State) × (runs (pass_at F q s) i (before_line F bases n r) ≡ Some y) × PassLeft F q (is_strict bases) s t n i y lines

module _ (F : Form) (bases : List ℕ) (depth : Depth F.bits) (s t : List ℕ) (n : ℕ) where
  abbrev Q : ℕ
  Q = base_of bases n

  abbrev strict : Bool
  strict = is_strict bases

  -- what pass c leaves, in these lines
  abbrev PassHold : State → ℕ → State → Type 0
  PassHold r c z = (y : State) × (runs (pass_at F Q s) c r ≡ Some y) × PassLeft F Q strict s t n c y z.lines

  -- colour line l is in both states the same
  abbrev Kept : ℕ → State → State → Type 0
  Kept l y z =
      (p : ℕ) → p < width_of F.xtrans
      → get_or z.lines (l * (width_of F.xtrans + 2) + p + 1) 0 ≡ get_or y.lines (l * (width_of F.xtrans + 2) + p + 1) 0

  hold_same : (r : State) (c : ℕ) (y z : State) → Kept (plan_of F.xtrans c).first y z → Kept (plan_of F.xtrans c).second y z
      → PassHold r c y → PassHold r c z
  hold_same r c y z first second h = (h.0, h.1, λ p k. (moved _ p (first p k) (h.2 p k).0, moved _ p (second p k) (h.2 p k).1))
    where
      moved : (l p : ℕ) → get_or z.lines (l * (width_of F.xtrans + 2) + p + 1) 0 ≡ get_or y.lines (l * (width_of F.xtrans + 2) + p + 1) 0
          → LeftBy F Q strict s t n c h.0 y.lines l p → LeftBy F Q strict s t n c h.0 z.lines l p
      moved l p e L = place_same F.bits Q (width_of F.xtrans) strict F.xtrans s t n _ _ y.lines z.lines l p e L

  passes_left : (r : State) → SoundState F r → Each s (pass_at F Q s) (write_pass_at F Q strict t n) r 6 (SoundState F) (PassHold r)
  passes_left r ok =
      record {
        start = ok;
        sound = λ i y z k e. pass_sound F Q depth.1 s i y k z e;
        stored = λ i w. stored_before s (write_pass_at F Q strict t n i) w (pass_at_adds F Q strict t n i w) (pass_at_right F Q strict t n i w);
        still = λ i c y z hi k q e h. let m = same_lines F bases depth.1 s n i c y z hi k q e in hold_same r c y z m.0 m.1 h;
        was = λ i c y z hi k q e h.
            let m = same_lines F bases depth.1 s n i c y z hi k q e in
            hold_same r c z y (λ p j. sym (m.0 p j)) (λ p j. sym (m.1 p j)) h;
      }

  -- where the bits of a line stand, the line is read
  pub line_forward : SetWanted F t → (r : State) → SoundState F r → CleanState s r → StoredState s (write_line F bases t n (write_state_of s r))
      → (z : State) × (StateForward s (read_line_at F bases s n) (write_line F bases t n) r z × LineLeft F bases s t n r z.lines)
  unfolding write_line
  line_forward range r ok clean stored =
      let b : State = before F bases depth.1 s n r in
      let all =
      runs_forward s (pass_at F Q s) (write_pass_at F Q strict t n) b 6 (SoundState F) (PassHold b)
      (passes_left b (before_sound F bases depth.1 s n r ok)) clean
      (λ i y h e k c st. let one = pass_at_forward F Q depth.1 s i y k h t n strict depth range c st in (one.0, (one.1.0, (y, e, one.1.1))))
      6 (omega arith) stored in
      let z : State = all.0 in
      let T = all.1.0 in
      (z, (record { read = line_is F bases depth.1 s n r z T.read T.clean; clean = T.clean; same = T.same }, all.1.1))

-- ---- backward, lossless

module _ (F : Form) (Q : Lossless F.bits) (s t : List ℕ) (n : ℕ) where
  passes : (r : State) → SoundState F r → Each s (pass_at F 0 s) (write_pass_at F 0 true t n) r 6 (SoundState F) (PassHolds F t n)
  passes r ok =
      record {
        start = ok;
        sound = λ i y z q e. pass_sound F 0 Q.high s i y q z e;
        stored = λ i w. stored_before s (write_pass_at F 0 true t n i) w (pass_at_adds F 0 true t n i w) (pass_at_right F 0 true t n i w);
        still = λ i c y z hi k q e h. let m = same_lines F [] Q.high s n i c y z hi k q e in (λ p j. m.0 p j ∙ h.0 p j, λ p j. m.1 p j ∙ h.1 p j);
        was = λ i c y z hi k q e h.
            let m = same_lines F [] Q.high s n i c y z hi k q e in
            (λ p j. sym (m.0 p j) ∙ h.0 p j, λ p j. sym (m.1 p j) ∙ h.1 p j);
      }

  -- where a line was read, its bits stand
  pub line_backward : (r z : State) → SoundState F r → read_line_at F [] s n r ≡ Some z → CleanState s z
      → LineHolds (width_of F.xtrans) t n z.lines → StateBack s (write_line F [] t n) r z
  unfolding write_line
  line_backward r z ok e clean holds =
      let b : State = before F [] Q.high s n r in
      let all =
      runs_backward s (pass_at F 0 s) (write_pass_at F 0 true t n) b 6 (SoundState F) (PassHolds F t n) (passes b (before_sound F [] Q.high s n r ok))
      (λ i y x h f q g c k. pass_at_backward F Q s i y q h t n x g c k) 6 z (omega arith) (line_was F [] Q.high s n r z e) clean
      (lines_passes F.xtrans (Holds (width_of F.xtrans) t n z.lines) holds) in
      record { clean = all.clean; same = all.same }
