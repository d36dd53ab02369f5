-- A block, read and written. Assumes nothing.
use mathlib.Core.Bool.{true}
use mathlib.Core.List.{List, []}
use mathlib.Core.Path.{◌≡◌, refl}
use Prim.Native.Nat.{ℕ, suc, ◌+◌, ◌*◌, ◌≤◌, ◌<◌, zero-le}
use native.Mathlib.Nat.{le_refl}
use lib.ListN.{get_or, length-replicate}
use Rattle.quantiser.specs.Quantisers.{largest}
use Rattle.read_pass.specs.Readings.{and_then}
use Rattle.image_map.specs.Places.{width_of}
use Rattle.colour_lines.specs.Sets.{index_in}
use Rattle.pass_steps.specs.Contexts.{Depth}
use Rattle.pass_schedule.specs.Steps.{plan_of}
use Rattle.theorem_one_to_one.proofs.PassBack.{place_exact}
use Rattle.write_pass.proofs.LosslessLaws.{Lossless}
use Rattle.write_pass.proofs.SetLaws.{passes_lines}
use Rattle.read_block.specs.Blocks.{State, runs, read_line_at, start_state, read_lines, lines_of}
use Rattle.write_block.specs.WrittenBlocks.{write_line, start_writing, write_lines}
use Rattle.write_block.specs.Inside.{SetWanted}
use Rattle.read_block.specs.declared.Form.{Form}
use Rattle.read_block.proofs.SampleLaws.{zeros_le}
use Rattle.write_block.proofs.WrittenLaws.{line_adds, line_right}
use Rattle.theorem_one_to_one.proofs.RunTwins.{write_state_of, CleanState, StoredState, StateForward, stored_before, Each, runs_forward, runs_backward}
use Rattle.theorem_one_to_one.proofs.PassTwins.{SoundState}
use Rattle.theorem_one_to_one.proofs.LineTwins.{LineHolds, LineLeft, line_sound, line_forward, line_backward}
use Rattle.std.specs.Prelude.{Some}

-- ---- the start

module _ (F : Form) (bases s : List ℕ) where
  start : State
  start = start_state F bases

  start_same : start_writing F bases ≡ write_state_of s start
  unfolding start_writing start_state start
  start_same = refl

  start_clean : CleanState s start
  unfolding start_state start
  start_clean = record { tight = refl; inside = zero-le }

  start_sound : SoundState F start
  unfolding start_state start
  start_sound =
      let W : ℕ = width_of F.xtrans in
      record { long = length-replicate (18 * (W + 2)) 0; small = zeros_le (largest F.bits) (18 * (W + 2)) }

  next_read : (n : ℕ) (y z : State) → runs (read_line_at F bases s) n start ≡ Some y → read_line_at F bases s n y ≡ Some z → read_lines F bases s (suc n) ≡ Some z
  unfolding read_lines runs and_then start
  next_read n y z e f = rw e f

  -- what the lines hold stays true as others are read, since it is said of the lines after their own line
  each : (t : List ℕ) (high : F.bits ≤ 16) (most : ℕ) (Hold : ℕ → Type 0)
      → Each s (read_line_at F bases s) (write_line F bases t) start most (SoundState F) (λ m z. Hold m)
  each t high most Hold =
      record {
        start = start_sound;
        sound = λ n y z q e. line_sound F bases high s n y z q e;
        stored = λ n w. stored_before s (write_line F bases t n) w (line_adds F bases t n w) (line_right F bases t n w);
        still = λ i c y z h k q e x. x;
        was = λ i c y z h k q e x. x;
      }

-- ---- forward, with any bases

-- what is left of line m of the set t, by the state before it and in the lines after it
abbrev pub Shown : Form → (bases s t : List ℕ) → ℕ → Type 0
Shown F bases s t m = (r : State) × (read_lines F bases s m ≡ Some r) × LineLeft F bases s t m r (lines_of (read_lines F bases s (suc m)))

module _ (F : Form) (bases : List ℕ) (depth : Depth F.bits) (s t : List ℕ) where
  -- where the bits of n lines stand, the lines are read
  pub lines_forward : SetWanted F t → (n : ℕ) → StoredState s (write_lines F bases t n)
      → (z : State) × ((read_lines F bases s n ≡ Some z) × CleanState s z × (write_lines F bases t n ≡ write_state_of s z) × ((m : ℕ) → m < n
      → Shown F bases s t m))
  unfolding read_lines write_lines start
  lines_forward range n stored =
      let all =
      runs_forward s (read_line_at F bases s) (write_line F bases t) (start F bases s) n (SoundState F) (λ m z. Shown F bases s t m)
      (each F bases s t depth.1 n (Shown F bases s t))
      (start_clean F bases s) one n (le_refl n) (rw (start_same F bases s) at stored) in
      let T = all.1.0 in
      (all.0, (T.read, T.clean, rw (start_same F bases s) T.same, all.1.1))
    where
      one : (i : ℕ) (y : State) → i < n → runs (read_line_at F bases s) i (start F bases s) ≡ Some y → SoundState F y → CleanState s y
          → StoredState s (write_line F bases t i (write_state_of s y))
          → (z : State) × (StateForward s (read_line_at F bases s i) (write_line F bases t i) y z × Shown F bases s t i)
      one i y h e ok clean st =
          let line = line_forward F bases depth s t i range y ok clean st in
          (line.0, (line.1.0, (y, e, rw (next_read F bases s i y line.0 e line.1.0.read) line.1.1)))

-- ---- lossless

-- the samples of line m of the set t stand in the lines as they are read
abbrev pub Shows : Form → (s t : List ℕ) → ℕ → Type 0
Shows F s t m = LineHolds (width_of F.xtrans) t m (lines_of (read_lines F [] s (suc m)))

pub shown_exact : (F : Form) (s t : List ℕ) (m : ℕ) → Shown F [] s t m → Shows F s t m
shown_exact F s t m S =
    passes_lines F.xtrans (λ l. (p : ℕ) → p < W → get_or lines (l * (W + 2) + p + 1) 0 ≡ get_or t (index_in W m l p) 0)
    (λ i h. let L = S.2 i h in (
      λ p k. place_exact F.bits 0 W true F.xtrans s t m _ _ lines (plan_of F.xtrans i).first p refl refl (L.2 p k).0,
      λ p k. place_exact F.bits 0 W true F.xtrans s t m _ _ lines (plan_of F.xtrans i).second p refl refl (L.2 p k).1,
    ))
  where
    W : ℕ
    W = width_of F.xtrans

    lines : List ℕ
    lines = lines_of (read_lines F [] s (suc m))

module _ (F : Form) (Q : Lossless F.bits) (s t : List ℕ) where
  -- where n lines were read, and show the set's samples, their bits stand
  pub lines_backward : (n : ℕ) (z : State) → read_lines F [] s n ≡ Some z → CleanState s z → ((m : ℕ) → m < n → Shows F s t m)
      → write_lines F [] t n ≡ write_state_of s z
  unfolding read_lines write_lines start
  lines_backward n z e clean shows =
      let all =
      runs_backward s (read_line_at F [] s) (write_line F [] t) (start F [] s) n (SoundState F) (λ m z. Shows F s t m) (each F [] s t Q.high n (Shows F s t))
      (λ i y x h f ok g c k. line_backward F Q s t i y x ok g c (rw (next_read F [] s i y x f g) at k)) n z (le_refl n) e clean shows in
      rw (start_same F [] s) all.same
