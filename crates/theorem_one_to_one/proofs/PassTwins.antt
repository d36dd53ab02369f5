-- A pass of a block, read and written. Assumes nothing.
use mathlib.Core.Bool.{Bool, true}
use mathlib.Core.List.{List}
use mathlib.Core.Logic.{◌≢◌}
use mathlib.Core.Path.{◌≡◌, refl, ap, ◌∙◌}
use Prim.Native.Nat.{ℕ, ◌+◌, ◌*◌, ◌%◌, ◌≤◌, ◌<◌}
use native.Mathlib.Omega.{arith}
use lib.ListN.{get_or}
use Rattle.quantiser.specs.Quantisers.{largest}
use Rattle.pass_schedule.specs.Inside.{PlanInRange}
use Rattle.pass_steps.specs.Contexts.{Depth}
use Rattle.read_pass.specs.Readings.{Reading, read_pass}
use Rattle.pass_schedule.specs.Steps.{plan_of, pass_steps}
use Rattle.pass_schedule.specs.declared.Plan.{Plan}
use Rattle.read_pass.proofs.RangeLaws.{Kept, pass_keeps}
use Rattle.pass_schedule.proofs.PlanLaws.{two_lines, NotOf, steps_coded}
use Rattle.pass_schedule.proofs.ScheduleLaws.{plan_in_range}
use Rattle.colour_lines.specs.ColourLines.{guarded}
use Rattle.colour_lines.proofs.LineLaws.{length_guarded}
use Rattle.colour_lines.proofs.MoveLaws.{samples_stay}
use Rattle.image_map.specs.Places.{width_of}
use Rattle.write_pass.proofs.LosslessLaws.{Lossless}
use Rattle.theorem_one_to_one.proofs.PassBack.{Holds, pass_leaves, PlaceLeft, pass_forward, pass_backward}
use Rattle.theorem_one_to_one.proofs.Together.{Sound}
use Rattle.read_block.specs.Blocks.{State, enter, leave, pass_at}
use Rattle.read_block.specs.Records.{put_set}
use Rattle.write_block.specs.WrittenBlocks.{leave_writing, write_pass_at}
use Rattle.write_block.specs.Inside.{SetWanted}
use Rattle.read_block.specs.declared.Form.{Form}
use Rattle.read_block.proofs.LineLaws.{width_in_range}
use Rattle.read_block.proofs.SampleLaws.{guarded_le}
use Rattle.theorem_one_to_one.proofs.RunTwins.{write_state_of, CleanState, StoredState, StateForward, StateBack}
use Rattle.std.specs.Prelude.{None, Option, Some}

abbrev pub SoundState : Form → State → Type 0
SoundState F r = Sound F.bits (width_of F.xtrans) r.lines

-- ---- guards

guard_sound : (bits W m : ℕ) (lines : List ℕ) → Sound bits W lines → Sound bits W (guarded W m lines)
guard_sound bits W m lines ok =
    record { long = length_guarded W m lines ∙ ok.long; small = guarded_le (largest bits) W m lines ok.small }

-- ---- pass i of a line

-- the samples of both its lines stand, those of line n of the set t
abbrev pub PassHolds : Form → List ℕ → ℕ → ℕ → State → Type 0
PassHolds F t n i z =
    Holds (width_of F.xtrans) t n z.lines (plan_of F.xtrans i).first × Holds (width_of F.xtrans) t n z.lines (plan_of F.xtrans i).second

-- what these lines have of position p of colour line l, once pass i was read from the state r on
abbrev pub LeftBy : Form → ℕ → Bool → (s t : List ℕ) → ℕ → ℕ → State → List ℕ → ℕ → ℕ → Type 0
LeftBy F q strict s t n i r lines l p =
    let P = plan_of F.xtrans i in
    let W = width_of F.xtrans in
    PlaceLeft F.bits q W strict F.xtrans s t n (pass_steps W P) (enter F P r) lines l p

-- and of both its lines
abbrev pub PassLeft : Form → ℕ → Bool → (s t : List ℕ) → ℕ → ℕ → State → List ℕ → Type 0
PassLeft F q strict s t n i r lines =
    let P = plan_of F.xtrans i in
    (p : ℕ) → p < width_of F.xtrans → LeftBy F q strict s t n i r lines P.first p × LeftBy F q strict s t n i r lines P.second p

module _ (F : Form) (q : ℕ) (high : F.bits ≤ 16) (s : List ℕ) (i : ℕ) (r : State) (ok : SoundState F r) where
  abbrev W : ℕ
  W = width_of F.xtrans

  abbrev P : Plan
  P = plan_of F.xtrans i

  abbrev entered : Reading
  entered = enter F P r

  abbrev left : Reading → State
  left y = record { lines = y.lines; records = put_set P.set y.set r.records; at = y.at; tight = y.tight; long = y.long }

  sound : Sound F.bits W entered.lines
  sound =
      guard_sound F.bits W P.second (guarded W P.first r.lines) (guard_sound F.bits W P.first r.lines ok)

  even : W % 2 ≡ 0
  even = (width_in_range F.xtrans W refl).2

  -- a pass that was read, and one that is
  pass_was : (z : State) → pass_at F q s i r ≡ Some z → (y : Reading) × (read_pass F.bits q W s P entered ≡ Some y) × (left y ≡ z)
  unfolding pass_at
  pass_was z e = go (read_pass F.bits q W s P entered) refl e
    where
      go : (o : Option Reading) → read_pass F.bits q W s P entered ≡ o → leave P r o ≡ Some z
          → (y : Reading) × (read_pass F.bits q W s P entered ≡ Some y) × (left y ≡ z)
      go None f g = let no : ◌≡◌ {A = ℕ} 0 1 = cc in absurd (omega arith)
      go (Some y) f g = (y, f, cc)

  pass_is : (y : Reading) → read_pass F.bits q W s P entered ≡ Some y → pass_at F q s i r ≡ Some (left y)
  unfolding pass_at
  pass_is y e = rw e

  -- it keeps the lines sound, and leaves those of other passes as they are
  pub pass_sound : (z : State) → pass_at F q s i r ≡ Some z → SoundState F z
  pass_sound z e =
      let f = pass_was z e in
      let k : Kept F.bits entered f.0 = pass_keeps F.bits q W s high P entered f.0 f.1 in
      let there : Sound F.bits W f.0.lines = record { long = k.lines ∙ sound.long; small = k.samples sound.small } in
      rw (← f.2) there

  pub pass_keeps_others : (z : State) (l p : ℕ) → p < W → NotOf F.xtrans i l → pass_at F q s i r ≡ Some z
      → get_or z.lines (l * (W + 2) + p + 1) 0 ≡ get_or r.lines (l * (W + 2) + p + 1) 0
  pass_keeps_others z l p h ne e =
      let f = pass_was z e in
      rw (← f.2)
      (pass_leaves F.bits q W s P entered f.0 l p even h ne.0 ne.1 f.1
      ∙ samples_stay W l p P.second (guarded W P.first r.lines) h
      ∙ samples_stay W l p P.first r.lines h)

  module _ (below : i < 6) (t : List ℕ) (n : ℕ) where
    abbrev in_range : PlanInRange P
    in_range = (plan_in_range F.xtrans i below).0

    abbrev two : P.first ≢ P.second
    two = two_lines F.xtrans i below

    -- forward, with any base
    pub pass_at_forward : (strict : Bool) → Depth F.bits → SetWanted F t → CleanState s r → StoredState s (write_pass_at F q strict t n i (write_state_of s r))
        → (z : State) × (StateForward s (pass_at F q s i) (write_pass_at F q strict t n i) r z × PassLeft F q strict s t n i r z.lines)
    unfolding write_pass_at
    pass_at_forward strict depth range clean stored =
        let coded = steps_coded F.xtrans W i below in
        let one = pass_forward F.bits q W strict F.xtrans s t n depth P even in_range two coded entered sound (range n i below) clean stored in
        let y : Reading = one.0 in
        let T = one.1.0 in
        (left y, (record { read = pass_is y T.read; clean = T.clean; same = ap (leave_writing P (write_state_of s r)) T.same }, one.1.1))

-- backward, lossless
module _ (F : Form) (Q : Lossless F.bits) (s : List ℕ) (i : ℕ) (r : State) (ok : SoundState F r) (below : i < 6) (t : List ℕ) (n : ℕ) where
  pub pass_at_backward : (z : State) → pass_at F 0 s i r ≡ Some z → CleanState s z → PassHolds F t n i z → StateBack s (write_pass_at F 0 true t n i) r z
  unfolding write_pass_at
  pass_at_backward z e clean holds =
      let f = pass_was F 0 Q.high s i r ok z e in
      go f.0 z f.1 f.2 clean holds
    where
      go : (y : Reading) (z : State) → read_pass F.bits 0 (width_of F.xtrans) s (plan_of F.xtrans i) (enter F (plan_of F.xtrans i) r) ≡ Some y
          → left F 0 Q.high s i r ok y ≡ z → CleanState s z → PassHolds F t n i z → StateBack s (write_pass_at F 0 true t n i) r z
      go y z f is clean holds =
          let P : Plan = plan_of F.xtrans i in
          let B =
          pass_backward F.bits (width_of F.xtrans) s t n Q P (even F 0 Q.high s i r ok) (plan_in_range F.xtrans i below).0
          (two_lines F.xtrans i below) (enter F P r) (sound F 0 Q.high s i r ok) y f
          (rw (← is) at clean) (rw (← is) at holds.0) (rw (← is) at holds.1) in
          record { clean = B.clean; same = ap (leave_writing P (write_state_of s r)) B.same ∙ ap (write_state_of s) is }
