-- A pass, read and written, by the samples of its two lines. Assumes nothing.
use mathlib.Core.Bool.{Bool, true, false, not}
use mathlib.Core.List.{List}
use mathlib.Core.Logic.{◌≢◌}
use mathlib.Core.Path.{◌≡◌, refl, ap, ◌∙◌}
use Prim.Native.Nat.{ℕ, ◌+◌, ◌*◌, ◌%◌, ◌≤◌, ◌<◌}
use native.Mathlib.Omega.{arith}
use lib.ListN.{get_or}
use Rattle.quantiser.specs.Quantisers.{largest}
use Rattle.pass_schedule.specs.Steps.{Step, is_interpolated, pass_steps}
use Rattle.pass_schedule.specs.Inside.{PlanInRange}
use Rattle.pass_steps.specs.Contexts.{Depth}
use Rattle.pass_schedule.specs.declared.Plan.{Plan}
use Rattle.pass_schedule.proofs.OrderLaws.{All, all_both, place_is, pass_all, all_pass, pass_apart}
use Rattle.pass_schedule.proofs.PlanLaws.{CodedIn}
use Rattle.read_pass.specs.Readings.{Reading, read_pass}
use Rattle.write_pass.specs.Puts.{Wanted}
use Rattle.colour_lines.specs.Sets.{index_in}
use Rattle.write_pass.specs.Writings.{write_pass}
use Rattle.write_pass.proofs.LosslessLaws.{Lossless}
use Rattle.read_pass.proofs.FrameLaws.{steps_leave}
use Rattle.theorem_one_to_one.specs.UsedBases.{base_in_steps, IsNear}
use Rattle.theorem_one_to_one.proofs.Together.{Sound, writing_of, CleanReading, StoredWriting, Together, Back}
use Rattle.theorem_one_to_one.proofs.StepForward.{InLines}
use Rattle.theorem_one_to_one.proofs.ListBack.{base_le, Left, steps_forward, steps_backward}
use Rattle.std.specs.Prelude.{Some}

-- the samples of colour line l in line n of the set t stand in the lines
abbrev pub Holds : ℕ → List ℕ → ℕ → List ℕ → ℕ → Type 0
Holds W t n lines l = (p : ℕ) → p < W → get_or lines (l * (W + 2) + p + 1) 0 ≡ get_or t (index_in W n l p) 0

-- lines of other passes are left as they are
pub pass_leaves : (bits q W : ℕ) (s : List ℕ) (P : Plan) (r z : Reading) (l p : ℕ) → W % 2 ≡ 0 → p < W → l ≢ P.first → l ≢ P.second
    → read_pass bits q W s P r ≡ Some z
    → get_or z.lines (l * (W + 2) + p + 1) 0 ≡ get_or r.lines (l * (W + 2) + p + 1) 0
unfolding read_pass
pass_leaves bits q W s P r z l p even h a b e =
    steps_leave bits q W s (l * (W + 2) + p + 1) (pass_steps W P) r z
    (pass_all W P even (λ m k. l * (W + 2) + p + 1 ≢ m * (W + 2) + k + 1)
    (λ k i. (λ f. a (place_is W l p P.first k h i f).0, λ f. b (place_is W l p P.second k h i f).0))) e

in_lines : (W : ℕ) (P : Plan) → W % 2 ≡ 0 → PlanInRange P → All (InLines W) (pass_steps W P)
in_lines W P even in_range = pass_all W P even (λ l p. (l ≤ 17) × (p < W)) (λ p h. ((in_range.first_high, h), (in_range.second_high, h)))

-- ---- forward, with any base

-- position p of colour line l, in line n of the set t: what these lines have of it once the steps were read from r on. A sample with a code is
-- near, by the base that was found for it; an interpolated one is the set's, where the set is held to it
pub record PlaceLeft (bits q W : ℕ) (strict xtrans : Bool) (s t : List ℕ) (n : ℕ) (all : List Step) (r : Reading) (lines : List ℕ) (l p : ℕ) : Type 0 where
  pub near : is_interpolated xtrans l p ≡ false
      → (b : ℕ) × (base_in_steps bits q W s l p all r ≡ Some b) × IsNear b (get_or t (index_in W n l p) 0) (get_or lines (l * (W + 2) + p + 1) 0)
  pub held : is_interpolated xtrans l p ≡ true → strict ≡ true → get_or lines (l * (W + 2) + p + 1) 0 ≡ get_or t (index_in W n l p) 0

module _ (bits q W : ℕ) (strict xtrans : Bool) (s t : List ℕ) (n : ℕ) where
  -- lines that have the same sample there
  pub place_same : (all : List Step) (r : Reading) (lines lines' : List ℕ) (l p : ℕ) → get_or lines' (l * (W + 2) + p + 1) 0 ≡ get_or lines (l * (W + 2) + p + 1) 0
      → PlaceLeft bits q W strict xtrans s t n all r lines l p → PlaceLeft bits q W strict xtrans s t n all r lines' l p
  place_same all r lines lines' l p e L =
      record { near = λ i. let f = L.near i in (f.0, f.1, rw e f.2); held = λ i g. e ∙ L.held i g }

  -- without a base it is the set's
  pub place_exact : (all : List Step) (r : Reading) (lines : List ℕ) (l p : ℕ) → q ≡ 0 → strict ≡ true → PlaceLeft bits q W strict xtrans s t n all r lines l p
      → get_or lines (l * (W + 2) + p + 1) 0 ≡ get_or t (index_in W n l p) 0
  place_exact all r lines l p zero-base g L = go (is_interpolated xtrans l p) L.near (λ i. L.held i g)
    where
      Same : Type 0
      Same = get_or lines (l * (W + 2) + p + 1) 0 ≡ get_or t (index_in W n l p) 0

      go : (i : Bool)
          → (i ≡ false → (b : ℕ) × (base_in_steps bits q W s l p all r ≡ Some b) × IsNear b (get_or t (index_in W n l p) 0) (get_or lines (l * (W + 2) + p + 1) 0))
          → (i ≡ true → Same) → Same
      go true near held = held refl
      go false near held =
          let f = near refl in
          let b : ℕ = f.0 in
          let low : b ≤ q = base_le bits q W s l p all r b f.1 in
          omega (arith, low, zero-base, f.2.0, f.2.1)

  module _ (depth : Depth bits) (P : Plan) (even : W % 2 ≡ 0) (in_range : PlanInRange P) (two : P.first ≢ P.second)
      (coded : All (CodedIn xtrans) (pass_steps W P)) (r : Reading) where
    abbrev pub Left-at : List ℕ → ℕ → ℕ → Type 0
    Left-at lines l p = PlaceLeft bits q W strict xtrans s t n (pass_steps W P) r lines l p

    abbrev pub PassForward : Reading → Type 0
    PassForward z =
        Together (CleanReading s) (writing_of s) (read_pass bits q W s P) (write_pass bits q W strict t n P) r z
        × ((p : ℕ) → p < W → Left-at z.lines P.first p × Left-at z.lines P.second p)

    at_place : (z : Reading) (x : Step) → Left bits q W strict s t n depth (pass_steps W P) r z x → CodedIn xtrans x → Left-at z.lines x.line x.position
    at_place z x L c = record { near = λ i. L.near (c ∙ ap not i); held = λ i g. L.held (c ∙ ap not i) g }

    -- where the bits of a pass stand, the pass is read
    pub pass_forward : Sound bits W r.lines → Wanted (largest bits) W t n (pass_steps W P) → CleanReading s r
        → StoredWriting s (write_pass bits q W strict t n P (writing_of s r))
        → (z : Reading) × PassForward z
    unfolding read_pass write_pass
    pass_forward ok range clean stored =
        let one = steps_forward bits q W strict s t n depth (pass_steps W P) r ok range (in_lines W P even in_range) (pass_apart W P even two) clean stored in
        let z : Reading = one.0 in
        let T = one.1.0 in
        let left = all_both (pass_steps W P) one.1.1 coded (at_place z) in
        (z, (record { read = T.read; clean = T.clean; same = T.same }, all_pass W P even (Left-at z.lines) left))

-- ---- backward, lossless

module _ (bits W : ℕ) (s t : List ℕ) (n : ℕ) (Q : Lossless bits) (P : Plan) (even : W % 2 ≡ 0) (in_range : PlanInRange P)
    (two : P.first ≢ P.second) (r : Reading) where
  abbrev pub PassBack : Reading → Type 0
  PassBack z = Back (CleanReading s) (writing_of s) (write_pass bits 0 W true t n P) r z

  -- where a pass was read, its bits stand
  pub pass_backward : Sound bits W r.lines → (z : Reading) → read_pass bits 0 W s P r ≡ Some z → CleanReading s z → Holds W t n z.lines P.first
      → Holds W t n z.lines P.second
      → PassBack z
  unfolding read_pass write_pass
  pass_backward ok z e clean first second =
      let stand = pass_all W P even (λ l p. get_or z.lines (l * (W + 2) + p + 1) 0 ≡ get_or t (index_in W n l p) 0) (λ p h. (first p h, second p h)) in
      let back = steps_backward bits W s t n Q (pass_steps W P) r z ok (in_lines W P even in_range) (pass_apart W P even two) e clean stand in
      record { clean = back.clean; same = back.same }
