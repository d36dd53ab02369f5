-- A line as six passes, each of which goes by what `pass` says of it. Assumes nothing.
use borrow.Author.Tests.{ltb-true, ltb-false, le-leb, lt-leb}
use mathlib.Core.Bool.{Bool, true, false}
use mathlib.Core.List.{List}
use mathlib.Core.Path.{◌≡◌, refl, ◌∙◌}
use Prim.Native.Nat.{ℕ, ◌+◌, ◌*◌, ◌%◌, ◌≤◌, ◌<◌}
use native.Mathlib.Nat.{mul-le-mul_right}
use native.Mathlib.Omega.{arith}
use lib.Dec.{ltb, eqb, lit≤}
use lib.ListN.{length, get_or}
use Rattle.code.specs.declared.Place.{Place}
use Rattle.statistics.specs.declared.Record.{Record}
use Rattle.colour_lines.specs.ColourLines.{guarded}
use Rattle.colour_lines.specs.Inside.{entered}
use Rattle.image_map.specs.Places.{width_of}
use Rattle.image_map.specs.Inside.{in_rows, emitted_sample, Fits}
use Rattle.image_map.specs.Windows.{colour_of, PassEmitted}
use Rattle.image_map.specs.declared.Part.{Part}
use Rattle.image_map.proofs.PartLaws.{by_test}
use Rattle.pass_schedule.specs.Inside.{PlanInRange}
use Rattle.pass_steps.specs.Values.{records_of}
use Rattle.read_pass.specs.Readings.{Reading, read_pass, and_then}
use Rattle.read_pass.specs.Pairs.{reading_at, begun, Apart, IsPassed}
use Rattle.read_pass.specs.Windows.{window_line, placed, window_plan}
use Rattle.pass_schedule.specs.Steps.{plan_of}
use Rattle.read_pass.specs.declared.Passed.{Passed}
use Rattle.pass_schedule.specs.declared.Plan.{Plan}
use Rattle.pass_steps.specs.declared.Set.{Set}
use Rattle.pass_schedule.proofs.ScheduleLaws.{plan_in_range}
use Rattle.read_pass.proofs.SiteLaws.{pass_was_cut_off, pass_was_read}
use Rattle.read_pass.proofs.WindowLaws.{Alike, alike_none, alike_some}
use Rattle.read_block.specs.Blocks.{State, runs, enter, leave, pass_at, read_line}
use Rattle.read_block.specs.Walks.{state_at}
use Rattle.read_block.specs.Records.{set_of, put_set}
use Rattle.read_block.specs.declared.Form.{Form}
use Rattle.read_block.specs.Lent.{Buffers}
use Rattle.read_block.specs.WindowedLines.{samples_in, Held, OnlyLine, PassPlaced, IsLinedIn}
use Rattle.read_block.proofs.WindowTwins.{Stepped, held_pass, Two, two_lines}
use Rattle.read_block.proofs.PlacedLines.{Placed, placed_none, pass_shown, line_shown}
use Rattle.read_block.proofs.RunLaws.{runs_none, runs_more, runs_fail}
use Rattle.std.specs.Prelude.{Some, None, Option}

-- ---- the plans, and the width

pub planned : (xtrans : Bool) (i : ℕ) (P : Plan) → i < 6 → P ≡ plan_of xtrans i → PlanInRange P × (P.set < 3)
planned xtrans i P h e = rw e (plan_in_range xtrans i h)

pub width_in_range : (xtrans : Bool) (w : ℕ) → w ≡ width_of xtrans → (8 ≤ w) × (w ≤ 512) × (w % 2 ≡ 0)
width_in_range true w e = rw e (lit≤ tt, lit≤ tt, refl)
width_in_range false w e = rw e (lit≤ tt, lit≤ tt, refl)

-- in windows they stay in the nine lines
pub planned_in : (windowed xtrans : Bool) (i : ℕ) (P Q : Plan) (W n : ℕ) → i < 6 → P ≡ plan_of xtrans i → Q ≡ window_plan windowed P → W ≡ width_of xtrans
    → n ≡ samples_in windowed xtrans
    → PlanInRange Q × ((Q.first + 1) * (W + 2) ≤ n) × ((Q.second + 1) * (W + 2) ≤ n)
unfolding window_plan
planned_in false xtrans i P Q W n h eP eQ eW en =
    let r = (planned xtrans i P h eP).0 in
    rw (eQ, en, ← eW) (r, mul-le-mul_right (W + 2) (omega (arith, r.first_high)), mul-le-mul_right (W + 2) (omega (arith, r.second_high)))
planned_in true xtrans i P Q W n h eP eQ eW en = rw (eQ, en, ← eW) (small (window_line P.first) (window_line P.second) (rw eP (two_lines xtrans i h)))
  where
    small : (a c : ℕ) → Two P i → PlanInRange (placed P (window_line P.first) (window_line P.second))
        × ((window_line P.first + 1) * (W + 2) ≤ 9 * (W + 2)) × ((window_line P.second + 1) * (W + 2) ≤ 9 * (W + 2))
    small a c T =
        by_test (eqb (i % 2) 0)
        (λ t. rw (T.first_window, T.second_window, t) (
          record { first_low = lit≤ tt; first_high = lit≤ tt; second_low = lit≤ tt; second_high = lit≤ tt },
          mul-le-mul_right (W + 2) (lit≤ tt),
          mul-le-mul_right (W + 2) (lit≤ tt),
        ))
        (λ t. rw (T.first_window, T.second_window, t) (
          record { first_low = lit≤ tt; first_high = lit≤ tt; second_low = lit≤ tt; second_high = lit≤ tt },
          mul-le-mul_right (W + 2) (lit≤ tt),
          mul-le-mul_right (W + 2) (lit≤ tt),
        ))

-- and they are apart
pub planned_apart : (windowed xtrans : Bool) (i : ℕ) (P Q : Plan) → i < 6 → P ≡ plan_of xtrans i → Q ≡ window_plan windowed P → Apart Q
unfolding window_plan
planned_apart windowed xtrans i P Q h eP eQ = rw eQ (go windowed (rw eP (two_lines xtrans i h)))
  where
    go : (b : Bool) → Two P i → Apart (window_plan b P)
    go true T =
        by_test (eqb (i % 2) 0) (λ t. rw (T.first_window, T.second_window, t) (lit≤ tt)) (λ t. rw (T.first_window, T.second_window, t) (lit≤ tt))
    go false T = by_test (eqb (i % 2) 0) (λ t. rw (T.first, T.second, t) (omega arith)) (λ t. rw (T.first, T.second, t) (omega arith))

-- the width, named otherwise
pub long_as : (W U : ℕ) (l : List ℕ) → W ≡ U → length l ≡ 18 * (U + 2) → length l ≡ 18 * (W + 2)
long_as W U l e h = rw e h

pub held_as : (windowed : Bool) (W U i : ℕ) (l v : List ℕ) → W ≡ U → Held windowed U i l v → Held windowed W i l v
held_as windowed W U i l v e h = rw e h

-- ---- one turn of the loop over the passes

-- i passes were read on the 18 lines, which `lines` are now, and in those that are kept, v. In windows the image shows the lines that were read
pub record SoFar (windowed : Bool) (F : Form) (q W : ℕ) (s tile : List ℕ) (a : Part) (n i : ℕ) (r₀ : State) (v : List ℕ) (rs : List Record) (from : Place)
    (image : List ℕ) : Type 0 where
  pub lines : List ℕ
  pub long : length lines ≡ 18 * (W + 2)
  pub read : runs (pass_at F q s) i r₀ ≡ Some (state_at lines rs from)
  pub held : Held windowed W i lines v
  pub shown : windowed ≡ true → (j : ℕ) → in_rows a (6 * n) (6 * n + 6) j ≡ true → Placed i (colour_of tile a j)
      → get_or image j 0 ≡ emitted_sample F.xtrans W tile lines a j

pub so_far_none : (windowed : Bool) (F : Form) (q W : ℕ) (s tile : List ℕ) (a : Part) (n : ℕ) (l v : List ℕ) (rs : List Record) (from : Place) (image : List ℕ)
    → length l ≡ 18 * (W + 2) → Held windowed W 0 l v → SoFar windowed F q W s tile a n 0 (state_at l rs from) v rs from image
so_far_none windowed F q W s tile a n l v rs from image long held =
    record { lines = l; long = long; read = runs_none _ _; held = held; shown = λ e j h p. absurd (placed_none tile a j p) }

module _ (windowed : Bool) (F : Form) (q : ℕ) (s tile : List ℕ) (a : Part) (n i W : ℕ) (P Q : Plan) (r₀ : State) (v v₁ : List ℕ) (rs : List Record)
    (t : Set) (from : Place) (image : List ℕ)
    (eW : W ≡ width_of F.xtrans) (depth : F.bits ≤ 16) (hi : i < 6) (eP : P ≡ plan_of F.xtrans i) (eQ : Q ≡ window_plan windowed P)
    (e₁ : v₁ ≡ entered windowed W Q.first Q.second v)
    (et : records_of t ≡ set_of P.set rs) (ev : length v ≡ samples_in windowed F.xtrans) (so_far : SoFar windowed F q W s tile a n i r₀ v rs from image)
    (v' : List ℕ) (o : Option Passed)
    (answer : IsPassed (read_pass F.bits q W s Q (begun v₁ t from)) v' o) where
  abbrev z : List ℕ
  z = so_far.lines

  -- the same pass on the 18 lines
  abbrev here : Option Reading
  here = read_pass F.bits q W s P (reading_at (guarded W P.second (guarded W P.first z)) (set_of P.set rs) from)

  both_at : (y : List ℕ) → length y ≡ 18 * (W + 2) → Held windowed W i y v
      → Alike (Stepped windowed W i P Q.first Q.second y) (read_pass F.bits q W s P
      (reading_at (guarded W P.second (guarded W P.first y)) (set_of P.set rs) from))
      (read_pass F.bits q W s Q (begun v₁ t from))
  both_at y long held =
      rw (et, e₁, eQ, eP, eW)
      (held_pass windowed F q s i y v (set_of (plan_of F.xtrans i).set rs) from depth (width_in_range F.xtrans (width_of F.xtrans) refl).2 hi
      (rw eW at long) ev (rw eW at held))

  both : Alike (Stepped windowed W i P Q.first Q.second z) here (read_pass F.bits q W s Q (begun v₁ t from))
  both = both_at z so_far.long so_far.held

  pass_is : (p : Option Reading) → here ≡ p → pass_at F q s i (state_at z rs from) ≡ leave P (state_at z rs from) p
  unfolding pass_at
  pass_is p e =
      let g : read_pass F.bits q (width_of F.xtrans) s P (enter F P (state_at z rs from)) ≡ p = rw (← eW) e in
      rw (← eP, g)

  pub pass_cut : o ≡ None → read_line F q s r₀ ≡ None
  unfolding read_line and_then
  pass_cut e = rw (runs_fail (pass_at F q s) r₀ 6 i _ so_far.read hi (pass_is None (alike_none _ here _ both (pass_was_cut_off _ v' o answer e))))

  step_with : (d : Passed) (y : Reading) → here ≡ Some y → Stepped windowed W i P Q.first Q.second z y (begun v' d.set d.place) → (image' : List ℕ)
      → Fits a image
      → PassEmitted windowed F.xtrans W tile v' a n P.first Q.first P.second Q.second image image'
      → SoFar windowed F q W s tile a n (i + 1) r₀ v' (put_set P.set (records_of d.set) rs) d.place image'
  step_with d y e S image' fits put =
      record {
        lines = y.lines;
        long = S.length18 ∙ so_far.long;
        read = runs_more (pass_at F q s) r₀ i _ so_far.read ∙ pass_is (Some y) e ∙ rw (S.sets, S.ats, S.tights, S.longs);
        held = S.held;
        shown =
            λ w j h p. pass_shown a image image' fits F.xtrans W eW tile n i P (rw eP (two_lines F.xtrans i hi)) Q.first Q.second z
            y.lines v' (rw w at put) S.others S.first_line_lem
            S.second_line_lem (so_far.shown w) j h p;
      }

  pub pass_more : (d : Passed) → o ≡ Some d → (image' : List ℕ) → Fits a image → PassPlaced windowed F.xtrans W tile v' a n i image image'
      → SoFar windowed F q W s tile a n (i + 1) r₀ v' (put_set P.set (records_of d.set) rs) d.place image'
  pass_more d e image' fits put =
      let k = alike_some _ here _ _ both (pass_was_read _ v' o d answer e) in
      step_with d k.0 k.1 k.2 image' fits (rw (eQ, eP) put)

-- ---- the end of a line

module _ (F : Form) (q : ℕ) (s : List ℕ) (i : ℕ) (r₀ r : State) (high : 6 ≤ i) (low : i ≤ 6) (all : runs (pass_at F q s) i r₀ ≡ Some r) where
  six : runs (pass_at F q s) 6 r₀ ≡ Some r
  six = let e : i ≡ 6 = omega arith in rw e at all

  pub line_past : ltb (8 * length s + 7) r.at.0 ≡ true → read_line F q s r₀ ≡ None
  unfolding read_line and_then
  line_past h = rw (six, lt-leb r.at.0 (8 * length s + 7) (ltb-true _ _ h))

  pub line_read : ltb (8 * length s + 7) r.at.0 ≡ false → read_line F q s r₀ ≡ Some r
  unfolding read_line and_then
  line_read h = rw (six, le-leb r.at.0 (8 * length s + 7) (ltb-false _ _ h))

module _ (windowed : Bool) (F : Form) (q W : ℕ) (s tile : List ℕ) (a : Part) (n i : ℕ) (r₀ : State) (v : List ℕ) (rs : List Record) (from : Place)
    (image : List ℕ) (high : 6 ≤ i) (low : i ≤ 6)
    (S : SoFar windowed F q W s tile a n i r₀ v rs from image) where
  at_six : SoFar windowed F q W s tile a n 6 r₀ v rs from image
  at_six = let e : i ≡ 6 = omega arith in rw e at S

  pub ended_past : ltb (8 * length s + 7) from.at.0 ≡ true → read_line F q s r₀ ≡ None
  ended_past h = line_past F q s 6 r₀ (state_at at_six.lines rs from) (lit≤ tt) (lit≤ tt) at_six.read h

  pub ended_read : ltb (8 * length s + 7) from.at.0 ≡ false → (before : Buffers) → OnlyLine windowed a n before.image image → (U : ℕ) → W ≡ U
      → IsLinedIn windowed F.xtrans U tile a n (read_line F q s r₀) before (record { image = image; lines = v; records = rs }) (Some from)
  ended_read h before only U e =
      rw (← e, line_read F q s 6 r₀ (state_at at_six.lines rs from) (lit≤ tt) (lit≤ tt) at_six.read h)
      (refl, at_six.held, refl, line_shown windowed F.xtrans W tile at_six.lines a n before.image image only at_six.shown)
