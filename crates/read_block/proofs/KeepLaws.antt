-- What passes keep, lines and blocks keep. There are no more long codes than bits, and the colour lines stay 18. Assumes nothing.
use mathlib.Core.Bool.{Bool, true, false, cond}
use mathlib.Core.List.{List}
use mathlib.Core.Path.{◌≡◌, refl, ◌∙◌}
use Prim.Native.Nat.{ℕ, ◌+◌, ◌*◌, ◌≤◌}
use native.Mathlib.Omega.{arith}
use lib.Dec.{leb}
use lib.ListN.{length}
use Rattle.colour_lines.specs.ColourLines.{guarded}
use Rattle.colour_lines.proofs.LineLaws.{length_guarded, length_turned}
use Rattle.image_map.specs.Places.{width_of}
use Rattle.pass_schedule.specs.Steps.{plan_of}
use Rattle.pass_schedule.specs.declared.Plan.{Plan}
use Rattle.read_pass.specs.Readings.{Reading, read_pass}
use Rattle.read_pass.proofs.RangeLaws.{pass_keeps}
use Rattle.read_block.specs.Blocks.{State, runs, enter, leave, pass_at, end_line, read_line, before_line, read_line_at, start_state, read_lines, read_from}
use Rattle.read_block.specs.Records.{base_of, put_set}
use Rattle.read_block.specs.declared.Form.{Form}
use Rattle.read_block.proofs.RunLaws.{then_keeps, runs_keep}
use Rattle.read_block.proofs.ResumeLaws.{from_top}
use Rattle.std.specs.Prelude.{None, Option, Some}

-- the test at a line's end leaves the state as it is
pub end_same : (s : List ℕ) (r z : State) → end_line s r ≡ Some z → r ≡ z
end_same s r z e = go (leb r.at.0 (8 * length s + 7)) e
  where
    go : (b : Bool) → cond b (Some r) None ≡ Some z → r ≡ z
    go true f = cc
    go false f = let no : ◌≡◌ {A = ℕ} 0 1 = cc in absurd (omega arith)

module _ (F : Form) (s : List ℕ) (Q : State → Type 0) (pass : (q i : ℕ) (r z : State) → Q r → pass_at F q s i r ≡ Some z → Q z) where
  pub passes_keep : (q n : ℕ) (r z : State) → Q r → runs (pass_at F q s) n r ≡ Some z → Q z
  passes_keep q n r z h e = runs_keep (pass_at F q s) r Q h (pass q) n z e

  line_keeps : (q : ℕ) (r z : State) → Q r → read_line F q s r ≡ Some z → Q z
  unfolding read_line
  line_keeps q r z h e =
      then_keeps Q (runs (pass_at F q s) 6 r) (end_line s) z (λ y f. passes_keep q 6 r y h f) (λ y k f. let same = end_same s y z f in rw same at k) e

  -- lines from line `first` on, which finds z
  pub from_keeps : (bases : List ℕ) → ((n : ℕ) (r : State) → Q r → Q (before_line F bases n r)) → (first : ℕ) (z : State) → Q z
      → (n : ℕ) (y : State) → read_from F bases s first z n ≡ Some y → Q y
  unfolding read_from read_line_at
  from_keeps bases turn first z start n y e =
      runs_keep (λ i. read_line_at F bases s (first + i)) z Q start
      (λ m r x h f. line_keeps (base_of bases (first + m)) (before_line F bases (first + m) r) x (turn (first + m) r h) f) n y e

  -- and from the top
  pub lines_keep : (bases : List ℕ) → ((n : ℕ) (r : State) → Q r → Q (before_line F bases n r)) → Q (start_state F bases)
      → (n : ℕ) (z : State) → read_lines F bases s n ≡ Some z → Q z
  lines_keep bases turn start n z e = from_keeps bases turn 0 (start_state F bases) start n z (from_top F bases s n ∙ e)

-- what a pass leaves, by what was read
pub left_by : (Q : State → Type 0) (P : Plan) (r z : State) (o : Option Reading) → ((y : Reading) → o ≡ Some y
    → Q (record { lines = y.lines; records = put_set P.set y.set r.records; at = y.at; tight = y.tight; long = y.long }))
    → leave P r o ≡ Some z → Q z
left_by Q P r z None k e = let no : ◌≡◌ {A = ℕ} 0 1 = cc in absurd (omega arith)
left_by Q P r z (Some y) k e =
    let f : record { lines = y.lines; records = put_set P.set y.set r.records; at = y.at; tight = y.tight; long = y.long } ≡ z = cc in
    rw f at (k y refl)

module _ (F : Form) (depth : F.bits ≤ 16) (s : List ℕ) where
  abbrev W : ℕ
  W = width_of F.xtrans

  -- ---- long codes

  abbrev Few : State → Type 0
  Few r = r.long ≤ r.at.0

  pass_few : (q i : ℕ) (r z : State) → Few r → pass_at F q s i r ≡ Some z → Few z
  unfolding pass_at
  pass_few q i r z h e =
      let P : Plan = plan_of F.xtrans i in
      left_by Few P r z (read_pass F.bits q W s P (enter F P r)) (λ y k. (pass_keeps F.bits q W s depth P (enter F P r) y k).counted h) e

  pub passes_few : (q n : ℕ) (r z : State) → Few r → runs (pass_at F q s) n r ≡ Some z → Few z
  passes_few q n r z h e = passes_keep F s Few pass_few q n r z h e

  pub lines_few : (bases : List ℕ) (first : ℕ) (z : State) → Few z → (n : ℕ) (y : State) → read_from F bases s first z n ≡ Some y → Few y
  lines_few bases first z start n y e = from_keeps F s Few pass_few bases (λ m r h. h) first z start n y e

  -- ---- the 18 lines

  abbrev Long : State → Type 0
  Long r = length r.lines ≡ 18 * (W + 2)

  pass_long : (q i : ℕ) (r z : State) → Long r → pass_at F q s i r ≡ Some z → Long z
  unfolding pass_at
  pass_long q i r z h e =
      let P : Plan = plan_of F.xtrans i in
      left_by Long P r z (read_pass F.bits q W s P (enter F P r))
      (λ y k. (pass_keeps F.bits q W s depth P (enter F P r) y k).lines ∙ length_guarded W P.second (guarded W P.first r.lines)
      ∙ length_guarded W P.first r.lines ∙ h)
      e

  pub lines_long : (bases : List ℕ) (first : ℕ) (z : State) → Long z → (n : ℕ) (y : State) → read_from F bases s first z n ≡ Some y → Long y
  lines_long bases first z start n y e =
      from_keeps F s Long pass_long bases (λ m r h. length_turned W r.lines (omega (arith, h)) ∙ h) first z start n y e
