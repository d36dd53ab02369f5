-- The guards of a colour line that was read are the ends of the line above it. Assumes nothing.
use mathlib.Core.List.{List}
use mathlib.Core.Logic.{◌≢◌}
use mathlib.Core.Path.{◌≡◌, refl, sym, ◌∙◌}
use Prim.Native.Nat.{ℕ, suc, ◌+◌, ◌-◌, ◌*◌, ◌%◌, ◌≤◌, ◌<◌}
use native.Mathlib.Nat.{mul-le-mul_right}
use native.Mathlib.Omega.{arith}
use lib.Dec.{lit<}
use lib.ListN.{length, get_or, length-replicate}
use Rattle.colour_lines.specs.ColourLines.{guarded}
use Rattle.colour_lines.proofs.LineLaws.{length_guarded, length_turned}
use Rattle.colour_lines.proofs.MoveLaws.{place_is, guard_leaves, left_guard_lem, right_guard_lem}
use Rattle.image_map.specs.Places.{width_of}
use Rattle.pass_schedule.specs.Steps.{plan_of, pass_steps}
use Rattle.pass_schedule.specs.declared.Plan.{Plan}
use Rattle.pass_schedule.proofs.OrderLaws.{pass_all}
use Rattle.read_pass.specs.Readings.{Reading, read_pass}
use Rattle.read_pass.proofs.FrameLaws.{steps_leave, pass_frame}
use Rattle.read_pass.proofs.RangeLaws.{pass_keeps}
use Rattle.read_block.specs.Blocks.{State, runs, enter, pass_at, end_line, read_line, before_line, read_line_at, start_state, read_lines}
use Rattle.read_block.specs.Records.{base_of}
use Rattle.read_block.specs.declared.Form.{Form}
use Rattle.read_block.proofs.KeepLaws.{left_by, end_same, passes_keep, lines_keep}
use Rattle.read_block.proofs.RunLaws.{then_both, runs_last}
use Rattle.read_block.proofs.WindowTwins.{two_lines}
use Rattle.theorem_going_on.proofs.NearLaws.{even_width}
use Rattle.std.specs.Prelude.{Some}

-- the guards of line L
pub record Ends (W L : ℕ) (l : List ℕ) : Type 0 where
  pub left : get_or l (L * (W + 2) + 0) 0 ≡ get_or l ((L - 1) * (W + 2) + 1) 0
  pub right : get_or l (L * (W + 2) + (W + 1)) 0 ≡ get_or l ((L - 1) * (W + 2) + W) 0

-- it is enough that the line's guards and the line above it stay
ends_stay : (W L : ℕ) (k l : List ℕ) → get_or l (L * (W + 2) + 0) 0 ≡ get_or k (L * (W + 2) + 0) 0
    → get_or l (L * (W + 2) + (W + 1)) 0 ≡ get_or k (L * (W + 2) + (W + 1)) 0
    → ((d : ℕ) → d < W + 2 → get_or l ((L - 1) * (W + 2) + d) 0 ≡ get_or k ((L - 1) * (W + 2) + d) 0) → Ends W L k → Ends W L l
ends_stay W L k l a b above e =
    record { left = a ∙ e.left ∙ sym (above 1 (omega arith)); right = b ∙ e.right ∙ sym (above W (omega arith)) }

-- they are set
ends_set : (W L : ℕ) (l : List ℕ) → 1 ≤ L → (L + 1) * (W + 2) ≤ length l → Ends W L (guarded W L l)
ends_set W L l h room =
    record {
      left =
          let e : L * (W + 2) + 0 ≡ L * (W + 2) = omega arith in
          rw e (left_guard_lem W L l (omega arith)) ∙ sym (guard_leaves W L (L - 1) 1 l (omega arith) (λ q. omega arith));
      right = right_guard_lem W L l h (omega arith) ∙ sym (guard_leaves W L (L - 1) W l (omega arith) (λ q. omega arith));
    }

-- and stay, where those of another line are set
ends_guard : (W L m : ℕ) (l : List ℕ) → L ≢ m → L - 1 ≢ m → Ends W L l → Ends W L (guarded W m l)
ends_guard W L m l x y e =
    ends_stay W L l (guarded W m l) (guard_leaves W m L 0 l (omega arith) x) (guard_leaves W m L (W + 1) l (omega arith) x)
    (λ d h. guard_leaves W m (L - 1) d l h y) e

-- and where a pass reads neither the line above nor sets guards
module _ (bits q W : ℕ) (s : List ℕ) (P : Plan) (even : W % 2 ≡ 0) (r z : Reading) (e : read_pass bits q W s P r ≡ Some z) where
  guard_stays : (L d : ℕ) → d < W + 2 → ((p : ℕ) → p < W → d ≢ p + 1) → get_or z.lines (L * (W + 2) + d) 0 ≡ get_or r.lines (L * (W + 2) + d) 0
  unfolding read_pass
  guard_stays L d h never =
      steps_leave bits q W s (L * (W + 2) + d) (pass_steps W P) r z
      (pass_all W P even (λ m p. L * (W + 2) + d ≢ m * (W + 2) + p + 1) (λ p k. (apart P.first p k, apart P.second p k))) e
    where
      apart : (m p : ℕ) → p < W → L * (W + 2) + d ≢ m * (W + 2) + p + 1
      apart m p k f = never p k (place_is W L d m (p + 1) h (omega arith) (omega arith)).1

  pub ends_pass : (L : ℕ) → L - 1 ≢ P.first → L - 1 ≢ P.second → Ends W L r.lines → Ends W L z.lines
  ends_pass L x y k =
      ends_stay W L r.lines z.lines (guard_stays L 0 (omega arith) (λ p h f. omega arith)) (guard_stays L (W + 1) (omega arith) (λ p h f. omega arith))
      (λ d h. pass_frame bits q W s P r z (L - 1) d even h x y e) k

-- a pass over two lines leaves the guards of both so, and keeps those of a line that is apart from them
module _ (bits q W : ℕ) (s : List ℕ) (P : Plan) (even : W % 2 ≡ 0) (l : List ℕ) (r z : Reading)
    (entered : r.lines ≡ guarded W P.second (guarded W P.first l)) (e : read_pass bits q W s P r ≡ Some z) (low : 2 ≤ P.first)
    (far : P.first + 3 ≤ P.second) (high : P.second ≤ 17) (long : length l ≡ 18 * (W + 2)) where
  room : (L : ℕ) → L ≤ 17 → (L + 1) * (W + 2) ≤ length l
  room L h = let k : (L + 1) * (W + 2) ≤ 18 * (W + 2) = mul-le-mul_right (W + 2) (omega arith) in omega (arith, long)

  pub first_ends : Ends W P.first z.lines
  first_ends =
      ends_pass bits q W s P even r z e P.first (λ f. omega (arith, low)) (λ f. omega (arith, far))
      (rw entered
      (ends_guard W P.first P.second (guarded W P.first l) (λ f. omega (arith, far)) (λ f. omega (arith, far))
      (ends_set W P.first l (omega (arith, low)) (room P.first (omega (arith, far, high))))))

  pub second_ends : Ends W P.second z.lines
  second_ends =
      ends_pass bits q W s P even r z e P.second (λ f. omega (arith, far)) (λ f. omega (arith, low, far))
      (rw entered
      (ends_set W P.second (guarded W P.first l) (omega (arith, low, far))
      (rw (length_guarded W P.first l) (room P.second high))))

  pub other_ends : (L : ℕ) → L ≢ P.first → L ≢ P.second → L - 1 ≢ P.first → L - 1 ≢ P.second → Ends W L l → Ends W L z.lines
  other_ends L a b c d k =
      ends_pass bits q W s P even r z e L c d
      (rw entered (ends_guard W L P.second (guarded W P.first l) b d (ends_guard W L P.first l a c k)))

-- ---- after a line

module _ (F : Form) (depth : F.bits ≤ 16) (s : List ℕ) where
  abbrev W : ℕ
  W = width_of F.xtrans

  abbrev pub Long : State → Type 0
  Long r = length r.lines ≡ 18 * (W + 2)

  pass_long : (q i : ℕ) (r z : State) → Long r → pass_at F q s i r ≡ Some z → Long z
  unfolding pass_at
  pass_long q i r z h e =
      let P : Plan = plan_of F.xtrans i in
      left_by Long P r z (read_pass F.bits q W s P (enter F P r))
      (λ y k. (pass_keeps F.bits q W s depth P (enter F P r) y k).lines ∙ length_guarded W P.second (guarded W P.first r.lines)
      ∙ length_guarded W P.first r.lines ∙ h)
      e

  pub read_long : (bases : List ℕ) (n : ℕ) (z : State) → read_lines F bases s n ≡ Some z → Long z
  unfolding start_state
  read_long bases n z e =
      lines_keep F s Long pass_long bases (λ m r h. length_turned W r.lines (omega (arith, h)) ∙ h) (length-replicate (18 * (W + 2)) 0) n z e

  -- pass 4 reads lines 4 and 11, and pass 5 lines 12 and 17
  ends_of_4 : (q : ℕ) (r z : State) → Long r → pass_at F q s 4 r ≡ Some z → Ends W 4 z.lines
  unfolding pass_at
  ends_of_4 q r z h e =
      let P : Plan = plan_of F.xtrans 4 in
      let f : P.first ≡ 4 = (two_lines F.xtrans 4 (lit< tt)).first in
      let g : P.second ≡ 11 = (two_lines F.xtrans 4 (lit< tt)).second in
      left_by (λ y. Ends W 4 y.lines) P r z (read_pass F.bits q W s P (enter F P r))
      (λ y k.
      rw f at
      (first_ends F.bits q W s P (even_width F.xtrans) r.lines (enter F P r) y refl k (omega (arith, f)) (omega (arith, f, g)) (omega (arith, g)) h))
      e

  ends_of_5 : (q : ℕ) (r z : State) → Long r → Ends W 4 r.lines → pass_at F q s 5 r ≡ Some z
      → Ends W 4 z.lines × Ends W 12 z.lines × Ends W 17 z.lines
  unfolding pass_at
  ends_of_5 q r z h b e =
      let P : Plan = plan_of F.xtrans 5 in
      let f : P.first ≡ 12 = (two_lines F.xtrans 5 (lit< tt)).first in
      let g : P.second ≡ 17 = (two_lines F.xtrans 5 (lit< tt)).second in
      left_by (λ y. Ends W 4 y.lines × Ends W 12 y.lines × Ends W 17 y.lines) P r z (read_pass F.bits q W s P (enter F P r))
      (λ y k. (
        other_ends F.bits q W s P (even_width F.xtrans) r.lines (enter F P r) y refl k (omega (arith, f)) (omega (arith, f, g)) (omega (arith, g)) h
            4 (λ x. omega (arith, f)) (λ x. omega (arith, g)) (λ x. omega (arith, f)) (λ x. omega (arith, g)) b,
        rw f at
            (first_ends F.bits q W s P (even_width F.xtrans) r.lines (enter F P r) y refl k (omega (arith, f)) (omega (arith, f, g))
            (omega (arith, g)) h),
        rw g at
            (second_ends F.bits q W s P (even_width F.xtrans) r.lines (enter F P r) y refl k (omega (arith, f)) (omega (arith, f, g))
            (omega (arith, g)) h),
      ))
      e

  -- so the guards of the last line of each colour are the ends of the one above
  pub read_ends : (bases : List ℕ) (n : ℕ) (z : State) → read_lines F bases s (suc n) ≡ Some z
      → Ends W 4 z.lines × Ends W 12 z.lines × Ends W 17 z.lines
  unfolding read_lines read_line_at read_line
  read_ends bases n z e =
      let q : ℕ = base_of bases n in
      let l = runs_last (read_line_at F bases s) (start_state F bases) n z e in
      let b : State = before_line F bases n l.0 in
      let whole = read_long bases n l.0 l.1 in
      let long : Long b = length_turned W l.0.lines (omega (arith, whole)) ∙ whole in
      let u = then_both (runs (pass_at F q s) 6 b) (end_line s) z l.2 in
      let five = runs_last (pass_at F q s) b 5 u.0 u.1 in
      let four = runs_last (pass_at F q s) b 4 five.0 five.1 in
      let long-4 = passes_keep F s Long pass_long q 4 b four.0 long four.1 in
      let long-5 = passes_keep F s Long pass_long q 5 b five.0 long five.1 in
      let same = end_same s u.0 z u.2 in
      rw same at (ends_of_5 q five.0 u.0 long-5 (ends_of_4 q four.0 five.0 long-4 four.2) five.2)
