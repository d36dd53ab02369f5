-- A pass in windows reads what it reads on the 18 lines. Assumes nothing.
use mathlib.Core.Bool.{Bool, true, false, cond, not}
use mathlib.Core.List.{List}
use mathlib.Core.Logic.{◌≢◌}
use mathlib.Core.Path.{◌≡◌, refl, sym, ◌∙◌}
use Prim.Native.Nat.{ℕ, zero, suc, ◌+◌, ◌-◌, ◌*◌, ◌/◌, ◌%◌, ◌≤◌, ◌<◌}
use native.Mathlib.Omega.{arith}
use borrow.Author.Tests.{eqb-true, eqb-false}
use lib.Dec.{eqb, lit≤}
use lib.ListN.{length, get_or, replicate}
use Rattle.code.specs.declared.Place.{Place}
use Rattle.statistics.specs.declared.Record.{Record}
use Rattle.colour_lines.specs.ColourLines.{guarded, turned, zero_lines}
use Rattle.colour_lines.specs.Inside.{shifted, roomed, entered}
use Rattle.colour_lines.proofs.LineLaws.{length_guarded}
use Rattle.colour_lines.proofs.MoveLaws.{guard_leaves, turned_at}
use Rattle.image_map.specs.Places.{width_of}
use Rattle.image_map.proofs.PartLaws.{by_test}
use Rattle.pass_schedule.specs.Steps.{plan_of}
use Rattle.pass_schedule.specs.declared.Plan.{Plan}
use Rattle.pass_steps.proofs.KLaws.{zeros}
use Rattle.read_pass.specs.Readings.{Reading, read_pass}
use Rattle.read_pass.specs.Pairs.{reading_at}
use Rattle.read_pass.specs.Windows.{window_line, placed, window_plan}
use Rattle.read_pass.proofs.FrameLaws.{pass_frame}
use Rattle.read_pass.proofs.RangeLaws.{pass_keeps}
use Rattle.read_pass.proofs.WindowLaws.{Alike, alike_with, alike_same, Rows, pass_alike}
use Rattle.read_block.specs.Between.{lines_entered}
use Rattle.read_block.specs.WindowedLines.{samples_in, zeros_in, Latest, Windows, Held}
use Rattle.read_block.specs.declared.Form.{Form}
use Rattle.read_block.proofs.WindowRooms.{at_above, at_line, line_two, apart_lines, length_l₁, l_stays, third_below, third_above, first_rows, second_rows}
use Rattle.std.specs.Prelude.{Option}

-- ---- after a pass

pub latest_after : (W m k : ℕ) (l v : List ℕ) → 2 ≤ m → 2 ≤ k → Rows W W W ((m - 2) * (W + 2)) ((k - 2) * (W + 2)) l v → Latest W m k l v
latest_after W m k l v hm hk R =
    record {
      above = λ p h. rw (at_above W m (p + 1) hm, at_above W k (p + 1) hk) at (R.one_up (p + 1) (omega (arith, h)));
      line = λ d h. rw (at_line W m d hm, at_line W k d hk) at (entry d h);
    }
  where
    entry : (d : ℕ) → d < W + 2 → get_or l ((m - 2) * (W + 2) + (2 * (W + 2) + d)) 0 ≡ get_or v ((k - 2) * (W + 2) + (2 * (W + 2) + d)) 0
    entry d h =
        by_test (eqb d 0)
        (λ t. let e : 2 * (W + 2) + d ≡ 2 * (W + 2) = omega (arith, eqb-true d 0 t) in rw e R.left)
        (λ t.
        let ne = eqb-false d 0 t in
        by_test (eqb d (W + 1))
        (λ r. let e = eqb-true d (W + 1) r in rw e R.right)
        (λ r.
        let no = eqb-false d (W + 1) r in
        let f : d - 1 + 1 ≡ d = omega (arith, ne) in
        let w : d - 1 < W = omega (arith, h, ne, no) in
        by_test (eqb ((d - 1) % 2) 0)
        (λ x. rw f at (R.evens (d - 1) (eqb-true ((d - 1) % 2) 0 x) w w))
        (λ x. rw f at (R.odds (d - 1) (let odd = eqb-false ((d - 1) % 2) 0 x in omega (arith, odd)) w w))))

-- what a pass over two lines leaves, on the 18 lines l and in the windows v
pub record After (W : ℕ) (P : Plan) (a c : ℕ) (l v : List ℕ) (y y' : Reading) : Type 0 where
  pub first : Latest W P.first a y.lines y'.lines
  pub second : Latest W P.second c y.lines y'.lines
  pub others : (m d : ℕ) → d < W + 2 → m ≢ P.first → m ≢ P.second → get_or y.lines (m * (W + 2) + d) 0 ≡ get_or l (m * (W + 2) + d) 0
  pub below : (m d : ℕ) → d < W + 2 → c < m → get_or y'.lines (m * (W + 2) + d) 0 ≡ get_or v (m * (W + 2) + d) 0
  pub upper : (m d : ℕ) → d < W + 2 → m < a - 2 → get_or y'.lines (m * (W + 2) + d) 0 ≡ get_or v (m * (W + 2) + d) 0
  pub length18 : length y.lines ≡ length l
  pub sets : y.set ≡ y'.set
  pub ats : y.at ≡ y'.at
  pub tights : y.tight ≡ y'.tight
  pub longs : y.long ≡ y'.long

-- a pass over two lines, on the 18 lines l and in the windows v
module _ (bits q W : ℕ) (s : List ℕ) (P : Plan) (a c : ℕ) (l v : List ℕ) (set : List Record) (from : Place) (depth : bits ≤ 16) (even : W % 2 ≡ 0)
    (low : 2 ≤ P.first) (far : P.first + 3 ≤ P.second) (high : P.second ≤ 17) (low' : 2 ≤ a) (far' : a + 3 ≤ c) (high' : c ≤ 8)
    (long : length l ≡ 18 * (W + 2)) (long' : length v ≡ 9 * (W + 2)) where
  abbrev enter18 : List ℕ
  enter18 = guarded W P.second (guarded W P.first l)

  abbrev enter9 : List ℕ
  enter9 = guarded W c (guarded W a (shifted W c (shifted W a v)))

  pub windows_pass : Latest W (P.first - 1) a l v → Latest W (P.second - 1) c l v
      → Alike (After W P a c l v) (read_pass bits q W s P (reading_at enter18 set from)) (read_pass bits q W s (placed P a c) (reading_at enter9 set from))
  windows_pass L M =
      alike_with _ (After W P a c l v) (read_pass bits q W s P (reading_at enter18 set from)) (read_pass bits q W s (placed P a c) (reading_at enter9 set from))
      (pass_alike bits q W s P a c ((P.first - 2) * (W + 2)) ((a - 2) * (W + 2)) ((P.second - 2) * (W + 2)) ((c - 2) * (W + 2))
      (line_two W P.first low) (line_two W a low') (line_two W P.second (omega (arith, low, far))) (line_two W c (omega (arith, low', far')))
      (apart_lines W P.first P.second low far) (apart_lines W a c low' far') (reading_at enter18 set from) (reading_at enter9 set from) even
      (record {
        first = first_rows W l v P.first P.second a c low far high low' far' high' long long' L;
        second = second_rows W l v P.first P.second a c low far high low' far' high' long long' M;
        sets = refl;
        ats = refl;
        tights = refl;
        longs = refl;
      }))
      (λ y y' e e' t.
      record {
        first = latest_after W P.first a y.lines y'.lines low low' t.first;
        second = latest_after W P.second c y.lines y'.lines (omega (arith, low, far)) (omega (arith, low', far')) t.second;
        others =
            λ m d h x z. pass_frame bits q W s P (reading_at enter18 set from) y m d even h x z e
            ∙ l_stays W l v P.first P.second a c low far high low' far' high' long long' m d h x z;
        below =
            λ m d h k. pass_frame bits q W s (placed P a c) (reading_at enter9 set from) y' m d even h (λ x. omega (arith, k, far')) (λ x. omega (arith, k)) e'
            ∙ third_below W l v P.first P.second a c low far high low' far' high' long long' m d h k;
        upper =
            λ m d h k. pass_frame bits q W s (placed P a c) (reading_at enter9 set from) y' m d even h (λ x. omega (arith, k)) (λ x. omega (arith, k, far')) e'
            ∙ third_above W l v P.first P.second a c low far high low' far' high' long long' m d h k;
        length18 = (pass_keeps bits q W s depth P (reading_at enter18 set from) y e).lines
            ∙ length_l₁ W l v P.first P.second a c low far high low' far' high' long long';
        sets = t.sets;
        ats = t.ats;
        tights = t.tights;
        longs = t.longs;
      })

-- ---- the passes of a line

-- their lines: a red one and a green one, or a green one and a blue one
pub record Two (P : Plan) (i : ℕ) : Type 0 where
  pub first : P.first ≡ cond (eqb (i % 2) 0) (2 + i / 2) (7 + i)
  pub second : P.second ≡ cond (eqb (i % 2) 0) (7 + i) (15 + i / 2)
  pub first_window : window_line P.first ≡ cond (eqb (i % 2) 0) 2 5
  pub second_window : window_line P.second ≡ cond (eqb (i % 2) 0) 5 8

pub two_lines : (xtrans : Bool) (i : ℕ) → i < 6 → Two (plan_of xtrans i) i
unfolding plan_of window_line
two_lines true zero h = record { first = refl; second = refl; first_window = refl; second_window = refl }
two_lines true (suc zero) h = record { first = refl; second = refl; first_window = refl; second_window = refl }
two_lines true (suc (suc zero)) h = record { first = refl; second = refl; first_window = refl; second_window = refl }
two_lines true (suc (suc (suc zero))) h = record { first = refl; second = refl; first_window = refl; second_window = refl }
two_lines true (suc (suc (suc (suc zero)))) h = record { first = refl; second = refl; first_window = refl; second_window = refl }
two_lines true (suc (suc (suc (suc (suc zero))))) h = record { first = refl; second = refl; first_window = refl; second_window = refl }
two_lines true (suc (suc (suc (suc (suc (suc i)))))) h = absurd (omega arith)
two_lines false zero h = record { first = refl; second = refl; first_window = refl; second_window = refl }
two_lines false (suc zero) h = record { first = refl; second = refl; first_window = refl; second_window = refl }
two_lines false (suc (suc zero)) h = record { first = refl; second = refl; first_window = refl; second_window = refl }
two_lines false (suc (suc (suc zero))) h = record { first = refl; second = refl; first_window = refl; second_window = refl }
two_lines false (suc (suc (suc (suc zero)))) h = record { first = refl; second = refl; first_window = refl; second_window = refl }
two_lines false (suc (suc (suc (suc (suc zero))))) h = record { first = refl; second = refl; first_window = refl; second_window = refl }
two_lines false (suc (suc (suc (suc (suc (suc i)))))) h = absurd (omega arith)

-- what a pass leaves, by its reading on the 18 lines
pub record Stepped (windowed : Bool) (W i : ℕ) (P : Plan) (a c : ℕ) (l : List ℕ) (y y' : Reading) : Type 0 where
  pub held : Held windowed W (i + 1) y.lines y'.lines
  pub first_line_lem : (d : ℕ) → d < W + 2 → get_or y.lines (P.first * (W + 2) + d) 0 ≡ get_or y'.lines (a * (W + 2) + d) 0
  pub second_line_lem : (d : ℕ) → d < W + 2 → get_or y.lines (P.second * (W + 2) + d) 0 ≡ get_or y'.lines (c * (W + 2) + d) 0
  pub others : (m d : ℕ) → d < W + 2 → m ≢ P.first → m ≢ P.second → get_or y.lines (m * (W + 2) + d) 0 ≡ get_or l (m * (W + 2) + d) 0
  pub length18 : length y.lines ≡ length l
  pub sets : y.set ≡ y'.set
  pub ats : y.at ≡ y'.at
  pub tights : y.tight ≡ y'.tight
  pub longs : y.long ≡ y'.long

-- the window of the colour that a pass does not read
latest_stays : (W T k : ℕ) (l v y y' : List ℕ) → Latest W T k l v → ((m d : ℕ) → d < W + 2 → m ≤ T → T ≤ m + 1
    → get_or y (m * (W + 2) + d) 0 ≡ get_or l (m * (W + 2) + d) 0)
    → ((m d : ℕ) → d < W + 2 → m ≤ k → k ≤ m + 1 → get_or y' (m * (W + 2) + d) 0 ≡ get_or v (m * (W + 2) + d) 0) → Latest W T k y y'
latest_stays W T k l v y y' L f g =
    record {
      above = λ p h. f (T - 1) (p + 1) (omega (arith, h)) (omega arith) (omega arith) ∙ L.above p h
          ∙ sym (g (k - 1) (p + 1) (omega (arith, h)) (omega arith) (omega arith));
      line = λ d h. f T d h (omega arith) (omega arith) ∙ L.line d h ∙ sym (g k d h (omega arith) (omega arith));
    }

module _ (bits q W : ℕ) (s : List ℕ) (P : Plan) (i : ℕ) (l v : List ℕ) (set : List Record) (from : Place) (depth : bits ≤ 16) (even : W % 2 ≡ 0)
    (hi : i < 6) (T : Two P i)
    (long : length l ≡ 18 * (W + 2)) (long' : length v ≡ 9 * (W + 2)) (H : Windows W i l v) where
  abbrev on18 : Option Reading
  on18 = read_pass bits q W s P (reading_at (guarded W P.second (guarded W P.first l)) set from)

  abbrev on9 : ℕ → ℕ → Option Reading
  on9 a c = read_pass bits q W s (placed P a c) (reading_at (guarded W c (guarded W a (shifted W c (shifted W a v)))) set from)

  abbrev Goal : ℕ → ℕ → Type 0
  Goal a c = Alike (Stepped true W i P a c l) on18 (on9 a c)

  -- a red line and a green one
  red_green : i % 2 ≡ 0 → P.first ≡ 2 + i / 2 → P.second ≡ 7 + i → Goal 2 5
  red_green ev ef es =
      let r : 1 + (i + 1) / 2 ≡ P.first - 1 = omega (arith, ev, ef) in
      let g : 6 + i ≡ P.second - 1 = omega (arith, es) in
      alike_with (After W P 2 5 l v) (Stepped true W i P 2 5 l) on18 (on9 2 5)
      (windows_pass bits q W s P 2 5 l v set from depth even (omega (arith, ef)) (omega (arith, ef, es)) (omega (arith, es, hi)) (lit≤ tt) (lit≤ tt)
      (lit≤ tt) long long'
      (rw r at H.red) (rw g at H.green))
      (λ y y' e e' t.
      record {
        held =
            let r' : P.first ≡ 1 + (i + 1 + 1) / 2 = omega (arith, ev, ef) in
            let g' : P.second ≡ 6 + (i + 1) = omega (arith, es) in
            let b' : 14 + i / 2 ≡ 14 + (i + 1) / 2 = omega (arith, ev) in
            record {
              red = rw r' at t.first;
              green = rw g' at t.second;
              blue =
                  rw b' at (latest_stays W (14 + i / 2) 8 l v y.lines y'.lines H.blue
                  (λ m d h x z. t.others m d h (λ n. omega (arith, ef, hi)) (λ n. omega (arith, es, hi)))
                  (λ m d h x z. t.below m d h (omega arith)));
            };
        first_line_lem = t.first.line;
        second_line_lem = t.second.line;
        others = t.others;
        length18 = t.length18;
        sets = t.sets;
        ats = t.ats;
        tights = t.tights;
        longs = t.longs;
      })

  -- a green line and a blue one
  green_blue : i % 2 ≢ 0 → P.first ≡ 7 + i → P.second ≡ 15 + i / 2 → Goal 5 8
  green_blue od ef es =
      let g : 6 + i ≡ P.first - 1 = omega (arith, ef) in
      let b : 14 + i / 2 ≡ P.second - 1 = omega (arith, es) in
      alike_with (After W P 5 8 l v) (Stepped true W i P 5 8 l) on18 (on9 5 8)
      (windows_pass bits q W s P 5 8 l v set from depth even (omega (arith, ef)) (omega (arith, ef, es, hi)) (omega (arith, es, hi)) (lit≤ tt) (lit≤ tt)
      (lit≤ tt) long long'
      (rw g at H.green) (rw b at H.blue))
      (λ y y' e e' t.
      record {
        held =
            let g' : P.first ≡ 6 + (i + 1) = omega (arith, ef) in
            let b' : P.second ≡ 14 + (i + 1) / 2 = omega (arith, od, es) in
            let r' : 1 + (i + 1) / 2 ≡ 1 + (i + 1 + 1) / 2 = omega (arith, od) in
            record {
              red =
                  rw r' at (latest_stays W (1 + (i + 1) / 2) 2 l v y.lines y'.lines H.red
                  (λ m d h x z. t.others m d h (λ n. omega (arith, ef, hi)) (λ n. omega (arith, es, hi)))
                  (λ m d h x z. t.upper m d h (omega arith)));
              green = rw g' at t.first;
              blue = rw b' at t.second;
            };
        first_line_lem = t.first.line;
        second_line_lem = t.second.line;
        others = t.others;
        length18 = t.length18;
        sets = t.sets;
        ats = t.ats;
        tights = t.tights;
        longs = t.longs;
      })

  pub windows_step : Goal (window_line P.first) (window_line P.second)
  windows_step =
      by_test (eqb (i % 2) 0)
      (λ t. rw (T.first_window, T.second_window, t) (red_green (eqb-true (i % 2) 0 t) (T.first ∙ rw t) (T.second ∙ rw t)))
      (λ t. rw (T.first_window, T.second_window, t) (green_blue (eqb-false (i % 2) 0 t) (T.first ∙ rw t) (T.second ∙ rw t)))

-- pass i, in either way
pub held_pass : (windowed : Bool) (F : Form) (q : ℕ) (s : List ℕ) (i : ℕ) (l v : List ℕ) (set : List Record) (from : Place) → F.bits ≤ 16
    → width_of F.xtrans % 2 ≡ 0 → i < 6
    → length l ≡ 18 * (width_of F.xtrans + 2) → length v ≡ samples_in windowed F.xtrans → Held windowed (width_of F.xtrans) i l v
    → let W = width_of F.xtrans in let P = plan_of F.xtrans i in let Q = window_plan windowed P in
    Alike (Stepped windowed W i P Q.first Q.second l) (read_pass F.bits q W s P (reading_at (lines_entered F P l) set from))
    (read_pass F.bits q W s Q (reading_at (entered windowed W Q.first Q.second v) set from))
unfolding window_plan entered roomed
held_pass true F q s i l v set from depth even hi long long' H =
    windows_step F.bits q (width_of F.xtrans) s (plan_of F.xtrans i) i l v set from depth even hi (two_lines F.xtrans i hi) long long' H
held_pass false F q s i l v set from depth even hi long long' H =
    let W : ℕ = width_of F.xtrans in
    let P : Plan = plan_of F.xtrans i in
    rw H
    (alike_same (Stepped false W i P P.first P.second l) (read_pass F.bits q W s P (reading_at (lines_entered F P l) set from))
    (λ y e.
    record {
      held = refl;
      first_line_lem = λ d h. refl;
      second_line_lem = λ d h. refl;
      others =
          λ m d h x z. pass_frame F.bits q W s P (reading_at (lines_entered F P l) set from) y m d even h x z e
          ∙ guard_leaves W P.second m d (guarded W P.first l) h z ∙ guard_leaves W P.first m d l h x;
      length18 =
          (pass_keeps F.bits q W s depth P (reading_at (lines_entered F P l) set from) y e).lines ∙ length_guarded W P.second (guarded W P.first l)
          ∙ length_guarded W P.first l;
      sets = refl;
      ats = refl;
      tights = refl;
      longs = refl;
    }))

-- ---- between lines

-- the turn to the next line does not move the windows
pub held_turn : (windowed : Bool) (W : ℕ) (l v v' : List ℕ) → 18 * (W + 2) ≤ length l → v' ≡ cond (not windowed) (turned W v) v → Held windowed W 6 l v
    → Held windowed W 0 (turned W l) v'
held_turn false W l v v' long e H = e ∙ rw H
held_turn true W l v v' long e H =
    rw e (record {
      red = record {
        above = λ p h. (turned_at W l long (p + 1) (omega (arith, h))).0 ∙ H.red.above p h;
        line = λ d h. (turned_at W l long d h).1
            ∙ H.red.line d h;
      };
      green = record {
        above = λ p h. (turned_at W l long (p + 1) (omega (arith, h))).2 ∙ H.green.above p h;
        line = λ d h. (turned_at W l long d h).3
            ∙ H.green.line d h;
      };
      blue = record {
        above = λ p h. (turned_at W l long (p + 1) (omega (arith, h))).4 ∙ H.blue.above p h;
        line = λ d h. (turned_at W l long d h).5
            ∙ H.blue.line d h;
      };
    })

-- a block starts with 0 everywhere
zeros_same : (W L k n m : ℕ) → Latest W L k (replicate n 0) (replicate m 0)
zeros_same W L k n m = record { above = λ p h. zeros n _ ∙ sym (zeros m _); line = λ d h. zeros n _ ∙ sym (zeros m _) }

pub held_start : (windowed xtrans : Bool) (v : List ℕ) → v ≡ zeros_in windowed xtrans → Held windowed (width_of xtrans) 6 (zero_lines (width_of xtrans)) v
held_start false xtrans v e = e
held_start true xtrans v e =
    let W : ℕ = width_of xtrans in
    rw e (record {
      red = zeros_same W 4 2 (18 * (W + 2)) (9 * (W + 2));
      green = zeros_same W 12 5 (18 * (W + 2)) (9 * (W + 2));
      blue = zeros_same W 17 8
          (18 * (W + 2)) (9 * (W + 2));
    })
