-- The colour lines that have gone to the image after some passes of a line. Assumes nothing.
use mathlib.Core.Bool.{Bool, true, false, ◌&&◌}
use mathlib.Core.List.{List}
use mathlib.Core.Logic.{◌≢◌}
use mathlib.Core.Path.{◌≡◌, refl, sym, ap, ◌∙◌}
use Prim.Native.Nat.{ℕ, ◌+◌, ◌*◌, ◌/◌, ◌%◌, ◌≤◌, ◌<◌}
use native.Mathlib.Omega.{arith}
use borrow.Author.Tests.{eqb-true, eqb-false}
use lib.Dec.{eqb}
use lib.ListN.{get_or}
use Rattle.numbers.proofs.OrderLaws.{split}
use Rattle.image_map.specs.Places.{colour_line, place_in, width_of, Changed}
use Rattle.image_map.specs.Inside.{picture_row, in_rows, emitted_sample, Fits}
use Rattle.image_map.specs.Windows.{block_column, cell_of, colour_of, window_sample, PassEmitted}
use Rattle.image_map.specs.declared.Part.{Part}
use Rattle.image_map.proofs.PartLaws.{by_test, in_rows_lem}
use Rattle.image_map.proofs.PlaceLaws.{place_lt}
use Rattle.image_map.proofs.WindowLaws.{sample_of_colour}
use Rattle.pass_schedule.specs.declared.Plan.{Plan}
use Rattle.read_block.specs.WindowedLines.{OnlyLine}
use Rattle.read_block.proofs.WindowTwins.{Two}

-- colour line c has gone to the image after i passes
pub record Placed (i c : ℕ) : Type 0 where
  pub red : c < 5 → c ≤ 1 + (i + 1) / 2
  pub green : 5 ≤ c → c < 13 → c ≤ 6 + i
  pub blue : 13 ≤ c → c ≤ 14 + i / 2

-- a line that has gone after one pass more, and is none of that pass
pub placed_before : (P : Plan) (i c : ℕ) → Two P i → c ≢ P.first → c ≢ P.second → Placed (i + 1) c → Placed i c
placed_before P i c T f s p =
    by_test (eqb (i % 2) 0)
    (λ t.
    let e = eqb-true (i % 2) 0 t in
    let ef : P.first ≡ 2 + i / 2 = T.first ∙ rw t in
    let es : P.second ≡ 7 + i = T.second ∙ rw t in
    record {
      red = λ h. omega (arith, p.red h, f, ef, e);
      green = λ h k. omega (arith, p.green h k, s, es);
      blue = λ h. omega (arith, p.blue h, e);
    })
    (λ t.
    let e = eqb-false (i % 2) 0 t in
    let ef : P.first ≡ 7 + i = T.first ∙ rw t in
    let es : P.second ≡ 15 + i / 2 = T.second ∙ rw t in
    record {
      red = λ h. omega (arith, p.red h, e);
      green = λ h k. omega (arith, p.green h k, f, ef);
      blue = λ h. omega (arith, p.blue h, s, es, e);
    })

-- the colour lines of a line: 2 to 4, 7 to 12, 15 to 17
colour_bounds : (t r : ℕ) → r < 6 → let c = colour_line t r in (2 ≤ c) × (c ≤ 17) × (c < 5 → c ≤ 4) × (5 ≤ c → 7 ≤ c) × (13 ≤ c → 15 ≤ c)
unfolding colour_line
colour_bounds t r h =
    by_test (eqb t 0)
    (λ e. rw e (omega arith, omega arith, (λ k. omega arith), (λ k. omega arith), λ k. omega arith))
    (λ e. by_test (eqb t 2)
    (λ f. rw (e, f) (omega arith, omega arith, (λ k. omega arith), (λ k. omega arith), λ k. omega arith))
    (λ f. rw (e, f) (omega arith, omega arith, (λ k. omega arith), (λ k. omega arith), λ k. omega arith)))

-- none before the first pass, and all after the last
pub placed_none : (tile : List ℕ) (a : Part) (j : ℕ) → Placed 0 (colour_of tile a j) → ⊥
unfolding colour_of
placed_none tile a j p =
    let b = colour_bounds (get_or tile (cell_of a j) 0) (picture_row a j % 6) (omega arith) in
    none_of _ p b
  where
    none_of : (c : ℕ) → Placed 0 c → (2 ≤ c) × (c ≤ 17) × (c < 5 → c ≤ 4) × (5 ≤ c → 7 ≤ c) × (13 ≤ c → 15 ≤ c) → ⊥
    none_of c p b =
        split 5 c
        (λ h. split 13 c (λ k. omega (arith, p.blue k, b.4 k)) (λ k. omega (arith, p.green h k, b.3 h)))
        (λ h. omega (arith, p.red h, b.0))

pub placed_all : (tile : List ℕ) (a : Part) (j : ℕ) → Placed 6 (colour_of tile a j)
unfolding colour_of
placed_all tile a j =
    let b = colour_bounds (get_or tile (cell_of a j) 0) (picture_row a j % 6) (omega arith) in
    record { red = λ h. omega (arith, h); green = λ h k. omega (arith, k); blue = λ h. omega (arith, b.1) }

-- ---- the image

module _ (a : Part) (image : List ℕ) (f : Fits a image) (xtrans : Bool) (W : ℕ) (eW : W ≡ width_of xtrans) (n j : ℕ)
    (h : in_rows a (6 * n) (6 * n + 6) j ≡ true) where
  -- where an entry's sample stands in its colour line
  abbrev pub spot : ℕ
  spot = 1 + place_in xtrans (block_column a j)

  pub spot_lt : spot < W + 2
  spot_lt =
      let r = in_rows_lem a (6 * n) (6 * n + 6) j h in
      let p = place_lt xtrans (block_column a j) (omega (arith, r.left, r.right, f.columns, f.order)) in
      rw eW (omega (arith, p))

  pub window_at : (lines : List ℕ) (slot : ℕ) → window_sample xtrans W lines a slot j ≡ get_or lines (slot * (W + 2) + spot) 0
  unfolding window_sample
  window_at lines slot = let e : slot * (W + 2) + 1 + place_in xtrans (block_column a j) ≡ slot * (W + 2) + spot = omega arith in rw e

-- one pass more shows its two lines
module _ (a : Part) (image image' : List ℕ) (f : Fits a image) (xtrans : Bool) (W : ℕ) (eW : W ≡ width_of xtrans) (tile : List ℕ) (n i : ℕ) (P : Plan)
    (T : Two P i) (A C : ℕ) (z y v : List ℕ)
    (put : PassEmitted true xtrans W tile v a n P.first A P.second C image image')
    (others : (m d : ℕ) → d < W + 2 → m ≢ P.first → m ≢ P.second → get_or y (m * (W + 2) + d) 0 ≡ get_or z (m * (W + 2) + d) 0)
    (first_line_lem : (d : ℕ) → d < W + 2 → get_or y (P.first * (W + 2) + d) 0 ≡ get_or v (A * (W + 2) + d) 0)
    (second_line_lem : (d : ℕ) → d < W + 2 → get_or y (P.second * (W + 2) + d) 0 ≡ get_or v (C * (W + 2) + d) 0)
    (before : (j : ℕ) → in_rows a (6 * n) (6 * n + 6) j ≡ true → Placed i (colour_of tile a j) → get_or image j 0 ≡ emitted_sample xtrans W tile z a j) where
  module _ (j : ℕ) (h : in_rows a (6 * n) (6 * n + 6) j ≡ true) (p : Placed (i + 1) (colour_of tile a j)) where
    abbrev c : ℕ
    c = colour_of tile a j

    abbrev d : ℕ
    d = spot a image f xtrans W eW n j h

    -- the sample that the entry is to show
    wanted : (l : List ℕ) → emitted_sample xtrans W tile l a j ≡ get_or l (c * (W + 2) + d) 0
    wanted l = sample_of_colour xtrans W tile l a j ∙ window_at a image f xtrans W eW n j h l c

    go : (s t : Bool) → eqb c P.first ≡ s → eqb c P.second ≡ t → get_or image' j 0 ≡ emitted_sample xtrans W tile y a j
    go true true ef es =
        put.entries j ∙ rw (h, ef, es)
        (window_at a image f xtrans W eW n j h v C ∙ sym (second_line_lem d (spot_lt a image f xtrans W eW n j h))
        ∙ ap (λ (m : ℕ). get_or y (m * (W + 2) + d) 0) (sym (eqb-true c P.second es)) ∙ sym (wanted y))
    go false true ef es =
        put.entries j ∙ rw (h, ef, es)
        (window_at a image f xtrans W eW n j h v C ∙ sym (second_line_lem d (spot_lt a image f xtrans W eW n j h))
        ∙ ap (λ (m : ℕ). get_or y (m * (W + 2) + d) 0) (sym (eqb-true c P.second es)) ∙ sym (wanted y))
    go true false ef es =
        put.entries j ∙ rw (h, ef, es)
        (window_at a image f xtrans W eW n j h v A ∙ sym (first_line_lem d (spot_lt a image f xtrans W eW n j h))
        ∙ ap (λ (m : ℕ). get_or y (m * (W + 2) + d) 0) (sym (eqb-true c P.first ef)) ∙ sym (wanted y))
    go false false ef es =
        put.entries j ∙ rw (h, ef, es)
        (before j h (placed_before P i c T (eqb-false c P.first ef) (eqb-false c P.second es) p) ∙ wanted z
        ∙ sym (others c d (spot_lt a image f xtrans W eW n j h) (eqb-false c P.first ef) (eqb-false c P.second es)) ∙ sym (wanted y))

    pub pass_shown : get_or image' j 0 ≡ emitted_sample xtrans W tile y a j
    pass_shown = go (eqb c P.first) (eqb c P.second) refl refl

-- other rows stay
pub only_none : (windowed : Bool) (a : Part) (n : ℕ) (x : List ℕ) → OnlyLine windowed a n x x
only_none windowed a n x = record { kept = refl; entries = λ i. by_test (windowed && in_rows a (6 * n) (6 * n + 6) i) (λ e. rw e) (λ e. rw e) }

pub only_more : (windowed xtrans : Bool) (W : ℕ) (tile lines : List ℕ) (a : Part) (n first A second C : ℕ) (x y z : List ℕ) → OnlyLine windowed a n x y
    → PassEmitted windowed xtrans W tile lines a n first A second C y z → OnlyLine windowed a n x z
only_more windowed xtrans W tile lines a n first A second C x y z only put =
    record {
      kept = put.kept ∙ only.kept;
      entries = λ i. by_test (windowed && in_rows a (6 * n) (6 * n + 6) i) (λ e. rw e) (λ e. put.entries i ∙ rw e (only.entries i ∙ rw e));
    }

-- after all passes the rows of the line show it
pub line_shown : (windowed xtrans : Bool) (W : ℕ) (tile l : List ℕ) (a : Part) (n : ℕ) (x y : List ℕ) → OnlyLine windowed a n x y
    → (windowed ≡ true → (j : ℕ) → in_rows a (6 * n) (6 * n + 6) j ≡ true → Placed 6 (colour_of tile a j) → get_or y j 0 ≡ emitted_sample xtrans W tile l a j)
    → Changed (λ i. windowed && in_rows a (6 * n) (6 * n + 6) i) (emitted_sample xtrans W tile l a) x y
line_shown true xtrans W tile l a n x y only shown =
    record {
      kept = only.kept;
      entries = λ j. by_test (in_rows a (6 * n) (6 * n + 6) j) (λ e. rw e (shown refl j e (placed_all tile a j))) (λ e. only.entries j ∙ rw e);
    }
line_shown false xtrans W tile l a n x y only shown = record { kept = only.kept; entries = only.entries }
