-- A colour line that goes to the image cell by cell of the tile. Assumes nothing.
use mathlib.Core.Bool.{Bool, true, false, cond, ◌&&◌, ◌||◌}
use mathlib.Core.List.{List}
use mathlib.Core.Logic.{◌≢◌}
use mathlib.Core.Path.{◌≡◌, refl, sym, ◌∙◌}
use Prim.Native.Nat.{ℕ, ◌+◌, ◌-◌, ◌*◌, ◌/◌, ◌%◌, ◌≤◌, ◌<◌}
use native.Mathlib.Omega.{arith}
use borrow.Author.Tests.{le-leb, lt-ltb, leb-true, ltb-true, eq-eqb, eqb-true}
use lib.Dec.{leb, ltb, eqb}
use lib.ListN.{length, get_or, set, length-set}
use lib.Seq.{get_or-set_same, get_or-set_other}
use Rattle.numbers.proofs.BoolLaws.{both}
use Rattle.image_map.specs.Places.{colour_line, sample_index, Changed}
use Rattle.image_map.specs.Inside.{picture_row, in_rows, emitted_sample, Fits}
use Rattle.image_map.specs.Windows.{block_column, cell_of, colour_of, window_sample, ColumnEmitted, CellEmitted, CellsEmitted, ColourEmitted, PassEmitted}
use Rattle.image_map.specs.declared.Part.{Part}
use Rattle.image_map.proofs.ChangeLaws.{changed_as, changed_none}
use Rattle.image_map.proofs.PartLaws.{InRows, in_rows_lem, are_in, moved, by_test, never, row_entry, entry_row, row_start}

-- ---- the columns of a row that stand in one column of the tile

abbrev in_column : (at n left c i : ℕ) → Bool
in_column at n left c i = leb at i && ltb i (at + n) && eqb ((left + (i - at)) % 6) c

record InColumn (at n left c i : ℕ) : Type 0 where
  from : at ≤ i
  end : i < at + n
  column : (left + (i - at)) % 6 ≡ c

column_in : (at n left c i : ℕ) → InColumn at n left c i → in_column at n left c i ≡ true
column_in at n left c i h = rw (le-leb at i h.from, lt-ltb i (at + n) h.end, eq-eqb _ _ h.column)

in_column_lem : (at n left c i : ℕ) → in_column at n left c i ≡ true → InColumn at n left c i
in_column_lem at n left c i e =
    let p = both (leb at i && ltb i (at + n)) (eqb ((left + (i - at)) % 6) c) e in
    let q = both (leb at i) (ltb i (at + n)) p.0 in
    record { from = leb-true _ _ q.0; end = ltb-true _ _ q.1; column = eqb-true _ _ p.1 }

-- before the first of them none is stored
pub columns_none : (f : ℕ → ℕ) (at p left c : ℕ) (image : List ℕ) → p % 6 ≡ c → left ≤ p → p < left + 6 → Changed (in_column at (p - left) left c) f image image
columns_none f at p left c image e low high =
    changed_none _ f image (λ i t. let h = in_column_lem at (p - left) left c i t in omega (arith, h.from, h.end, h.column))

-- one more
module _ (f : ℕ → ℕ) (at p left c v : ℕ) (x y : List ℕ) (e : p % 6 ≡ c) (low : left ≤ p) (room : at + (p - left) < length x) (ev : v ≡ f (at + (p - left)))
    (C : Changed (in_column at (p - left) left c) f x y) where
  same_test : (i : ℕ) → i ≢ at + (p - left) → in_column at (p - left) left c i ≡ in_column at (p + 6 - left) left c i
  same_test i ne =
      by_test (in_column at (p - left) left c i)
      (λ t. let h = in_column_lem at (p - left) left c i t in t ∙ sym (column_in at (p + 6 - left) left c i
      (record { from = h.from; end = omega (arith, h.end); column = h.column })))
      (λ t. by_test (in_column at (p + 6 - left) left c i)
      (λ u.
      let h = in_column_lem at (p + 6 - left) left c i u in
      absurd (never _ (column_in at (p - left) left c i (record {
        from = h.from;
        end = omega (arith, h.from, h.end, h.column, ne);
        column = h.column;
      })) t))
      (λ u. t ∙ sym u))

  here : in_column at (p + 6 - left) left c (at + (p - left)) ≡ true
  here =
      let q : left + (at + (p - left) - at) ≡ p = omega (arith, low) in
      column_in at (p + 6 - left) left c (at + (p - left)) (record { from = omega arith; end = omega (arith, low); column = rw q e })

  pub columns_more : Changed (in_column at (p + 6 - left) left c) f x (set y (at + (p - left)) v)
  columns_more =
      record {
        kept = length-set y (at + (p - left)) v ∙ C.kept;
        entries =
            λ i. by_test (eqb i (at + (p - left)))
            (λ t.
            let is = eqb-true i (at + (p - left)) t in
            rw (is, here) (get_or-set_same y (at + (p - left)) v 0 (rw C.kept room) ∙ ev))
            (λ t.
            let ne : i ≢ at + (p - left) = λ m. never _ (eq-eqb i (at + (p - left)) m) t in
            get_or-set_other y (at + (p - left)) i v 0 ne ∙ C.entries i ∙ rw (same_test i ne));
      }

-- past the last of them all are stored
pub columns_all : (f : ℕ → ℕ) (at p left right c : ℕ) (x y : List ℕ) → p % 6 ≡ c → left ≤ p → right ≤ p → p < right + 6
    → Changed (in_column at (p - left) left c) f x y → Changed (in_column at (right - left) left c) f x y
columns_all f at p left right c x y e low high near C =
    changed_as _ _ f f x y
    (λ i t.
    let h = in_column_lem at (p - left) left c i t in
    (column_in at (right - left) left c i (record { from = h.from; end = omega (arith, h.from, h.end, h.column); column = h.column }), refl))
    (λ i t.
    let h = in_column_lem at (right - left) left c i t in
    column_in at (p - left) left c i (record { from = h.from; end = omega (arith, h.end); column = h.column }))
    C

-- ---- a cell of the tile

cell_digits : (R C n k : ℕ) → 6 * n ≤ R → R < 6 * n + 6 → 6 * (R % 6) + C % 6 ≡ k → (R ≡ 6 * n + k / 6) × (R % 6 ≡ k / 6) × (C % 6 ≡ k % 6)
cell_digits R C n k low high e = (omega arith, omega arith, omega arith)

digits_cell : (R C n k : ℕ) → k < 36 → R ≡ 6 * n + k / 6 → C % 6 ≡ k % 6 → (R % 6 ≡ k / 6) × (6 * (R % 6) + C % 6 ≡ k)
digits_cell R C n k h er ec = (omega arith, omega arith)

module _ (tile : List ℕ) (a : Part) (n k l : ℕ) where
  abbrev cell_test : ℕ → Bool
  cell_test i = in_rows a (6 * n) (6 * n + 6) i && eqb (cell_of a i) k && eqb (colour_of tile a i) l

  pub record InCell (i : ℕ) : Type 0 where
    pub rows : InRows a (6 * n) (6 * n + 6) i
    pub row : picture_row a i ≡ 6 * n + k / 6
    pub column : block_column a i % 6 ≡ k % 6
    pub shown : colour_line (get_or tile k 0) (k / 6) ≡ l

  pub in_cell : (i : ℕ) → cell_test i ≡ true → InCell i
  unfolding cell_of colour_of
  in_cell i e =
      let p = both (in_rows a (6 * n) (6 * n + 6) i && eqb (cell_of a i) k) (eqb (colour_of tile a i) l) e in
      let q = both (in_rows a (6 * n) (6 * n + 6) i) (eqb (cell_of a i) k) p.0 in
      let r = in_rows_lem a (6 * n) (6 * n + 6) i q.0 in
      let c : 6 * (picture_row a i % 6) + block_column a i % 6 ≡ k = eqb-true _ _ q.1 in
      let d = cell_digits (picture_row a i) (block_column a i) n k r.first r.last c in
      record { rows = r; row = d.0; column = d.2; shown = rw (c, d.1) at (eqb-true (colour_of tile a i) l p.1) }

  pub cell_in : (i : ℕ) → k < 36 → InCell i → cell_test i ≡ true
  unfolding cell_of colour_of
  cell_in i h m =
      let d = digits_cell (picture_row a i) (block_column a i) n k h m.row m.column in
      rw (are_in a (6 * n) (6 * n + 6) i m.rows, eq-eqb _ _ d.1) (rw (d.1, d.0) (eq-eqb _ _ m.shown))

  -- the columns that were stored are those of the cell
  module _ (xtrans : Bool) (W : ℕ) (lines : List ℕ) (slot : ℕ) (image x y : List ℕ) (h : k < 36) (f : Fits a image) (top : a.top ≤ 6 * n + k / 6)
      (bottom : 6 * n + k / 6 < a.bottom)
      (shown : colour_line (get_or tile k 0) (k / 6) ≡ l) where
    abbrev row : ℕ
    row = 6 * n + k / 6

    abbrev at : ℕ
    at = row_start a row image f top bottom

    column_is : (i : ℕ) → InRows a row (row + 1) i → a.left + (i - at) ≡ block_column a i
    column_is i g = let e = row_entry a row i g in omega (arith, g.left)

    to_cell : (i : ℕ) → InColumn at (a.right - a.left) a.left (k % 6) i → InRows a row (row + 1) i × InCell i
    to_cell i c =
        let g = entry_row a row i f.inside top bottom c.from c.end in
        let e = column_is i g in
        let low : 6 * n ≤ picture_row a i = omega (arith, g.first) in
        let high : picture_row a i < 6 * n + 6 = omega (arith, g.last, h) in (
          g,
          record {
            rows = moved a row (row + 1) (6 * n) (6 * n + 6) i g low high;
            row = omega (arith, g.first, g.last);
            column = rw (← e) c.column;
            shown = shown;
          },
        )

    of_cell : (i : ℕ) → InCell i → InColumn at (a.right - a.left) a.left (k % 6) i
    of_cell i m =
        let g = moved a (6 * n) (6 * n + 6) row (row + 1) i m.rows (omega (arith, m.row)) (omega (arith, m.row)) in
        let e = row_entry a row i g in
        let c = column_is i g in
        record { from = omega (arith, g.left); end = omega (arith, g.right); column = rw c m.column }

    pub put_cell : ColumnEmitted xtrans lines (slot * (W + 2) + 1) (k % 6) a.left a.right at x y → CellEmitted xtrans W tile lines a n k l slot x y
    unfolding window_sample
    put_cell c =
        changed_as _ _ _ _ x y
        (λ i t.
        let m = to_cell i (in_column_lem at (a.right - a.left) a.left (k % 6) i t) in
        (cell_in i h m.1, rw (column_is i m.0)))
        (λ i t. column_in at (a.right - a.left) a.left (k % 6) i (of_cell i (in_cell i t)))
        c

-- ---- one cell after the other

module _ (xtrans : Bool) (W : ℕ) (tile lines : List ℕ) (a : Part) (n l slot : ℕ) where
  cell_small : (i : ℕ) → cell_of a i < 36
  unfolding cell_of
  cell_small i = omega arith

  and_true : (p q t : Bool) → t ≡ true → (p && t && q) ≡ (p && q)
  and_true true q t e = rw e
  and_true false q t e = refl

  pub cells_all : (x y : List ℕ) → CellsEmitted xtrans W tile lines a n 36 l slot x y → ColourEmitted xtrans W tile lines a n l slot x y
  cells_all x y c =
      record {
        kept = c.kept;
        entries = λ i. c.entries i ∙ rw (and_true (in_rows a (6 * n) (6 * n + 6) i) (eqb (colour_of tile a i) l) (ltb (cell_of a i) 36)
            (lt-ltb _ _ (cell_small i)));
      }

-- ---- the two lines of a pass

two : (p s t : Bool) (f : ℕ → ℕ) (x y z : ℕ) → cond (p && t) (f y) (cond (p && s) (f x) z) ≡ cond (true && p && (s || t)) (f (cond t y x)) z
two true true true f x y z = refl
two true true false f x y z = refl
two true false true f x y z = refl
two true false false f x y z = refl
two false s t f x y z = refl

pub pass_put : (xtrans : Bool) (W : ℕ) (tile lines : List ℕ) (a : Part) (n first first_slot second second_slot : ℕ) (x y z : List ℕ)
    → ColourEmitted xtrans W tile lines a n first first_slot x y → ColourEmitted xtrans W tile lines a n second second_slot y z
    → PassEmitted true xtrans W tile lines a n first first_slot second second_slot x z
pass_put xtrans W tile lines a n first first_slot second second_slot x y z c d =
    record {
      kept = d.kept ∙ c.kept;
      entries =
          λ i. d.entries i
          ∙ rw (c.entries i)
          (two (in_rows a (6 * n) (6 * n + 6) i) (eqb (colour_of tile a i) first) (eqb (colour_of tile a i) second)
          (λ s. window_sample xtrans W lines a s i) first_slot second_slot _);
    }

-- ---- what an entry shows

-- the sample of an entry is that of its colour line
pub sample_of_colour : (xtrans : Bool) (W : ℕ) (tile lines : List ℕ) (a : Part) (i : ℕ)
    → emitted_sample xtrans W tile lines a i ≡ window_sample xtrans W lines a (colour_of tile a i) i
unfolding emitted_sample sample_index window_sample colour_of cell_of
sample_of_colour xtrans W tile lines a i = refl
