-- Rows that are put into the part of an image, and the lines that are made of them. Assumes nothing.
use mathlib.Core.Bool.{Bool, true, false, cond, ◌&&◌}
use mathlib.Core.List.{List}
use mathlib.Core.Path.{◌≡◌, refl, ◌∙◌}
use Prim.Native.Nat.{ℕ, suc, ◌+◌, ◌-◌, ◌*◌, ◌/◌, ◌%◌, ◌≤◌, ◌<◌}
use native.Mathlib.Nat.{div-add-mod', mul-le-mul_right, suc-mul}
use native.Mathlib.Omega.{arith}
use borrow.Author.Tests.{le-leb, lt-ltb, leb-true, ltb-true}
use lib.Arith.{digits_div, digits_mod}
use lib.Dec.{leb, ltb}
use lib.ListN.{length, get_or}
use Rattle.numbers.proofs.OrderLaws.{split}
use Rattle.image_map.specs.Places.{sample_index, Changed}
use Rattle.image_map.specs.Inside.{in_rows, emitted_sample, RowEmitted, Fits}
use Rattle.image_map.specs.Rows.{RowsPut}
use Rattle.image_map.specs.declared.Part.{Part}
use Rattle.image_map.proofs.RowLaws.{inside, outside}

-- ---- tests

and_left : (s t : Bool) → s && t ≡ true → s ≡ true
and_left true t e = refl
and_left false t e = e

and_right : (s t : Bool) → s && t ≡ true → t ≡ true
and_right true t e = e
and_right false t e = absurd (let no : ◌≡◌ {A = ℕ} 0 1 = cc in omega arith)

pub by_test {ℓ} : {X : Type ℓ} (t : Bool) → (t ≡ true → X) → (t ≡ false → X) → X
by_test true f g = f refl
by_test false f g = g refl

pub never : (t : Bool) → t ≡ true → t ≡ false → ⊥
never t e g = let no : ◌≡◌ {A = ℕ} 0 1 = cc in omega arith

-- ---- the entries of some rows

pub record InRows (a : Part) (low high i : ℕ) : Type 0 where
  pub first : low ≤ a.top + i / a.stride
  pub last : a.top + i / a.stride < high
  pub there : a.top + i / a.stride < a.bottom
  pub left : a.start ≤ i % a.stride
  pub right : i % a.stride < a.start + (a.right - a.left)

five : (low row high bottom start column end : ℕ) → leb low row && ltb row high && ltb row bottom && leb start column && ltb column end ≡ true
    → (low ≤ row) × (row < high) × (row < bottom) × (start ≤ column) × (column < end)
five low row high bottom start column end e =
    let t₁ : Bool = leb low row in
    let t₂ : Bool = ltb row high in
    let t₃ : Bool = ltb row bottom in
    let t₄ : Bool = leb start column in
    let t₅ : Bool = ltb column end in
    let e₄ = and_left (t₁ && t₂ && t₃ && t₄) t₅ e in
    let e₃ = and_left (t₁ && t₂ && t₃) t₄ e₄ in
    let e₂ = and_left (t₁ && t₂) t₃ e₃ in (
      leb-true low row (and_left t₁ t₂ e₂),
      ltb-true row high (and_right t₁ t₂ e₂),
      ltb-true row bottom (and_right (t₁ && t₂) t₃ e₃),
      leb-true start column (and_right (t₁ && t₂ && t₃) t₄ e₄),
      ltb-true column end (and_right (t₁ && t₂ && t₃ && t₄) t₅ e),
    )

pub in_rows_lem : (a : Part) (low high i : ℕ) → in_rows a low high i ≡ true → InRows a low high i
unfolding in_rows
in_rows_lem a low high i e =
    let h = five low (a.top + i / a.stride) high a.bottom a.start (i % a.stride) (a.start + (a.right - a.left)) e in
    record { first = h.0; last = h.1; there = h.2; left = h.3; right = h.4 }

pub are_in : (a : Part) (low high i : ℕ) → InRows a low high i → in_rows a low high i ≡ true
unfolding in_rows
are_in a low high i h =
    rw (le-leb _ _ h.first, lt-ltb _ _ h.last, lt-ltb _ _ h.there, le-leb _ _ h.left, lt-ltb _ _ h.right)

pub not_in : (a : Part) (low high i : ℕ) → (InRows a low high i → ⊥) → in_rows a low high i ≡ false
not_in a low high i n = by_test (in_rows a low high i) (λ e. absurd (n (in_rows_lem a low high i e))) (λ e. e)

-- the same entry among other rows
pub moved : (a : Part) (low high low' high' i : ℕ) → InRows a low high i → low' ≤ a.top + i / a.stride → a.top + i / a.stride < high'
    → InRows a low' high' i
moved a low high low' high' i h l k = record { first = l; last = k; there = h.there; left = h.left; right = h.right }

-- ---- rows that are put into the image

-- no entry of these rows is of the part
pub put_none : (sample : ℕ → ℕ) (a : Part) (low high : ℕ) (image : List ℕ) → ((i : ℕ) → InRows a low high i → ⊥) → RowsPut sample a low high image image
put_none sample a low high image n = record { kept = refl; entries = λ i. rw (not_in a low high i (n i)) }

-- the same samples, named otherwise
pub put_same : (f g : ℕ → ℕ) (a : Part) (low high : ℕ) (x y : List ℕ) → ((i : ℕ) → InRows a low high i → f i ≡ g i) → RowsPut f a low high x y
    → RowsPut g a low high x y
put_same f g a low high x y s p =
    record {
      kept = p.kept;
      entries =
          λ i. p.entries i ∙ by_test (in_rows a low high i)
          (λ e. rw e (s i (in_rows_lem a low high i e)))
          (λ e. rw e);
    }

-- rows up to mid, and from mid on
module _ (sample : ℕ → ℕ) (a : Part) (low mid high : ℕ) (x y z : List ℕ) (hl : low ≤ mid) (hh : mid ≤ high) (p : RowsPut sample a low mid x y)
    (q : RowsPut sample a mid high y z) where
  join_in : (i : ℕ) → InRows a low high i → cond (in_rows a mid high i) (sample i) (get_or y i 0) ≡ sample i
  join_in i h =
      split mid (a.top + i / a.stride)
      (λ k. rw (are_in a mid high i (moved a low high mid high i h k h.last)))
      (λ k. rw (not_in a mid high i (λ n. omega (arith, n.first)), p.entries i, are_in a low mid i (moved a low high low mid i h h.first k)))

  join_out : (i : ℕ) → (InRows a low high i → ⊥) → cond (in_rows a mid high i) (sample i) (get_or y i 0) ≡ get_or x i 0
  join_out i n =
      let m = not_in a mid high i (λ h. n (moved a mid high low high i h (omega (arith, h.first)) h.last)) in
      let l = not_in a low mid i (λ h. n (moved a low mid low high i h h.first (omega (arith, h.last)))) in
      rw (m, p.entries i, l)

  pub put_join : RowsPut sample a low high x z
  put_join =
      record {
        kept = q.kept ∙ p.kept;
        entries =
            λ i. q.entries i ∙ by_test (in_rows a low high i)
            (λ e. rw e (join_in i (in_rows_lem a low high i e)))
            (λ e. rw e (join_out i (λ h. never _ (are_in a low high i h) e)));
      }

-- ---- one row

digits : (q m x i : ℕ) → i ≡ q * m + x → x < m → (i / m ≡ q) × (i % m ≡ x)
digits q m x i e h = (rw e (digits_div q h), rw e (digits_mod q h))

pub fits_kept : (a : Part) (x y : List ℕ) → length y ≡ length x → Fits a x → Fits a y
fits_kept a x y e f = record { order = f.order; columns = f.columns; inside = f.inside; rows = rw e f.rows }

-- a part's row ends inside the image
pub row_inside : (a : Part) (image : List ℕ) (row : ℕ) → Fits a image → a.top ≤ row → row < a.bottom
    → (row - a.top) * a.stride + a.start + (a.right - a.left) ≤ length image
row_inside a image row f h k =
    let q : ℕ = row - a.top in
    let m : suc q * a.stride ≤ (a.bottom - a.top) * a.stride = mul-le-mul_right a.stride (omega arith) in
    omega (arith, f.rows, f.inside, rw suc-mul at m)

module _ (a : Part) (row i : ℕ) where
  abbrev base : ℕ
  base = (row - a.top) * a.stride

  pub row_entry : InRows a row (row + 1) i → base + i % a.stride ≡ i
  row_entry h =
      let e : i / a.stride ≡ row - a.top = omega (arith, h.first, h.last) in
      rw e at (div-add-mod' i a.stride)

  pub entry_row : a.start + (a.right - a.left) ≤ a.stride → a.top ≤ row → row < a.bottom → base + a.start ≤ i
      → i < base + a.start + (a.right - a.left)
      → InRows a row (row + 1) i
  entry_row f h k l u =
      let d = digits (row - a.top) a.stride (i - base) i (omega arith) (omega arith) in
      record { first = omega arith; last = omega arith; there = omega arith; left = omega arith; right = omega arith }

-- a row of the part, by its entries one after the other
module _ (a : Part) (row : ℕ) (image : List ℕ) (f : Fits a image) (h : a.top ≤ row) (k : row < a.bottom) where
  abbrev pub row_start : ℕ
  row_start = (row - a.top) * a.stride + a.start

  pub put_span : (s t : ℕ → ℕ) (x y : List ℕ) → ((i : ℕ) → InRows a row (row + 1) i → s i ≡ t i)
      → Changed (λ i. leb row_start i && ltb i (row_start + (a.right - a.left))) s x y → RowsPut t a row (row + 1) x y
  put_span s t x y same p =
      record {
        kept = p.kept;
        entries = λ i. p.entries i ∙ by_test (in_rows a row (row + 1) i) (λ e. rw e (yes i (in_rows_lem a row (row + 1) i e))) (λ e. rw e (no i (λ g. never _ (are_in a row (row + 1) i g) e)));
      }
    where
      yes : (i : ℕ) → InRows a row (row + 1) i → cond (leb row_start i && ltb i (row_start + (a.right - a.left))) (s i) (get_or x i 0) ≡ t i
      yes i g =
          let e = row_entry a row i g in
          rw (inside row_start (a.right - a.left) i (omega (arith, g.left)) (omega (arith, g.right))) (same i g)

      no : (i : ℕ) → (InRows a row (row + 1) i → ⊥) → cond (leb row_start i && ltb i (row_start + (a.right - a.left))) (s i) (get_or x i 0) ≡ get_or x i 0
      no i g = rw (outside row_start (a.right - a.left) i (λ l u. g (entry_row a row i f.inside h k l u)))

module _ (xtrans : Bool) (W : ℕ) (tile lines : List ℕ) (a : Part) (n r : ℕ) (hr : r < 6) where
  abbrev row : ℕ
  row = 6 * n + r

  abbrev at : ℕ
  at = (row - a.top) * a.stride + a.start

  sample_is : (i : ℕ) → InRows a row (row + 1) i → get_or lines (sample_index xtrans W tile r (a.left + (i - at))) 0 ≡ emitted_sample xtrans W tile lines a i
  unfolding emitted_sample
  sample_is i h =
      let e : (a.top + i / a.stride) % 6 ≡ r = omega (arith, h.first, h.last) in
      let c : i - at ≡ i % a.stride - a.start = omega (arith, row_entry a row i h) in
      rw (e, c)

  pub put_row : (image x y : List ℕ) → Fits a image → a.top ≤ row → row < a.bottom → RowEmitted xtrans W tile lines r a.left a.right at x y
      → RowsPut (emitted_sample xtrans W tile lines a) a row (row + 1) x y
  put_row image x y f h k p = put_span a row image f h k _ _ x y sample_is p
