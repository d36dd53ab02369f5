-- The samples of a line lie inside the colour lines. Assumes nothing.
use mathlib.Core.Bool.{Bool, true, false, not}
use mathlib.Core.List.{List}
use Prim.Native.Nat.{ℕ, ◌+◌, ◌*◌, ◌%◌, ◌≤◌, ◌<◌}
use native.Mathlib.Nat.{mul-le-mul_right}
use native.Mathlib.Omega.{arith}
use lib.Dec.{eqb, lit≤}
use Rattle.numbers.proofs.OrderLaws.{cond_le}
use Rattle.image_map.specs.Places.{xtrans_place, place_in, width_of, colour_line, tile_at, sample_index}

pub xtrans_place_lt : (p : ℕ) → p < 768 → xtrans_place p < 512
unfolding xtrans_place
xtrans_place_lt p h = omega (arith, cond_le 1 (not (eqb (p % 3) 0)) 1 0 (lit≤ tt) (lit≤ tt))

-- the place of a column is one of the line's samples
pub place_lt : (xtrans : Bool) (p : ℕ) → p < 768 → place_in xtrans p < width_of xtrans
unfolding place_in
place_lt true p h = xtrans_place_lt p h
place_lt false p h = omega arith

pub width_le : (xtrans : Bool) → width_of xtrans ≤ 512
width_le xtrans = cond_le 512 xtrans 512 384 (lit≤ tt) (lit≤ tt)

-- the colour line of a row is one of the 18
pub line_le : (t r : ℕ) → r < 6 → colour_line t r ≤ 17
unfolding colour_line
line_le t r h = cond_le 17 (eqb t 0) _ _ (omega arith) (cond_le 17 (eqb t 2) _ _ (omega arith) (omega arith))

-- and it ends inside the colour lines
pub line_inside : (W t r : ℕ) → r < 6 → colour_line t r * (W + 2) + 1 + W ≤ 18 * (W + 2)
line_inside W t r h = omega (arith, mul-le-mul_right (W + 2) (line_le t r h))

-- a sample stands inside the colour lines
pub sample_inside : (xtrans : Bool) (tile : List ℕ) (r p : ℕ) → r < 6 → p < 768 → sample_index xtrans (width_of xtrans) tile r p < 18 * (width_of xtrans + 2)
unfolding sample_index
sample_inside xtrans tile r p hr hp =
    omega (arith, place_lt xtrans p hp, mul-le-mul_right (width_of xtrans + 2) (line_le (tile_at tile r p) r hr))
