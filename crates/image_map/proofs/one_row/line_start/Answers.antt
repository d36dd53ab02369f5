-- `image_map::one_row::line_start` meets its contract. Assumes nothing.
use Prim.Native.Nat.{ℕ, ◌*◌, ◌≤◌}
use native.Mathlib.Nat.{mul-le-mul}
use native.Mathlib.Omega.{arith}
use Rattle.image_map.proofs.one_row.line_start.Goals as goal

small : (l s : ℕ) → l ≤ 17 → s ≤ 514 → l * s ≤ 8738
small l s hl hs = mul-le-mul hl hs

pub overflow_mul-result : goal.overflow_mul-result
overflow_mul-result c = omega (arith, small _ _ c.colour_line.ensures.1 c.requires.1)

pub overflow_add-result : goal.overflow_add-result
overflow_add-result c = omega (arith, small _ _ c.colour_line.ensures.1 c.requires.1)

pub returns : goal.returns
returns c = rw c.colour_line.ensures.0

pub colour_line-requires : goal.colour_line-requires
colour_line-requires c = omega (arith, c.requires)
