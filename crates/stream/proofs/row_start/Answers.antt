-- `stream::row_start` meets its contract: of 16 rows at most, each has 2746 bytes at most. Assumes nothing.
use mathlib.Core.Path.{◌≡◌}
use Prim.Native.Nat.{ℕ, ◌+◌, ◌*◌, ◌≤◌}
use native.Mathlib.Nat.{mul-le-mul_right}
use native.Mathlib.Omega.{arith}
use Rattle.stream.specs.declared.header.FujiHeader.{FujiHeader}
use Rattle.stream.specs.Streams.{padded, row_length, row_start}
use Rattle.stream.proofs.row_start.Goals as goal
use Rattle.stream.proofs.row_start.Goals.{After-padded-2}

rows_le : (b n : ℕ) → b ≤ 16 → n ≤ 2746 → b * n ≤ 43936
rows_le b n hb hn = let p : b * n ≤ 16 * n = mul-le-mul_right n hb in omega arith

starts : (h : FujiHeader) (b p n q : ℕ) → p ≡ padded (4 * h.blocks) → n ≡ row_length h → q ≡ padded n → 16 + p + b * q ≡ row_start h b
unfolding row_start
starts h b p n q ep en eq = rw (ep, eq, en)

rows : (c : After-padded-2) → c.args.b * c.padded-2.result ≤ 43936
rows c = rows_le _ _ c.requires.1 (omega
    (arith, c.padded-2.ensures.1, c.row_length.ensures.1, c.requires.0.lines_high))

pub overflow_mul-result : goal.overflow_mul-result
overflow_mul-result c = omega (arith, rows c)

pub overflow_add-result-2 : goal.overflow_add-result-2
overflow_add-result-2 c = omega (arith, rows c)

pub returns : goal.returns
returns c = (
  starts c.args.h _ _ _ _ c.padded.ensures.0 c.row_length.ensures.0 c.padded-2.ensures.0,
  omega
      (arith, rows c),
)

pub overflow_cast-blocks : goal.overflow_cast-blocks
overflow_cast-blocks c = omega (arith, c.requires.0.blocks_high)

pub overflow_mul-blocks : goal.overflow_mul-blocks
overflow_mul-blocks c = omega (arith, c.requires.0.blocks_high)

pub padded-requires : goal.padded-requires
padded-requires c = omega (arith, c.requires.0.blocks_high)

pub overflow_add-result : goal.overflow_add-result
overflow_add-result c = omega (arith, c.padded.ensures.1, c.requires.0.blocks_high)

pub padded-requires-2 : goal.padded-requires-2
padded-requires-2 c = omega (arith, c.row_length.ensures.1, c.requires.0.lines_high)
