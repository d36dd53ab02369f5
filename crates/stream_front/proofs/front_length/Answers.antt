-- `stream_front::front_length` meets its contract. Assumes nothing.
use native.Mathlib.Omega.{arith}
use Rattle.stream_front.proofs.front_length.Goals as goal

pub row_start-requires : goal.row_start-requires
row_start-requires c = (c.requires, omega (arith, c.requires.blocks_high))

pub returns : goal.returns
returns c = c.row_start.ensures
