-- `stream::row_in` meets its contract, by its test. Assumes nothing.
use borrow.Author.Tests.{lt-ltb, le-ltb}
use mathlib.Core.List.{List}
use mathlib.Core.Path.{◌≡◌}
use Prim.Native.Nat.{ℕ, ◌<◌}
use native.Mathlib.Omega.{arith}
use Rattle.stream.specs.Streams.{row_length, row_start, row_in}
use Rattle.stream.specs.Ranges.{cut}
use Rattle.stream.specs.declared.header.FujiHeader.{FujiHeader}
use Rattle.stream.proofs.row_in.Goals as goal
use Rattle.std.specs.Prelude.{Ok}

ranged : (d : List ℕ) (h : FujiHeader) (b s from n : ℕ) → b < h.blocks → s ≡ row_start h b → from ≡ cut d s → n ≡ row_length h
    → Ok ((record { 0 = from }), n) ≡ row_in d b (Ok h)
ranged d h b s from n l es ef en = rw (lt-ltb b h.blocks l, ef, es, en)

pub returns-then-blocks-b : goal.returns-then-blocks-b
returns-then-blocks-b c = simp (le-ltb _ _ c.if-blocks-b.true)

pub returns : goal.returns
returns c =
    ranged c.args.d.now _ _ _ _ _ c.if-blocks-b.false c.row_start.ensures.0 c.cut-from.ensures c.row_length.ensures.0

pub overflow_cast-blocks : goal.overflow_cast-blocks
overflow_cast-blocks c = omega (arith, c.requires)

pub row_start-requires : goal.row_start-requires
row_start-requires c = omega (arith, c.requires)
