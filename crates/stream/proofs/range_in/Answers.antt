-- `stream::range_in` meets its contract, by its test. Assumes nothing.
use borrow.Author.Tests.{lt-ltb, le-ltb}
use mathlib.Core.List.{List}
use mathlib.Core.Path.{◌≡◌}
use Prim.Native.Nat.{ℕ, ◌^◌, ◌<◌}
use native.Mathlib.Omega.{arith}
use Rattle.stream.specs.declared.header.FujiHeader.{FujiHeader}
use Rattle.stream.specs.Inside.{cut_range}
use Rattle.stream.specs.Ranges.{Short}
use Rattle.stream.specs.Streams.{size_of, block_start, range_in}
use Rattle.stream.proofs.range_in.Goals as goal
use Rattle.std.specs.Prelude.{Ok, Result}
use Rattle.bits.specs.declared.ByteOffset.{ByteOffset}
use Rattle.stream.specs.declared.header.Refusal.{Refusal}

ranged : (d : List ℕ) (h : FujiHeader) (b start size : ℕ) (r : Result (ByteOffset × ℕ) Refusal) → b < h.blocks → start ≡ block_start d h b → size ≡ size_of d b
    → r ≡ cut_range d start size → r ≡ range_in d b (Ok h)
ranged d h b start size r l e s f = rw (lt-ltb b h.blocks l, f, s, e)

-- it is no longer than the block's size
short : (d : List ℕ) (start size : ℕ) (r : Result (ByteOffset × ℕ) Refusal) → r ≡ cut_range d start size → size < 2 ^ 32 → Short r
short d start size r e l = rw e (omega arith)

pub returns-then-blocks-b : goal.returns-then-blocks-b
returns-then-blocks-b c = (simp (le-ltb _ _ c.if-blocks-b.true), tt)

pub returns : goal.returns
returns c = (
  ranged c.args.d.now c.args.h c.args.b _ _ _ c.if-blocks-b.false c.block_start-start.ensures.0 c.size_of-size.ensures.0 c.cut_range.ensures,
  short c.args.d.now _ _ _ c.cut_range.ensures c.size_of-size.ensures.1,
)

pub overflow_cast-blocks : goal.overflow_cast-blocks
overflow_cast-blocks c = omega (arith, c.requires)

pub block_start-start-requires : goal.block_start-start-requires
block_start-start-requires c = (c.requires, omega arith)

pub size_of-size-requires : goal.size_of-size-requires
size_of-size-requires c = omega (arith, c.requires)

pub cut_range-requires : goal.cut_range-requires
cut_range-requires c = omega (arith, c.block_start-start.ensures, c.size_of-size.ensures)
