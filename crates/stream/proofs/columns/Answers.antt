-- `stream::columns` meets its contract, by its test. Assumes nothing.
use borrow.Author.Tests.{lt-ltb, le-ltb}
use mathlib.Core.Path.{◌≡◌}
use Prim.Native.Nat.{ℕ, ◌<◌}
use native.Mathlib.Omega.{arith}
use Rattle.stream.specs.Headers.{columns_of, width_answer}
use Rattle.stream.specs.declared.header.FujiHeader.{FujiHeader}
use Rattle.stream.proofs.columns.Goals as goal
use Rattle.std.specs.Prelude.{Ok}

there : (h : FujiHeader) (i n : ℕ) → i < h.blocks → n ≡ columns_of h i → Ok n ≡ width_answer (Ok h) i
there h i n l e = rw (lt-ltb i h.blocks l, e)

pub returns-then-blocks-i : goal.returns-then-blocks-i
returns-then-blocks-i c = simp (le-ltb _ _ c.if-blocks-i.true)

pub returns : goal.returns
returns c = there c.args.h _ _ c.if-blocks-i.false c.block_columns.ensures

pub block_columns-requires : goal.block_columns-requires
block_columns-requires c = omega (arith, c.requires)
