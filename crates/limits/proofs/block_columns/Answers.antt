-- `limits::block_columns` meets its contract, by its test. Assumes nothing.
use borrow.Author.Tests.{eq-eqb, ne_eqb}
use Rattle.limits.proofs.block_columns.Goals as goal

pub returns-then-i-blocks : goal.returns-then-i-blocks
returns-then-i-blocks c = simp (eq-eqb _ _ c.if-i-blocks.true)

pub returns : goal.returns
returns c = simp (ne_eqb _ _ c.if-i-blocks.false)
