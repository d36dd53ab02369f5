-- `read_block::reading::is_restarted` meets its contract. Assumes nothing.
use borrow.Author.Tests.{eq-eqb, ne_eqb}
use Rattle.read_block.proofs.reading.is_restarted.Goals as goal

pub returns-then-n-eq0 : goal.returns-then-n-eq0
returns-then-n-eq0 c = simp (eq-eqb _ _ c.if-n-eq0.true)

pub returns : goal.returns
returns c = simp (ne_eqb _ _ c.if-n-eq0.false, c.base_of.ensures.0, c.base_of-2.ensures.0)
