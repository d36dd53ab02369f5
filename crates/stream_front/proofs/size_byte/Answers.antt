-- `stream_front::size_byte` meets its contract. Assumes nothing.
use borrow.Author.Tests.{eq-eqb, ne_eqb}
use Rattle.stream_front.specs.Fronts.{size_byte}
use Rattle.stream_front.proofs.size_byte.Goals as goal

pub returns-then-j-eq0 : goal.returns-then-j-eq0
unfolding size_byte
returns-then-j-eq0 c = rw (eq-eqb _ 0 c.if-j-eq0.true)

pub returns-then-j-eq1 : goal.returns-then-j-eq1
unfolding size_byte
returns-then-j-eq1 c = rw (ne_eqb _ 0 c.if-j-eq0.false, eq-eqb _ 1 c.if-j-eq1.true)

pub returns-then-j-eq2 : goal.returns-then-j-eq2
unfolding size_byte
returns-then-j-eq2 c = rw (ne_eqb _ 0 c.if-j-eq0.false, ne_eqb _ 1 c.if-j-eq1.false, eq-eqb _ 2 c.if-j-eq2.true)

pub returns : goal.returns
unfolding size_byte
returns c = rw (ne_eqb _ 0 c.if-j-eq0.false, ne_eqb _ 1 c.if-j-eq1.false, ne_eqb _ 2 c.if-j-eq2.false)
