-- `read_set::set_begins` meets its contract. Assumes nothing.
use Rattle.read_set.proofs.PutLaws.{begins_no_block, begins_wrong, begins_refused, begins_on}
use Rattle.numbers.proofs.PassedLaws.{passed_on}
use Rattle.read_set.proofs.set_begins.Goals as goal

pub returns-then-h-b : goal.returns-then-h-b
returns-then-h-b c = begins_no_block _ _ _ _ _ _ c.open.ensures _ c.in_ok-h.was c.if-h-b.true

pub returns-then-count-set_size : goal.returns-then-count-set_size
returns-then-count-set_size c =
    begins_wrong _ _ _ _ _ _ c.open.ensures _ c.in_ok-h.was _ c.set_size.ensures c.if-h-b.false c.if-count-set_size.true

pub returns-in_err-h : goal.returns-in_err-h
returns-in_err-h c = rw (passed_on _ _ c.from_residual.ensures) (begins_refused _ _ _ _ _ _ c.open.ensures _ c.in_err-h.was)

pub returns : goal.returns
returns c =
    begins_on _ _ _ _ _ _ c.open.ensures _ c.in_ok-h.was _ _ c.set_size.ensures c.if-h-b.false
    c.if-count-set_size.false c.with_scratch.ensures
