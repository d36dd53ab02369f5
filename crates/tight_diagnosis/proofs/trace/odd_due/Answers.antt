-- `tight_diagnosis::trace::odd_due` meets its contract. Assumes nothing.
use borrow.Author.Tests.{le-leb, lt-leb}
use Rattle.tight_diagnosis.proofs.trace.odd_due.Goals as goal

pub returns-then-p-lt8 : goal.returns-then-p-lt8
returns-then-p-lt8 c = rw (lt-leb 8 c.args.p c.if-p-lt8.true)

pub returns : goal.returns
returns c = rw (le-leb 8 c.args.p c.if-p-lt8.false)
