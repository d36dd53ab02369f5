-- `tight_diagnosis::trace::even_due` meets its contract. Assumes nothing.
use borrow.Author.Tests.{lt-ltb, le-ltb}
use Rattle.tight_diagnosis.proofs.trace.even_due.Goals as goal

pub returns-then-w-p : goal.returns-then-w-p
returns-then-w-p c = rw (le-ltb c.args.p c.args.w c.if-w-p.true)

pub returns : goal.returns
returns c = rw (lt-ltb c.args.p c.args.w c.if-w-p.false, c.has_code.ensures)
