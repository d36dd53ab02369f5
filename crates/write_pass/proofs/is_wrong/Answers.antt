-- `write_pass::is_wrong` meets its contract. Assumes nothing.

use Rattle.write_pass.proofs.is_wrong.Goals as goal

pub returns-then-strict : goal.returns-then-strict
returns-then-strict c = rw c.if-strict.true

pub returns : goal.returns
returns c = rw c.if-strict.false
