-- `base_plan::counts::is_amiss` meets its contract. Assumes nothing.

use Rattle.base_plan.proofs.counts.is_amiss.Goals as goal

pub returns-then-twice : goal.returns-then-twice
returns-then-twice c = rw c.if-twice.true

pub returns : goal.returns
returns c = rw c.if-twice.false
