-- `pass_schedule::plan_at` meets its contract: the table is the list of the passes. Assumes nothing.
use Rattle.pass_schedule.specs.Steps.{plan_of}
use Rattle.pass_schedule.proofs.plan_at.Goals as goal

pub returns-then-xtrans : goal.returns-then-xtrans
unfolding plan_of
returns-then-xtrans c = rw c.if-xtrans.true

pub returns : goal.returns
unfolding plan_of
returns c = rw c.if-xtrans.false
