-- `pass_schedule::has_code` meets its contract: an arm for each rule. Assumes nothing.
use Rattle.pass_schedule.specs.Steps.{interpolated}
use Rattle.pass_schedule.proofs.has_code.Goals as goal

pub returns-in-Nowhere : goal.returns-in-Nowhere
unfolding interpolated
returns-in-Nowhere c = rw c.in-Nowhere.is

pub returns-in-At0Mod4 : goal.returns-in-At0Mod4
unfolding interpolated
returns-in-At0Mod4 c = rw c.in-At0Mod4.is

pub returns-in-At2Mod4 : goal.returns-in-At2Mod4
unfolding interpolated
returns-in-At2Mod4 c = rw c.in-At2Mod4.is

pub returns-in-Everywhere : goal.returns-in-Everywhere
unfolding interpolated
returns-in-Everywhere c = rw c.in-Everywhere.is
