-- `pass_schedule::is_interpolated` meets its contract. Assumes nothing.
use mathlib.Core.Path.{refl}
use Rattle.pass_schedule.specs.Steps.{is_interpolated}
use Rattle.pass_schedule.proofs.is_interpolated.Goals as goal

pub returns : goal.returns
unfolding is_interpolated
returns c = refl
