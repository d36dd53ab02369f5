-- `limits::is_stopped` meets its contract. Assumes nothing.
use mathlib.Core.Path.{refl}
use Rattle.limits.proofs.is_stopped.Goals as goal

pub returns : goal.returns
returns c = refl
