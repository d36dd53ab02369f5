-- `limits::is_allowed` meets its contract. Assumes nothing.
use mathlib.Core.Path.{refl}
use Rattle.limits.proofs.is_allowed.Goals as goal

pub returns : goal.returns
returns c = refl
