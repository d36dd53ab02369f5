-- `limits::is_flat` meets its contract. Assumes nothing.
use mathlib.Core.Path.{refl}
use Rattle.limits.proofs.is_flat.Goals as goal

pub returns : goal.returns
returns c = refl
