-- `limits::is_size` meets its contract. Assumes nothing.
use mathlib.Core.Path.{refl}
use Rattle.limits.proofs.is_size.Goals as goal

pub returns : goal.returns
returns c = refl
