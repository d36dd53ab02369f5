-- `limits::ends_past` meets its contract. Assumes nothing.
use mathlib.Core.Path.{refl}
use Rattle.limits.proofs.ends_past.Goals as goal

pub returns : goal.returns
returns c = refl
