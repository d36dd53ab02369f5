-- `limits::is_past_end` meets its contract. Assumes nothing.
use mathlib.Core.Path.{refl}
use Rattle.limits.proofs.is_past_end.Goals as goal

pub returns : goal.returns
returns c = refl
