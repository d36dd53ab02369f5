-- `limits::is_no_record` meets its contract. Assumes nothing.
use mathlib.Core.Path.{refl}
use Rattle.limits.proofs.is_no_record.Goals as goal

pub returns : goal.returns
returns c = refl
