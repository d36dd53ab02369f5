-- `code::is_tight` meets its contract. Assumes nothing.
use Rattle.std.proofs.Common.{refl}
use Rattle.code.specs.Tight.{is_tight}
use Rattle.code.proofs.is_tight.Goals as goal

pub returns : goal.returns
unfolding is_tight
returns c = refl
