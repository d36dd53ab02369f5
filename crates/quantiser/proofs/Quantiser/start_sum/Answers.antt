-- `quantiser::Quantiser::start_sum` meets its contract. Assumes nothing.
use native.Mathlib.Omega.{arith}
use Rattle.quantiser.specs.Quantisers.{start_sum}
use Rattle.quantiser.proofs.Quantiser.start_sum.Goals as goal

pub returns : goal.returns
unfolding start_sum
returns c = (omega (arith, c.max.ensures), omega (arith, c.max.ensures, c.requires))
