-- `code::samples::residual_size` meets its contract, for even and odd codes alike. Assumes nothing.
use Rattle.std.proofs.Common.{rules}
use Rattle.code.proofs.SampleLaws.{residual_size}
use Rattle.code.proofs.samples.residual_size.Goals as goal

pub returns : goal.returns
returns c = (residual_size _, search rules)
