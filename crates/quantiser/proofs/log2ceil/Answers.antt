-- `quantiser::log2ceil` meets its contract, by the length of v - 1 in binary. Assumes nothing.
use native.Mathlib.Omega.{arith}
use Rattle.quantiser.proofs.QuantiserLaws.{log2_is, log2_le}
use Rattle.quantiser.proofs.log2ceil.Goals as goal

pub returns : goal.returns
returns c =
    let e = log2_is _ c.requires.0 c.requires.1 in
    (e.1, omega (arith, e.1, log2_le c.args.v))
