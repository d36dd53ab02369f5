-- `statistics::longer` meets its contract: both numbers together are as long as the longer one. Assumes nothing.
use mathlib.Core.Path.{◌≡◌}
use Prim.Native.Nat.{min}
use native.Mathlib.Omega.{arith}
use lib.Bits.{bit_or}
use lib.Count.{count_leading_zeros}
use Rattle.statistics.proofs.LengthLaws.{leading_or}
use Rattle.statistics.proofs.longer.Goals as goal
use Rattle.statistics.proofs.longer.Goals.{Start}

both : (c : Start) → count_leading_zeros 32 (bit_or c.args.sum c.args.n) ≡ min (count_leading_zeros 32 c.args.sum) (count_leading_zeros 32 c.args.n)
both c = leading_or 32 _ _ (omega (arith, c.ranges.sum)) (omega (arith, c.ranges.n))

pub overflow_sub-result : goal.overflow_sub-result
overflow_sub-result c = omega (arith, both c)

pub returns : goal.returns
returns c = omega (arith, both c)
