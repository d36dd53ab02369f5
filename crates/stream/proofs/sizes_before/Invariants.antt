-- `stream::sizes_before` meets its contract. The invariant: the sum is that of the first i sizes. Assumes nothing.
use Rattle.std.proofs.Common.{◌≡◌, ◌*◌, ◌^◌, ◌≤◌}
use Rattle.stream.specs.Streams.{sizes_before}
use Rattle.stream.proofs.sizes_before.Given as goal

abbrev pub invariant-loop-i : goal.invariant-loop-i
invariant-loop-i l = (l.sum ≡ sizes_before l.d l.i) × (l.sum ≤ l.i * 2 ^ 32)
