-- `bit_output::put_by_bytes` meets its contract: after each turn the first digits stand in the output. Assumes nothing.
use mathlib.Core.Path.{◌≡◌}
use Prim.Native.Nat.{◌+◌, ◌-◌, ◌≤◌}
use lib.ListN.{length}
use Rattle.bit_output.specs.Output.{put_bits}
use Rattle.bit_output.proofs.PutLaws.{first_digits}
use Rattle.bit_output.proofs.put_by_bytes.Given as goal

abbrev pub invariant-loop-left : goal.invariant-loop-left
invariant-loop-left l =
    (l.left ≤ l.n) × (l.here.0 ≡ l.initial.here.0 + (l.n - l.left)) × (length l.out ≡ length l.initial.out) × (l.out ≡ put_bits l.initial.out l.initial.here.0 (first_digits l.n l.left l.value))

abbrev pub decreases-loop-left : goal.decreases-loop-left
decreases-loop-left l = l.left
