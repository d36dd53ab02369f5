-- `read_block::records::store_set` meets its contract: the records before i are put back. Assumes nothing.
use mathlib.Core.Path.{◌≡◌}
use Prim.Native.Nat.{◌*◌}
use lib.ListN.{length}
use lib.Seq.{paste}
use Rattle.pass_steps.specs.Values.{records_of}
use Rattle.read_block.proofs.records.store_set.Given as goal

abbrev pub invariant-loop-i : goal.invariant-loop-i
invariant-loop-i l =
    (length l.rs ≡ 336) × (l.rs ≡ paste l.initial.rs (112 * l.g) (records_of l.set) l.i)
