-- `read_block::records::load_set` meets its contract: the records before i are in the two arrays. Assumes nothing.
use mathlib.Core.Path.{◌≡◌}
use Prim.Native.Nat.{◌*◌}
use lib.ListN.{length, take, drop}
use Rattle.pass_steps.specs.Values.{zip_records}
use Rattle.read_block.proofs.records.load_set.Given as goal

abbrev pub invariant-loop-i : goal.invariant-loop-i
invariant-loop-i l =
    (length l.sums ≡ 112) × (length l.ns ≡ 112)
    × (take l.i (zip_records l.sums l.ns) ≡ take l.i (drop (112 * l.g) l.rs))
