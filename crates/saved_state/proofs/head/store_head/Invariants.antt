-- `saved_state::head::store_head` meets its contract: the bytes before i are stored. Assumes nothing.
use mathlib.Core.Path.{◌≡◌}
use Prim.Native.Nat.{◌+◌}
use lib.ListN.{length}
use Rattle.saved_state.specs.Heads.{head_byte, put_each}
use Rattle.saved_state.proofs.head.store_head.Given as goal

abbrev pub invariant-loop-i : goal.invariant-loop-i
invariant-loop-i l =
    (length l.out ≡ length l.initial.out) × (l.next ≡ l.line + 1) × (l.out ≡ put_each (head_byte l.d l.block l.next l.at) 0 l.i l.initial.out)
