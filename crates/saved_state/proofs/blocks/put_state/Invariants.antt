-- `saved_state::blocks::put_state` meets its contract: the head and the sets before g are stored. Assumes nothing.
use mathlib.Core.Path.{◌≡◌}
use Prim.Native.Nat.{◌+◌, ◌*◌}
use lib.ListN.{length}
use Rattle.image_map.specs.Places.{width_of}
use Rattle.saved_state.specs.Heads.{put_each}
use Rattle.saved_state.specs.Checkpoints.{checkpoint_byte}
use Rattle.saved_state.proofs.blocks.put_state.Given as goal

abbrev pub invariant-loop-g : goal.invariant-loop-g
invariant-loop-g l =
    (length l.state ≡ length l.fn.state)
    × (l.state ≡ put_each (checkpoint_byte l.lossless (width_of l.h.xtrans) (record { stream = l.d; block = l.b; line = l.line; at = l.at; records = l.rs; lines = l.lines })) 0 (27 + 560 * l.g) l.fn.state)
