-- `saved_state::store::store_lines` meets its contract: the bytes before i are stored. Assumes nothing.
use mathlib.Core.Path.{refl}
use native.Mathlib.Omega.{arith}
use lib.ListN.{length-set}
use Rattle.saved_state.specs.Heads.{put_each}
use Rattle.saved_state.proofs.PutLaws.{put_more, put_done}
use Rattle.saved_state.proofs.store.store_lines.Goals as goal

pub loop-i-init : goal.loop-i-init
unfolding put_each
loop-i-init c = (refl, refl, refl)

pub loop-i-preserved : goal.loop-i-preserved
loop-i-preserved c =
    (simp length-set c.loop-i.invariant.0, c.loop-i.invariant.1, put_more _ 1707 _ c.loop-i.i _ _ c.loop-i.invariant.2 c.line_byte.ensures)

pub returns : goal.returns
returns c = put_done _ 1707 _ c.loop-i.i _ _ c.loop-i.invariant.2 (omega arith)
