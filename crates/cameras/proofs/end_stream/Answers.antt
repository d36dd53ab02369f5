-- `cameras::end_stream` meets its contract: all holds of the camera are given back. Assumes nothing.
use Rattle.cameras.proofs.EntryLaws.{each_start, each_more}
use Rattle.cameras.proofs.end_stream.Goals as goal

pub loop-i-init : goal.loop-i-init
loop-i-init c = each_start _ _

pub loop-i-preserved : goal.loop-i-preserved
loop-i-preserved c = each_more _ _ _ _ _ c.loop-i.invariant c.free_of.ensures
