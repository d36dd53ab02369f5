-- `write_block::write_lossy` meets its contract. Assumes nothing.
use mathlib.Core.Bool.{false}
use Rattle.admission.proofs.SetLaws.{lossy_fits}
use Rattle.write_block.proofs.LeftLaws.{left_by}
use Rattle.write_block.proofs.write_lossy.Goals as goal

pub write_in-requires : goal.write_in-requires
write_in-requires c = lossy_fits _ _ _ _ _ _ c.lossy_begins-begins.ensures

pub returns : goal.returns
returns c =
    left_by false _ _ _ _ _ _ _ c.lossy_begins-begins.ensures c.write_in.ensures
