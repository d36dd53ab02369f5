-- `write_block::measure_block` meets its contract: it is a call without bases. Assumes nothing.
use mathlib.Core.Bool.{true}
use mathlib.Core.List.{[]}
use Rattle.admission.proofs.SetLaws.{writing_fits}
use Rattle.write_block.proofs.LeftLaws.{left_by}
use Rattle.write_block.proofs.measure_block.Goals as goal

pub write_in-requires : goal.write_in-requires
write_in-requires c = writing_fits _ _ _ _ _ c.writing_begins-begins.ensures

pub returns : goal.returns
returns c =
    (left_by true [] _ _ _ _ _ _ c.writing_begins-begins.ensures c.write_in.ensures).0
