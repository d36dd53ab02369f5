-- `write_block::is_sure` meets its contract: there is room for any block, and no sample is wrong. Assumes nothing.
use mathlib.Core.Bool.{false≢true}
use Rattle.write_block.proofs.BoundLaws.{ample_storable}
use Rattle.write_block.proofs.is_sure.Goals as goal

pub is_ample-requires : goal.is_ample-requires
is_ample-requires c = (c.requires.depth.0.1, c.requires.count_bound.0)

pub is_right-requires : goal.is_right-requires
is_right-requires c = record {
  count_bound = c.requires.count_bound;
  depth = c.requires.depth;
}

pub returns-then-is_ample : goal.returns-then-is_ample
returns-then-is_ample c e =
    ample_storable _ c.requires.depth.0 _ _ _ c.requires.count_bound.1.1 _ _ _ c.is_ample.ensures c.if-is_ample.true (c.is_right.ensures e)

pub returns : goal.returns
returns c e = absurd (false≢true e)
