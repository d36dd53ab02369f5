-- `write_block::is_right` meets its contract: a lossless X-Trans set is looked at, and no other can go wrong. Assumes nothing.
use Rattle.write_block.proofs.LookLaws.{looked_right, not_looked}
use Rattle.write_block.proofs.is_right.Goals as goal

pub look_lines-requires : goal.look_lines-requires
look_lines-requires c = record {
  count_bound = c.requires.count_bound;
  depth = c.requires.depth;
}

pub returns-then-form-is_strict : goal.returns-then-form-is_strict
returns-then-form-is_strict c e =
    looked_right _ _ _ _ _ c.is_strict.ensures c.if-form-is_strict.true (c.look_lines.ensures e)

pub returns : goal.returns
returns c e = not_looked _ _ _ _ _ c.is_strict.ensures c.if-form-is_strict.false
