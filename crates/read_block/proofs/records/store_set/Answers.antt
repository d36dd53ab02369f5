-- `read_block::records::store_set` meets its contract: the records before i are put back. Assumes nothing.
use borrow.Author.Rules.{rules}
use native.Mathlib.Omega.{arith}
use Rattle.read_block.proofs.SetLaws.{store_more, store_done}
use Rattle.read_block.proofs.records.store_set.Goals as goal

pub loop-i-preserved : goal.loop-i-preserved
loop-i-preserved c = (
  search rules,
  rw c.update.ensures
      (store_more _ _ _ _ c.requires.0 c.requires.1 (search rules) (search rules) c.loop-i.rs c.loop-i.i (omega arith) c.loop-i.invariant.1),
)

pub returns : goal.returns
returns c = store_done _ _ _ _ c.loop-i.i (omega arith) (omega arith) c.loop-i.invariant.1
