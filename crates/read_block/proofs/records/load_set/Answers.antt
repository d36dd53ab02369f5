-- `read_block::records::load_set` meets its contract: the records before i are in the two arrays. Assumes nothing.
use native.Mathlib.Omega.{arith}
use lib.ListN.{length-set}
use Rattle.read_block.proofs.SetLaws.{load_more, load_done}
use Rattle.read_block.proofs.records.load_set.Goals as goal

pub loop-i-preserved : goal.loop-i-preserved
loop-i-preserved c = (
  simp length-set c.loop-i.invariant.0,
  simp length-set c.loop-i.invariant.1,
  load_more _ _ c.requires.0 c.requires.1 c.loop-i.sums c.loop-i.ns c.loop-i.i _ (omega arith) c.loop-i.invariant.0 c.loop-i.invariant.1 c.fetch-r.ensures c.loop-i.invariant.2,
)

pub returns : goal.returns
returns c = load_done _ _ _ _ c.loop-i.i (omega arith) (omega arith) c.loop-i.invariant.0 c.loop-i.invariant.1 c.loop-i.invariant.2
