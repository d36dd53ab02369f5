-- `saved_state::blocks::load_records` meets its contract: the records before j are loaded. Assumes nothing.
use borrow.Author.Rules.{rules}
use mathlib.Core.Path.{refl}
use native.Mathlib.Omega.{arith}
use Rattle.read_block.specs.Records.{table}
use Rattle.read_block.proofs.TableLaws.{fill_more, fill_done}
use Rattle.saved_state.proofs.blocks.load_records.Goals as goal

pub loop-j-init : goal.loop-j-init
unfolding table
loop-j-init c = (search rules, refl)

pub loop-j-preserved : goal.loop-j-preserved
loop-j-preserved c = (
  search rules,
  rw c.update.ensures (fill_more _ c.loop-j.rs c.loop-j.j _ (omega arith) (rw c.start_record-start.ensures at c.load_record-r.ensures) c.loop-j.invariant.1),
)

pub returns : goal.returns
returns c = fill_done _ c.loop-j.rs 336 c.loop-j.j c.loop-j.invariant.0 (omega arith) c.loop-j.auto.j-end c.loop-j.invariant.1
