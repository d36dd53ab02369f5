-- `read_block::records::clear_records` meets its contract: the records before j are cleared. Assumes nothing.
use borrow.Author.Rules.{rules}
use mathlib.Core.Path.{refl, ◌∙◌}
use native.Mathlib.Omega.{arith}
use Rattle.read_block.specs.Records.{table, clear_record}
use Rattle.read_block.proofs.TableLaws.{table_same, fill_more, fill_done}
use Rattle.read_block.proofs.records.clear_records.Goals as goal

pub loop-j-init : goal.loop-j-init
unfolding table
loop-j-init c = (search rules, refl)

pub loop-j-preserved : goal.loop-j-preserved
loop-j-preserved c = (
  search rules,
  rw c.update.ensures (fill_more _ c.loop-j.rs c.loop-j.j _ (omega arith) c.cleared.ensures c.loop-j.invariant.1),
)

pub returns : goal.returns
returns c = fill_done _ c.loop-j.rs 336 c.loop-j.j c.loop-j.invariant.0 (omega arith) (omega arith) c.loop-j.invariant.1 ∙ table_same clear_record 336
