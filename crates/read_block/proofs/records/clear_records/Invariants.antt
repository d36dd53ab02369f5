-- `read_block::records::clear_records` meets its contract: the records before j are cleared. Assumes nothing.
use mathlib.Core.Path.{◌≡◌}
use lib.ListN.{length, take}
use Rattle.read_block.specs.Records.{table, clear_record}
use Rattle.read_block.proofs.records.clear_records.Given as goal

abbrev pub invariant-loop-j : goal.invariant-loop-j
invariant-loop-j l = (length l.rs ≡ 336) × (take l.j l.rs ≡ table (λ k. clear_record) l.j)
