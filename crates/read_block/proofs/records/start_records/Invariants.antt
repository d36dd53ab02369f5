-- `read_block::records::start_records` meets its contract: the records before j have started. Assumes nothing.
use mathlib.Core.Path.{◌≡◌}
use lib.ListN.{length, take}
use Rattle.read_block.specs.Records.{table, start_record}
use Rattle.read_block.proofs.records.start_records.Given as goal

abbrev pub invariant-loop-j : goal.invariant-loop-j
invariant-loop-j l = (length l.rs ≡ 336) × (take l.j l.rs ≡ table (start_record l.bits l.base) l.j)
