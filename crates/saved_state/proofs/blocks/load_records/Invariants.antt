-- `saved_state::blocks::load_records` meets its contract: the records before j are loaded. Assumes nothing.
use mathlib.Core.Path.{◌≡◌}
use lib.ListN.{length, take}
use Rattle.saved_state.specs.Checkpoints.{loaded_record}
use Rattle.read_block.specs.Records.{table, start_record}
use Rattle.saved_state.proofs.blocks.load_records.Given as goal

abbrev pub invariant-loop-j : goal.invariant-loop-j
invariant-loop-j l =
    (length l.rs ≡ 336) × (take l.j l.rs ≡ table (λ i. loaded_record l.lossless (start_record l.bits l.base i) l.s i) l.j)
