-- `read_block::records::restart_main` meets its contract: the main records before j have started anew, and those from j on are as they were. Assumes nothing.
use mathlib.Core.Bool.{cond}
use mathlib.Core.List.{List}
use mathlib.Core.Path.{◌≡◌}
use Prim.Native.Nat.{ℕ, ◌%◌}
use lib.Dec.{ltb}
use lib.ListN.{length, get_or, take, drop}
use Rattle.statistics.specs.declared.Record.{Record}
use Rattle.pass_steps.specs.Contexts.{no_record}
use Rattle.read_block.specs.Records.{table, start_record}
use Rattle.read_block.proofs.records.restart_main.Given as goal

abbrev pub restarted : ℕ → ℕ → List Record → ℕ → Record
restarted bits q rs j = cond (ltb (j % 56) 41) (start_record bits q j) (get_or rs j no_record)

abbrev pub invariant-loop-j : goal.invariant-loop-j
invariant-loop-j l =
    (length l.rs ≡ 336) × (take l.j l.rs ≡ table (restarted l.bits l.base l.initial.rs) l.j) × (drop l.j l.rs ≡ drop l.j l.initial.rs)
