-- `read_block::records::restart_main` meets its contract: the main records before j have started anew, and those from j on are as they were. Assumes nothing.
use borrow.Author.Rules.{rules}
use mathlib.Core.Bool.{cond}
use mathlib.Core.List.{List}
use mathlib.Core.Path.{◌≡◌, refl}
use Prim.Native.Nat.{ℕ, ◌+◌, ◌%◌, ◌<◌}
use native.Mathlib.Omega.{arith}
use lib.Dec.{ltb}
use lib.ListN.{length, get_or, set, take, drop}
use Rattle.statistics.specs.declared.Record.{Record}
use Rattle.pass_steps.specs.Contexts.{no_record}
use Rattle.read_block.specs.Records.{table, start_record, restarted_main}
use Rattle.read_block.proofs.TableLaws.{fill_more, fill_done, still, still_more}
use Rattle.read_block.proofs.records.restart_main.Invariants.{restarted}
use Rattle.read_block.proofs.records.restart_main.Goals as goal

-- one record more, of which the old one is read from the list as it is
more : (bits q j : ℕ) (rs₀ rs : List Record) (old r : Record) → j < length rs → take j rs ≡ table (restarted bits q rs₀) j → drop j rs ≡ drop j rs₀
    → old ≡ get_or rs j no_record → r ≡ cond (ltb (j % 56) 41) (start_record bits q j) old → take (j + 1) (set rs j r) ≡ table (restarted bits q rs₀) (j + 1)
more bits q j rs₀ rs old r h done rest eo er =
    fill_more (restarted bits q rs₀) rs j r h (rw (er, eo, still rs₀ rs j rest no_record)) done

pub loop-j-init : goal.loop-j-init
unfolding table
loop-j-init c = (search rules, refl, refl)

pub loop-j-preserved : goal.loop-j-preserved
loop-j-preserved c = (
  search rules,
  rw c.update.ensures (more _ _ c.loop-j.j _ c.loop-j.rs _ _ (omega arith) c.loop-j.invariant.1 c.loop-j.invariant.2 c.fetch-old.ensures c.restarted_record-r.ensures),
  rw c.update.ensures (still_more _ c.loop-j.rs c.loop-j.j c.loop-j.invariant.2 _),
)

pub returns : goal.returns
unfolding restarted_main
returns c = fill_done _ c.loop-j.rs 336 c.loop-j.j c.loop-j.invariant.0 (omega arith) (omega arith) c.loop-j.invariant.1
