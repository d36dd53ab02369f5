-- `cameras::taking::pair_in` meets its contract: the lowest held entry of a pair. Assumes nothing.
use Rattle.cameras.proofs.SearchLaws.{NoneBefore}
use Rattle.cameras.specs.Entries.{is_pair, entry_at}
use Rattle.cameras.proofs.taking.pair_in.Given as goal

abbrev pub invariant-loop-i : goal.invariant-loop-i
invariant-loop-i l = NoneBefore (λ j. is_pair l.fn.bits l.fn.base (entry_at l.fn.entries.all j)) l.i
