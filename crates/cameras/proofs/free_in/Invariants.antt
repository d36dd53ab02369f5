-- `cameras::free_in` meets its contract: the lowest entry that nobody holds, or 16. Assumes nothing.
use mathlib.Core.Bool.{not}
use Rattle.cameras.proofs.SearchLaws.{NoneBefore}
use Rattle.cameras.specs.Entries.{is_held, entry_at}
use Rattle.cameras.proofs.free_in.Given as goal

abbrev pub invariant-loop-j : goal.invariant-loop-j
invariant-loop-j l = NoneBefore (λ j. not (is_held (entry_at l.fn.entries.all j))) l.j
