-- `pass_ahead::split` meets its contract: the entries before i are there. Assumes nothing.
use Rattle.pass_ahead.specs.Arrays.{Filled, Second, After}
use Rattle.pass_ahead.proofs.split.Given as goal

abbrev pub invariant-loop-i : goal.invariant-loop-i
invariant-loop-i l = Filled 56 (Second l.lines l.from) l.i l.odds × Filled 56 (After l.lines l.from) l.i l.evens
