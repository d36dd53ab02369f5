-- `pass_ahead::lossy` meets its contract: the entries before i are there. Assumes nothing.
use Rattle.pass_ahead.specs.Arrays.{AheadRow, Rows}
use Rattle.pass_ahead.proofs.lossy.Given as goal

abbrev pub invariant-loop-i : goal.invariant-loop-i
invariant-loop-i l = Rows (AheadRow l.base l.odds l.evens l.tops) 9 l.i l.out
