-- `pass_ahead::lossless` meets its contract: the entries before i are there. Assumes nothing.
use Rattle.pass_ahead.specs.Arrays.{AheadRow, Rows}
use Rattle.pass_ahead.proofs.lossless.Given as goal

abbrev pub invariant-loop-i : goal.invariant-loop-i
invariant-loop-i l = Rows (AheadRow 0 l.odds l.evens l.tops) 5 l.i l.out
