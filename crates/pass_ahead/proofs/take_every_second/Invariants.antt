-- `pass_ahead::take_every_second` meets its contract: the entries before i are there. Assumes nothing.
use Rattle.pass_ahead.specs.Arrays.{Filled, Second}
use Rattle.pass_ahead.proofs.take_every_second.Given as goal

abbrev pub invariant-loop-i : goal.invariant-loop-i
invariant-loop-i l = Filled 56 (Second l.lines l.from) l.i l.out
