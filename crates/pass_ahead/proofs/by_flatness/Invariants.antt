-- `pass_ahead::by_flatness` meets its contract: the entries before j are there. Assumes nothing.
use Rattle.pass_ahead.proofs.SlotLaws.{Flats}
use Rattle.pass_ahead.proofs.by_flatness.Given as goal

abbrev pub invariant-loop-j : goal.invariant-loop-j
invariant-loop-j l = Flats l.base l.j l.r
