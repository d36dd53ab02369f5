-- `pass_steps::ks_of` meets its contract: the ks of the records before j are there. Assumes nothing.
use Rattle.pass_steps.specs.Values.{zip_records}
use Rattle.pass_steps.proofs.KLaws.{KsUpto}
use Rattle.pass_steps.proofs.ks_of.Given as goal

abbrev pub invariant-loop-j : goal.invariant-loop-j
invariant-loop-j l = KsUpto l.j (zip_records l.sums l.ns) l.ks
