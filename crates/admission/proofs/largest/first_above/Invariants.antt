-- `admission::largest::first_above` meets its contract: no sample before i is above m and not ignored. Assumes nothing.
use Rattle.std.proofs.Common.{◌≡◌, drop}
use Rattle.admission.specs.Above.{is_ignored, first_above}
use Rattle.admission.proofs.largest.first_above.Given as goal

abbrev pub invariant-loop-i : goal.invariant-loop-i
invariant-loop-i l =
    first_above (is_ignored l.xtrans l.strict) l.m 0 l.samples ≡ first_above (is_ignored l.xtrans l.strict) l.m l.i (drop l.i l.samples)
