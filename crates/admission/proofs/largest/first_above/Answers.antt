-- `admission::largest::first_above` meets its contract: no sample before i is above m and not ignored. Assumes nothing.
use Rattle.std.proofs.Common.{arith, sym, ◌∙◌}
use borrow.Author.Tests.{not-true, not-false}
use Rattle.admission.specs.Above.{is_ignored}
use Rattle.admission.proofs.SampleLaws.{above_next, above_found, above_none}
use Rattle.admission.proofs.largest.first_above.Goals as goal

pub returns-then-is_above : goal.returns-then-is_above
returns-then-is_above c =
    sym (above_found (is_ignored c.args.xtrans c.args.strict) c.args.m c.args.samples.now c.loop-i.i c.loop-i.invariant (omega arith)
    (not-true _ (sym c.is_above.ensures ∙ c.if-is_above.true)))

pub loop-i-preserved : goal.loop-i-preserved
loop-i-preserved c =
    above_next (is_ignored c.args.xtrans c.args.strict) c.args.m c.args.samples.now c.loop-i.i c.loop-i.invariant (omega arith)
    (not-false _ (sym c.is_above.ensures ∙ c.if-is_above.false))

pub returns : goal.returns
returns c =
    sym (above_none (is_ignored c.args.xtrans c.args.strict) c.args.m c.args.samples.now c.loop-i.i c.loop-i.invariant (omega arith))
