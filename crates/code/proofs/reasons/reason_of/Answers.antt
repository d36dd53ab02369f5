-- `code::reasons::reason_of` meets its contract: the tests come in the order of the reasons. Assumes nothing.
use Rattle.std.proofs.Common.{arith, le-ltb, lt-ltb, le-leb}
use borrow.Author.Tests.{lt-leb}
use Rattle.code.specs.Reasons.{reason_of}
use Rattle.code.proofs.reasons.reason_of.Goals as goal

pub returns-then-m-value : goal.returns-then-m-value
unfolding reason_of
returns-then-m-value c = simp (lt-ltb _ _ c.if-m-value.true)

pub returns-then-zeros-limit : goal.returns-then-zeros-limit
unfolding reason_of
returns-then-zeros-limit c =
    simp (le-ltb _ _ c.if-m-value.false, lt-leb _ _ c.if-zeros-limit.true, le-ltb c.args.limit c.args.c.zeros (omega (arith, c.if-zeros-limit.true)))

pub returns-then-value-k : goal.returns-then-value-k
unfolding reason_of
returns-then-value-k c = simp (le-ltb _ _ c.if-m-value.false, le-leb _ _ c.if-zeros-limit.false, lt-ltb _ _ c.if-value-k.true)

pub returns-then-limit-zeros : goal.returns-then-limit-zeros
unfolding reason_of
returns-then-limit-zeros c = simp (le-ltb _ _ c.if-m-value.false, le-leb _ _ c.if-zeros-limit.false, le-ltb _ _ c.if-value-k.false, lt-ltb _ _ c.if-limit-zeros.true)

pub returns : goal.returns
unfolding reason_of
returns c = simp (le-ltb _ _ c.if-m-value.false, le-leb _ _ c.if-zeros-limit.false, le-ltb _ _ c.if-value-k.false, le-ltb _ _ c.if-limit-zeros.false)
