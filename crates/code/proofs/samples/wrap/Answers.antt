-- `code::samples::wrap` meets its contract, by its three cases. Assumes nothing.
use Rattle.std.proofs.Common.{arith, le-ltb, lt-ltb}
use Rattle.std.proofs.Math.Nat.{min_comm}
use Rattle.code.specs.Samples.{wrap}
use Rattle.code.proofs.samples.wrap.Goals as goal

pub returns-then-a-q : goal.returns-then-a-q
unfolding wrap
returns-then-a-q c =
    (rw (c.min.ensures, c.saturating_sub.ensures, lt-ltb _ _ c.if-a-q.true) (min_comm _ _), omega (arith, c.min.ensures))

pub returns-then-m-q : goal.returns-then-m-q
unfolding wrap
returns-then-m-q c =
    (rw (c.min-then-m-q.ensures, c.saturating_sub-then-m-q.ensures, le-ltb _ _ c.if-a-q.false, lt-ltb _ _ c.if-m-q.true) (min_comm _ _), omega (arith, c.min-then-m-q.ensures))

pub returns : goal.returns
unfolding wrap
returns c =
    (rw (c.min-2.ensures, c.saturating_sub-2.ensures, le-ltb _ _ c.if-a-q.false, le-ltb _ _ c.if-m-q.false) (min_comm _ _), omega (arith, c.min-2.ensures))
