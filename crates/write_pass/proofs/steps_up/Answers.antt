-- `write_pass::steps_up` meets its contract. Assumes nothing.
use borrow.Author.Rules.{rules}
use borrow.Author.Tests.{le-leb, lt-leb}
use native.Mathlib.Omega.{arith}
use Rattle.code.specs.Inside.{steps_up}
use Rattle.write_pass.proofs.steps_up.Goals as goal

pub returns-then-u-v : goal.returns-then-u-v
unfolding steps_up
returns-then-u-v c = (simp (le-leb _ _ c.if-u-v.true), search rules)

pub returns-else-u-v : goal.returns-else-u-v
unfolding steps_up
returns-else-u-v c = (rw (lt-leb _ _ c.if-u-v.false) (omega arith), search rules)
