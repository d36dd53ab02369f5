-- `write_pass::code_of_steps` meets its contract. Assumes nothing.
use borrow.Author.Tests.{le-leb, lt-leb}
use native.Mathlib.Omega.{arith}
use Rattle.code.specs.Inside.{residual_up}
use Rattle.code.specs.Wanted.{code_of_residual}
use Rattle.write_pass.proofs.code_of_steps.Goals as goal

pub returns-then-d-m : goal.returns-then-d-m
unfolding residual_up code_of_residual
returns-then-d-m c = (rw (le-leb _ _ c.if-d-m.true) (omega arith), omega (arith, c.if-d-m.true))

pub returns-else-d-m : goal.returns-else-d-m
unfolding residual_up code_of_residual
returns-else-d-m c = (rw (lt-leb _ _ c.if-d-m.false) (omega arith), omega (arith, c.if-d-m.false))
