-- `code::samples::code_of_residual` meets its contract. Assumes nothing.
use Rattle.code.specs.Wanted.{code_of_residual}
use Rattle.code.proofs.samples.code_of_residual.Goals as goal

pub returns-then-negative : goal.returns-then-negative
unfolding code_of_residual
returns-then-negative c = simp (c.saturating_sub.ensures, c.if-negative.true)

pub returns : goal.returns
unfolding code_of_residual
returns c = simp c.if-negative.false
