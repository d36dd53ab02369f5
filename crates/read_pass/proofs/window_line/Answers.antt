-- `read_pass::window_line` meets its contract, by its three cases. Assumes nothing.
use borrow.Author.Tests.{lt-ltb, le-ltb}
use Rattle.read_pass.specs.Windows.{window_line}
use Rattle.read_pass.proofs.window_line.Goals as goal

pub returns-then-l-lt5 : goal.returns-then-l-lt5
unfolding window_line
returns-then-l-lt5 c = simp (lt-ltb _ _ c.if-l-lt5.true)

pub returns-then-l-lt13 : goal.returns-then-l-lt13
unfolding window_line
returns-then-l-lt13 c = simp (le-ltb _ _ c.if-l-lt5.false, lt-ltb _ _ c.if-l-lt13.true)

pub returns : goal.returns
unfolding window_line
returns c = simp (le-ltb _ _ c.if-l-lt5.false, le-ltb _ _ c.if-l-lt13.false)
