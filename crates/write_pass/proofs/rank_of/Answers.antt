-- `write_pass::rank_of` meets its contract. Assumes nothing.
use borrow.Author.Rules.{rules}
use borrow.Author.Tests.{lt-ltb, le-ltb}
use Rattle.colour_lines.specs.Sets.{rank_of}
use Rattle.write_pass.proofs.rank_of.Goals as goal

pub returns-then-line-lt5 : goal.returns-then-line-lt5
unfolding rank_of
returns-then-line-lt5 c = (simp (lt-ltb _ _ c.if-line-lt5.true), search rules)

pub returns-then-line-lt13 : goal.returns-then-line-lt13
unfolding rank_of
returns-then-line-lt13 c = (simp (le-ltb _ _ c.if-line-lt5.false, lt-ltb _ _ c.if-line-lt13.true), search rules)

pub returns : goal.returns
unfolding rank_of
returns c = (simp (le-ltb _ _ c.if-line-lt5.false, le-ltb _ _ c.if-line-lt13.false), search rules)
