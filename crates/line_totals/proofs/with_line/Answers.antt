-- `line_totals::with_line` meets its contract. Assumes nothing.
use borrow.Author.Rules.{rules}
use borrow.Author.Tests.{eq-eqb, ne_eqb}
use mathlib.Core.Bool.{and-false}
use Rattle.line_totals.proofs.with_line.Goals as goal

pub returns-then-before-n : goal.returns-then-before-n
returns-then-before-n c = (simp (eq-eqb _ _ c.if-before-n.true, c.if-tight.true), search rules)

pub returns-else-before-n : goal.returns-else-before-n
returns-else-before-n c = (simp (ne_eqb _ _ c.if-before-n.false), search rules)

pub returns-else-tight : goal.returns-else-tight
returns-else-tight c = (simp (c.if-tight.false, and-false), search rules)
