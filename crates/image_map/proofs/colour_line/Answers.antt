-- `image_map::colour_line` meets its contract, by its three cases. Assumes nothing.
use borrow.Author.Rules.{rules}
use borrow.Author.Tests.{eq-eqb, ne_eqb}
use native.Mathlib.Omega.{arith}
use Rattle.image_map.specs.Places.{colour_line}
use Rattle.image_map.proofs.colour_line.Goals as goal

pub returns-then-t-eq0 : goal.returns-then-t-eq0
unfolding colour_line
returns-then-t-eq0 c = (simp (eq-eqb _ _ c.if-t-eq0.true), search rules)

pub returns-then-t-eq2 : goal.returns-then-t-eq2
unfolding colour_line
returns-then-t-eq2 c = (simp (ne_eqb _ _ c.if-t-eq0.false, eq-eqb _ _ c.if-t-eq2.true), search rules)

pub returns : goal.returns
unfolding colour_line
returns c = (simp (ne_eqb _ _ c.if-t-eq0.false, ne_eqb _ _ c.if-t-eq2.false), search rules)

pub overflow_add-result : goal.overflow_add-result
overflow_add-result c = omega (arith, c.requires)

pub overflow_add-result-then-t-eq2 : goal.overflow_add-result-then-t-eq2
overflow_add-result-then-t-eq2 c = omega (arith, c.requires)

pub overflow_add-result-2 : goal.overflow_add-result-2
overflow_add-result-2 c = omega
    (arith, c.requires)
