-- `tight_diagnosis::trace::due_at` meets its contract, by the rest of u by 4. Assumes nothing.
use mathlib.Core.Path.{◌∙◌}
use native.Mathlib.Omega.{arith}
use Rattle.tight_diagnosis.proofs.DueLaws.{due_0, due_1, due_2, due_3}
use Rattle.tight_diagnosis.proofs.trace.due_at.Goals as goal

pub returns-then-k-eq0 : goal.returns-then-k-eq0
returns-then-k-eq0 c = c.even_due.ensures ∙ due_0 _ _ _ c.if-k-eq0.true

pub returns-then-k-eq1 : goal.returns-then-k-eq1
returns-then-k-eq1 c = c.even_due-then-k-eq1.ensures ∙ due_1 _ _ _ c.if-k-eq1.true

pub returns-then-k-eq2 : goal.returns-then-k-eq2
returns-then-k-eq2 c = c.odd_due.ensures ∙ due_2 _ _ _ c.if-k-eq2.true

pub returns : goal.returns
returns c =
    c.odd_due-2.ensures ∙ due_3 _ _ _ (omega (arith, c.if-k-eq2.false, c.if-k-eq1.false, c.if-k-eq0.false))
