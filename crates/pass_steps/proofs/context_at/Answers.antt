-- `pass_steps::context_at` meets its contract. Assumes nothing.
use borrow.Author.Tests.{eq-eqb, ne_eqb}
use mathlib.Core.List.{List}
use mathlib.Core.Path.{◌≡◌, ◌∙◌}
use mathlib.Core.Logic.{◌≢◌}
use Prim.Native.Nat.{ℕ, ◌%◌}
use Rattle.pass_steps.specs.Values.{even_at, odd_at, context_at}
use Rattle.pass_steps.proofs.context_at.Goals as goal

even : (lines : List ℕ) (s i p : ℕ) → p % 2 ≡ 0 → even_at lines s i ≡ context_at lines s i p
unfolding context_at
even lines s i p h = rw (eq-eqb (p % 2) 0 h)

odd : (lines : List ℕ) (s i p : ℕ) → p % 2 ≢ 0 → odd_at lines s i ≡ context_at lines s i p
unfolding context_at
odd lines s i p h = rw (ne_eqb (p % 2) 0 h)

pub returns-then-p-eq0 : goal.returns-then-p-eq0
returns-then-p-eq0 c = (c.even_context.ensures.0 ∙ even _ _ _ _ c.if-p-eq0.true, c.even_context.ensures.1)

pub returns : goal.returns
returns c = (c.odd_context.ensures.0 ∙ odd _ _ _ _ c.if-p-eq0.false, c.odd_context.ensures.1)
