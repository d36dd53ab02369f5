-- `code::samples::code_near` meets its contract: the nearest residual, or the one that is total away from it. Assumes nothing.
use mathlib.Core.Bool.{xor}
use Rattle.std.proofs.Common.{refl, ◌∙◌}
use Rattle.code.proofs.NearLaws.{near_first, near_second}
use Rattle.code.proofs.samples.code_near.Goals as goal

pub returns-then-code-total : goal.returns-then-code-total
unfolding xor
returns-then-code-total c =
    near_first _ _ _ _ _ c.difference-wanted.ensures c.nearest_size-size.ensures.0 refl c.code_of_residual-code.ensures c.if-code-total.true

pub returns : goal.returns
unfolding xor
returns c =
    near_second _ _ _ _ _ c.difference-wanted.ensures c.nearest_size-size.ensures.0 refl c.code_of_residual-code.ensures c.if-code-total.false
    (c.code_of_residual.ensures ∙ rw c.saturating_sub.ensures)
