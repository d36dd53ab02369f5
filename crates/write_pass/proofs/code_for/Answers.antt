-- `write_pass::code_for` meets its contract. Assumes nothing.
use mathlib.Core.Bool.{Bool, true, false}
use mathlib.Core.Path.{◌≡◌}
use Prim.Native.Nat.{ℕ}
use Rattle.code.specs.Inside.{steps_up, residual_up, code_for, residual_for}
use Rattle.code.specs.Wanted.{code_of_residual}
use Rattle.write_pass.proofs.code_for.Goals as goal

-- the two ways
module _ (m p v d r : ℕ) (b : Bool) (e : r ≡ code_of_residual (residual_up m d)) where
  down : b ≡ true → d ≡ steps_up m v p → r ≡ code_for m b p v
  unfolding code_for residual_for
  down t f = rw (e, f, t)

  upwards : b ≡ false → d ≡ steps_up m p v → r ≡ code_for m b p v
  unfolding code_for residual_for
  upwards t f = rw (e, f, t)

pub returns-then-negative : goal.returns-then-negative
returns-then-negative c =
    (down _ _ _ _ _ _ c.code_of_steps.ensures.0 c.if-negative.true c.steps_up.ensures.0, c.code_of_steps.ensures.1)

pub returns : goal.returns
returns c =
    (upwards _ _ _ _ _ _ c.code_of_steps-2.ensures.0 c.if-negative.false c.steps_up-2.ensures.0, c.code_of_steps-2.ensures.1)
