-- `code::samples::sample` meets its contract: a sample in 0..m is the moved prediction itself, and any other is wrapped. Assumes nothing.
use mathlib.Core.Bool.{xor}
use Rattle.std.proofs.Common.{refl, ◌+◌, ◌*◌, ◌^◌, ◌<◌, arith}
use Rattle.code.proofs.MovedLaws.{product_lt, down, up, inside}
use Rattle.code.proofs.samples.sample.Goals as goal
use Rattle.code.proofs.samples.sample.Goals.{After-residual_size, Start}

-- the step and the span that it wraps by
step_lt : (c : After-residual_size) → c.residual_size.result * (2 * c.args.base + 1) < 2 ^ 29
step_lt c = product_lt _ _ (omega arith) (omega arith)

pub returns-then-x-m : goal.returns-then-x-m
unfolding xor
returns-then-x-m c = (
  inside _ _ _ _ _ _ _ _ _ c.residual_size.ensures.0 refl c.moved-x.ensures c.if-x-m.true (omega arith) (step_lt (goal.at.returns-then-x-m c).After-residual_size),
  c.if-x-m.true,
)

pub returns-then-minus : goal.returns-then-minus
unfolding xor
returns-then-minus c =
    (down _ _ _ _ _ _ _ _ _ c.residual_size.ensures.0 refl c.if-minus.true c.wrap.ensures.0, c.wrap.ensures.1)

pub returns : goal.returns
unfolding xor
returns c =
    (up _ _ _ _ _ _ _ _ _ c.residual_size.ensures.0 refl c.if-minus.false c.wrap-2.ensures.0, c.wrap-2.ensures.1)
