-- `pass_ahead::records::sample_by` meets its contract. Assumes nothing.
use native.Mathlib.Omega.{arith}
use mathlib.Core.Path.{◌≡◌, refl, sym}
use Prim.Native.Nat.{◌+◌, ◌*◌, ◌/◌, ◌<◌, ◌^◌}
use Rattle.pass_ahead.proofs.SignLaws.{product_lt, inside_by, down_by, up_by}
use Rattle.pass_ahead.proofs.records.sample_by.Goals as goal
use Rattle.pass_ahead.proofs.records.sample_by.Goals.{After-residual_size, After-total-1, Start}

halved : (c : Start) → c.args.step ≡ 2 * (c.args.step / 2) + 1
halved c = omega (arith, c.requires.m_bound.1.1.0)

step_lt : (c : After-residual_size) → c.residual_size.result * c.args.step < 2 ^ 29
step_lt c = product_lt _ _ (omega (arith, c.residual_size.ensures.1)) c.requires.m_bound.1.0

pub returns-then-x-m : goal.returns-then-x-m
returns-then-x-m c =
    (inside_by c.args.m (c.args.step / 2) c.args.step _ c.args.flip c.args.prediction c.args.code _ _ (halved (goal.at.returns-then-x-m c).Start) c.residual_size.ensures.0 refl _ c.moved-x.ensures c.if-x-m.true c.requires.m_bound.0 (step_lt (goal.at.returns-then-x-m c).After-residual_size), c.if-x-m.true)

pub returns-then-minus : goal.returns-then-minus
returns-then-minus c =
    (rw (sym c.choice_at.ensures.0) (down_by c.args.m (c.args.step / 2) c.args.step _ c.args.flip c.args.prediction c.args.code _ _ (halved (goal.at.returns-then-minus c).Start) c.residual_size.ensures.0 refl _ c.if-minus.true-raw c.wrap.ensures.0), c.wrap.ensures.1)

pub returns : goal.returns
returns c =
    (rw (sym c.choice_at.ensures.0) (up_by c.args.m (c.args.step / 2) c.args.step _ c.args.flip c.args.prediction c.args.code _ _ (halved (goal.at.returns c).Start) c.residual_size.ensures.0 refl _ c.if-minus.false-raw c.wrap-2.ensures.0), c.wrap-2.ensures.1)
