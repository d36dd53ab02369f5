-- `pass_ahead::lossy_aim` meets its contract. Assumes nothing.
use Rattle.numbers.proofs.FlagLaws.{flag_of}
use Rattle.std.proofs.Math.Nat.{min_comm}
use native.Mathlib.Omega.{arith}
use mathlib.Core.Path.{◌≡◌, refl, ap, ◌∙◌}
use Prim.Native.Nat.{ℕ, ◌+◌, ◌≤◌, ◌<◌, ◌^◌, min}
use lib.ListN.{get_or}
use Rattle.numbers.specs.Numbers.{distance, minus}
use Rattle.quantiser.specs.declared.Thresholds.{Thresholds}
use Rattle.pass_steps.proofs.LookLaws.{thresholds_for}
use Rattle.pass_ahead.proofs.OddLaws.{rows_fit, capped_serves, aimed, lossy_aims}
use Rattle.pass_ahead.proofs.lossy_aim.Goals as goal
use Rattle.pass_ahead.proofs.lossy_aim.Goals.{After-min-j, After-with_base-t}

fit : (c : After-min-j) →
    (get_or c.args.flatness.now c.min-j.result 0 ≤ 336) × (get_or c.args.flatness.now (9 + c.min-j.result) 0 < 2 ^ 16) × (get_or c.args.flatness.now (18 + c.min-j.result) 0 < 256)
fit c =
    rows_fit c.args.base c.min-j.result _ c.requires.by_flatness (omega (arith, c.min-j.ensures)) c.requires.base_bound.0

-- the flatness, 8 at most
capped : (c : After-min-j) → c.min-j.result ≡ min 8 (c.args.size + distance c.args.rc c.args.ra)
capped c = c.min-j.ensures ∙ min_comm _ _ ∙ ap (λ (d : ℕ). min 8 (c.args.size + d)) c.abs_diff.ensures

-- the thresholds, and their base
by_base : (c : After-with_base-t) →
    c.with_base-t.result ≡ thresholds_for c.args.base (get_or c.args.flatness.now (18 + c.min-j.result) 0)
by_base c = c.with_base-t.ensures ∙ rw c.thresholds_of.ensures

used : (c : After-with_base-t) →
    c.with_base-t.result.base ≡ get_or c.args.flatness.now (18 + c.min-j.result) 0
used c = ap (λ (t : Thresholds). t.base) (by_base c)

pub bounds-ahead-row : goal.bounds-ahead-row
bounds-ahead-row c = omega (arith, fit (goal.at.bounds-ahead-row c).After-min-j, c.requires.base_bound.1.0)

pub gradient_with-g-requires : goal.gradient_with-g-requires
gradient_with-g-requires c =
    (omega (arith, (fit (goal.at.gradient_with-g-requires c).After-min-j).2, used (goal.at.gradient_with-g-requires c).After-with_base-t), (capped_serves c.args.base c.args.size _ c.min-j.result _ c.with_base-t.result (capped (goal.at.gradient_with-g-requires c).After-min-j) (c.requires.by_flatness.base c.min-j.result (omega (arith, c.min-j.ensures))) (by_base (goal.at.gradient_with-g-requires c).After-with_base-t), omega (arith, c.from.ensures, c.fits-ahead (get_or c.args.flatness.now c.min-j.result 0 + c.args.h))))

pub returns : goal.returns
returns c =
    let n = minus c.args.rc c.args.ra in
    lossy_aims c.args.base c.args.h c.args.size c.min-j.result c.from.result c.with_base-t.result.base c.args.flatness.now c.args.ahead.now n _ c.requires.by_flatness (capped (goal.at.returns c).After-min-j) c.from.ensures (used (goal.at.returns c).After-with_base-t)
    (aimed c.with_base-t.result.base c.from.result (get_or c.args.flatness.now (9 + c.min-j.result) 0) _ _ n c.gradient_with-g.result c.gradient_with-g.ensures.0 refl (c.from-2.ensures ∙ flag_of _))
