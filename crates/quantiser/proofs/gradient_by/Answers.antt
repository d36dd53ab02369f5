-- `quantiser::gradient_by` meets its contract: both levels are raised by 4, and so the sum by 4 * weight + 4. Assumes nothing.
use mathlib.Core.Path.{ap, ◌∙◌}
use native.Mathlib.Omega.{arith}
use Rattle.numbers.specs.declared.Signed.{Signed}
use Rattle.quantiser.proofs.GradientLaws.{raised, gradient_le, level_le}
use Rattle.quantiser.proofs.gradient_by.Goals as goal

pub returns : goal.returns
returns c =
    let e = c.difference.ensures ∙ raised c.args.t.base c.args.weight c.args.first c.args.second _ _ c.raised_level.ensures.0 c.raised_level-2.ensures.0 in
    let l = gradient_le c.args.t.base c.args.weight 4 c.args.first c.args.second (level_le c.args.t.base c.args.first.size) (level_le c.args.t.base c.args.second.size) in
    (e, omega (arith, ap (λ (x : Signed). x.size) e))
