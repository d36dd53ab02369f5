-- `pass_ahead::odd_aim_at` meets its contract. Assumes nothing.
use Rattle.numbers.proofs.FlagLaws.{flag_of}
use mathlib.Core.Path.{◌∙◌}
use native.Mathlib.Omega.{arith}
use mathlib.Core.Path.{ap}
use Rattle.numbers.specs.Numbers.{minus}
use Rattle.quantiser.specs.declared.Thresholds.{Thresholds}
use Rattle.pass_ahead.proofs.OddLaws.{aimed, aims_lossless_at, aims_lossy_at}
use Rattle.pass_ahead.proofs.odd_aim_at.Goals as goal

pub returns-then-base-eq0 : goal.returns-then-base-eq0
returns-then-base-eq0 c =
    let n = minus c.from-rc.result c.from-ra.result in
    aims_lossless_at c.args.base c.args.s c.args.i c.args.h c.args.lines.now c.args.ahead.now _ _ _ c.from-ra.ensures c.from-rc.ensures c.requires.upper _ _ c.if-base-eq0.true (ap (λ (x : Thresholds). x.base) c.thresholds_of.ensures) c.from.ensures
    (aimed c.thresholds_of.result.base c.from.result 56 _ _ n c.gradient_with-g.result c.gradient_with-g.ensures.0 (omega arith) (c.from-then-base-eq0.ensures ∙ flag_of _))

pub returns : goal.returns
returns c =
    aims_lossy_at c.args.base c.args.s c.args.i c.args.h c.args.lines.now c.args.ahead.now _ _ _ c.from-ra.ensures c.from-rc.ensures c.requires.upper _ c.if-base-eq0.false c.from-2.ensures c.lossy_aim.ensures
