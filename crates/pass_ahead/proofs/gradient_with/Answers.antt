-- `pass_ahead::gradient_with` meets its contract. Assumes nothing.
use native.Mathlib.Omega.{arith}
use mathlib.Core.Path.{subst, ap}
use Rattle.numbers.specs.declared.Signed.{Signed}
use Rattle.pass_ahead.specs.Looks.{Raised}
use Rattle.pass_ahead.proofs.OddLaws.{continued}
use Rattle.pass_ahead.proofs.gradient_with.Goals as goal

pub returns : goal.returns
returns c =
    let e : Raised c.args.t.base _ c.raised_level.result = subst (λ (v : Signed). Raised c.args.t.base v c.raised_level.result) c.difference-v.ensures c.raised_level.ensures.0 in
    (continued c.args.t.base c.args.part c.raised_level.result _ _ e c.difference.ensures, omega (arith, c.raised_level.ensures.1, c.requires.1.1, ap (λ (x : Signed). x.size) c.difference.ensures))
