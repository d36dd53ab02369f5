-- `pass_steps::lossless_look` meets its contract: it is what lossless lines go by. Assumes nothing.
use mathlib.Core.Path.{◌≡◌, sym}
use Prim.Native.Nat.{zero-le}
use native.Mathlib.Omega.{arith}
use lib.Dec.{lit<}
use Rattle.numbers.specs.declared.Signed.{Signed}
use Rattle.quantiser.specs.Quantisers.{gradient_of}
use Rattle.prediction.specs.declared.Context.{Context}
use Rattle.pass_steps.specs.Contexts.{look_of}
use Rattle.pass_steps.specs.declared.Look.{Look}
use Rattle.pass_steps.proofs.LookLaws.{look_lossless}
use Rattle.pass_steps.proofs.lossless_look.Goals as goal

lossless : (x : Context) (g : Signed) → g ≡ gradient_of 0 9 x.first x.second
    → ◌≡◌ {A = Look} (record { choice = 0; base = 0; negative = g.negative; place = g.size }) (look_of 0 x)
lossless x g eg = rw eg (sym (look_lossless x))

pub returns : goal.returns
returns c =
    (lossless _ _ c.gradient-g.ensures.0, (zero-le, (lit< tt, omega (arith, c.gradient-g.ensures.1))))
