-- `line_totals::since` meets its contract. Assumes nothing.
use mathlib.Core.Path.{◌≡◌}
use Prim.Native.Nat.{◌-◌}
use native.Mathlib.Omega.{arith}
use Rattle.line_totals.proofs.since.Goals as goal

pub returns-then-totals-at : goal.returns-then-totals-at
returns-then-totals-at c =
    let e : c.args.totals.bits - c.args.at ≡ 0 = omega (arith, c.if-totals-at.true) in
    rw e
