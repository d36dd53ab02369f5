-- `pass_ahead::odd_prediction_at` meets its contract. Assumes nothing.
use native.Mathlib.Omega.{arith}
use Prim.Native.Nat.{◌+◌}
use Rattle.pass_ahead.specs.Odds.{rc_at, rb_at, rd_at}
use Rattle.pass_ahead.proofs.OddLaws.{predicted_at, odd_small}
use Rattle.pass_ahead.proofs.odd_prediction_at.Goals as goal

pub returns : goal.returns
returns c = (
  predicted_at c.args.lines.now c.args.s c.args.i _ _ _ _ _ _ _ c.from.ensures c.from-2.ensures c.from-3.ensures
      c.from-4.ensures c.requires.beyond c.odd_prediction.ensures,
  odd_small _ _ (rb_at c.args.lines.now c.args.s c.args.i) (rc_at c.args.lines.now c.args.s c.args.i) (rd_at c.args.lines.now c.args.s c.args.i) _ _ _ _ _ c.requires.beyond
      (omega (arith, c.from.ensures, c.type_inv.lines c.args.i)) (omega (arith, c.from-2.ensures, c.type_inv.lines (c.args.i + 2))) (omega (arith, c.from-3.ensures, c.fits-ahead (96 + c.args.h))) c.from-3.ensures
      c.from-4.ensures c.odd_prediction.ensures,
)
