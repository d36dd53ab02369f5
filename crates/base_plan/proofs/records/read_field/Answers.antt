-- `base_plan::records::read_field` meets its contract. Assumes nothing.
use mathlib.Core.Path.{sym, ◌∙◌}
use Prim.Native.Nat.{◌<◌}
use native.Mathlib.Omega.{arith}
use lib.ListN.{length}
use Rattle.base_plan.proofs.RowLaws.{is_field_lem, no_mark, no_digit}
use Rattle.base_plan.proofs.records.read_field.Goals as goal

pub returns-then-byte-mark : goal.returns-then-byte-mark
returns-then-byte-mark c =
    let at : c.read_digits-x.result.end < length c.args.d.now = c.byte.ensures.2 (omega (arith, c.if-byte-mark.true, c.requires.1)) in
    let m = sym c.byte.ensures.0 ∙ c.if-byte-mark.true in
    (is_field_lem c.args.d.now c.args.i c.args.mark _ _ c.read_digits-x.ensures.0 c.read_digits-x.ensures.1 c.if-i-end.true m, (omega arith, omega arith))

pub returns-then-i-end : goal.returns-then-i-end
returns-then-i-end c =
    (no_mark c.args.d.now c.args.i c.args.mark _ _ c.read_digits-x.ensures.0 c.read_digits-x.ensures.1 c.if-i-end.true (λ m. c.if-byte-mark.false (c.byte.ensures.0 ∙ m)), tt)

pub returns : goal.returns
returns c =
    (no_digit c.args.d.now c.args.i c.args.mark _ _ c.read_digits-x.ensures.0 c.read_digits-x.ensures.1 c.if-i-end.false, tt)
