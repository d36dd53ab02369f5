-- `cameras::taking::mended_entry` meets its contract: a held entry gets the numbers of its pair, or is held no longer. Assumes nothing.
use borrow.Author.Tests.{not-true, not-false, leb-true, ltb-true}
use mathlib.Core.Bool.{◌&&◌}
use lib.Dec.{leb, ltb}
use Rattle.numbers.proofs.BoolLaws.{both}
use mathlib.Core.Path.{sym, ◌∙◌}
use Rattle.cameras.proofs.EntryLaws.{mend_unheld, mend_good, mend_bad}
use Rattle.cameras.proofs.taking.mended_entry.Goals as goal

pub is_held-requires : goal.is_held-requires
is_held-requires c = tt

pub returns-then-not-is_held : goal.returns-then-not-is_held
returns-then-not-is_held c = mend_unheld c.args.e (sym c.is_held.ensures ∙ not-true _ c.if-not-is_held.true-raw)

pub main-main-requires : goal.main-main-requires
main-main-requires c =
    let u = both (leb 12 c.args.e.bits && leb c.args.e.bits 16) (ltb c.args.e.main.base 256) c.if-e-m.true in
    let v = both (leb 12 c.args.e.bits) (leb c.args.e.bits 16) u.0 in
    (leb-true _ _ v.0, (leb-true _ _ v.1, ltb-true _ _ u.1))

pub returns-then-e-m : goal.returns-then-e-m
returns-then-e-m c = mend_good c.args.e _ (sym c.is_held.ensures ∙ not-false _ c.if-not-is_held.false-raw) c.if-e-m.true c.main-main.ensures.0

pub no_entry-requires : goal.no_entry-requires
no_entry-requires c = tt

pub returns : goal.returns
returns c = mend_bad c.args.e _ (sym c.is_held.ensures ∙ not-false _ c.if-not-is_held.false-raw) c.if-e-m.false c.no_entry.ensures
