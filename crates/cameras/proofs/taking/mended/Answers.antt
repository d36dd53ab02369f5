-- `cameras::taking::mended` meets its contract: entry by entry. Assumes nothing.
use Rattle.std.proofs.Common.{◌≡◌, arith}
use Rattle.cameras.proofs.EntryLaws.{each_start, each_more, mended_numbered}
use Rattle.cameras.proofs.taking.mended.Goals as goal

pub loop-i-init : goal.loop-i-init
loop-i-init c = each_start _ _

pub loop-i-preserved : goal.loop-i-preserved
loop-i-preserved c = each_more _ _ _ _ _ c.loop-i.invariant c.mended_entry.ensures

pub returns : goal.returns
returns c =
    let e : c.loop-i.i ≡ 16 = omega arith in
    let is = rw e at c.loop-i.invariant in
    (is, rw is (mended_numbered _))
