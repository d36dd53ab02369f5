-- `tight_findings::find_in` meets its contract: no block before b has a fault. Assumes nothing.
use mathlib.Core.Path.{refl}
use native.Mathlib.Omega.{arith}
use Rattle.stream.proofs.StreamLaws.{opened}
use Rattle.tight_findings.proofs.FindingLaws.{lowest_none, lowest_more, lowest_found}
use Rattle.tight_findings.proofs.find_in.Goals as goal

pub loop-b-init : goal.loop-b-init
loop-b-init c =
    let k = (opened c.args.d.now c.args.h c.requires.0).ruled in
    ((refl, k.blocks_high), lowest_none _ _)

pub returns-in-Some : goal.returns-in-Some
returns-in-Some c =
    lowest_found c.args.d.now c.args.h c.loop-b.b c.args.h.blocks (omega (arith, c.loop-b-test.true, c.loop-b.invariant.0)) c.fault_at.result c.loop-b.invariant.1 c.fault_at.ensures _ c.in-Some.is

pub loop-b-preserved : goal.loop-b-preserved
loop-b-preserved c =
    (c.loop-b.invariant.0, lowest_more c.args.d.now c.args.h c.loop-b.b c.fault_at.result c.loop-b.invariant.1 c.fault_at.ensures c.in_default.is)
