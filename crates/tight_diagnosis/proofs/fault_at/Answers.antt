-- `tight_diagnosis::fault_at` meets its contract, by what the second walk says. Assumes nothing.
use mathlib.Core.Path.{◌≡◌, sym, ◌∙◌}
use native.Mathlib.Omega.{arith}
use Rattle.stream.proofs.StreamLaws.{opened}
use Rattle.read_block.proofs.LeftLaws.{form_depth}
use Rattle.tight_diagnosis.specs.Faults.{fault_at}
use Rattle.tight_diagnosis.proofs.FaultLaws.{traced_fault, none_here, fault_here, traced_bad, traced_at, traced_cut}
use Rattle.tight_diagnosis.proofs.fault_at.Goals as goal
use Rattle.tight_diagnosis.proofs.fault_at.Goals.{After-trace_block}

-- what the walk says
said : (c : After-trace_block) →
    traced_fault c.line_count-count.result c.trace_block.result ≡ fault_at c.args.d.now c.args.h c.args.b
said c =
    fault_here c.args.d.now c.args.h c.args.b c.args.answer c.form_of-form.result c.block_bytes-block.result.now c.line_count-count.result c.trace_block.result c.requires.1 (sym c.gives_15.ensures ∙ c.if-not-gives_15.false)
    c.form_of-form.ensures c.block_bytes-block.ensures.0 c.line_count-count.ensures c.trace_block.ensures

pub trace_block-requires : goal.trace_block-requires
trace_block-requires c =
    let k = (opened c.args.d.now c.args.h c.requires.0).ruled in
    (c.block_bytes-block.ensures.1, (form_depth _ c.args.h c.form_of-form.ensures k, omega (arith, k.lines_high, c.line_count-count.ensures)))

pub returns-in-Err-Bad : goal.returns-in-Err-Bad
returns-in-Err-Bad c = traced_bad c.line_count-count.result _ _ _ _ c.in-Err-Bad.is c.in-Err-Bad.field-0-is (said (goal.at.returns-in-Err-Bad c).After-trace_block)

pub returns-in-Ok : goal.returns-in-Ok
returns-in-Ok c = traced_at _ _ _ _ c.in-Ok.is (said (goal.at.returns-in-Ok c).After-trace_block)

pub returns-in-Err-CutOff : goal.returns-in-Err-CutOff
returns-in-Err-CutOff c = traced_cut c.line_count-count.result _ _ _ c.in-Err-CutOff.is c.in-Err-CutOff.field-0-is (said (goal.at.returns-in-Err-CutOff c).After-trace_block)

pub returns-then-not-gives_15 : goal.returns-then-not-gives_15
returns-then-not-gives_15 c =
    none_here c.args.d.now c.args.h c.args.b c.args.answer c.requires.1 (sym c.gives_15.ensures ∙ c.if-not-gives_15.true)
