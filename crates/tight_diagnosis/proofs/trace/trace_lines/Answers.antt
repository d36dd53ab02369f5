-- `tight_diagnosis::trace::trace_lines` meets its contract: n lines have been walked, with tight codes alone. Assumes nothing.
use mathlib.Core.Path.{◌≡◌, refl}
use Prim.Native.Nat.{◌<◌}
use native.Mathlib.Omega.{arith}
use Rattle.image_map.proofs.PlaceLaws.{width_le}
use Rattle.read_block.proofs.RangeLaws.{all_started}
use Rattle.tight_diagnosis.specs.Traces.{clean_state, Says}
use Rattle.tight_diagnosis.proofs.WayLaws.{turn_at, turn_stops}
use Rattle.tight_diagnosis.proofs.LineLaws.{line_at_way, lines_next, lines_none, line_says, zero_length, ends_says}
use Rattle.numbers.proofs.PassedLaws.{passed_on}
use Rattle.tight_diagnosis.proofs.trace.trace_lines.Goals as goal
use Rattle.tight_diagnosis.proofs.trace.trace_lines.Goals.{After-trace_line, At-loop-n}

-- what the line says, as that of a block
said : (c : After-trace_line) →
    Says (clean_state c.trace_line.new.lines c.trace_line.new.sums c.trace_line.new.ns)
    (line_at_way c.args.form c.args.block.now c.loop-n.n (clean_state c.loop-n.lines c.loop-n.sums c.loop-n.ns c.loop-n.at)) c.trace_line.result
said c =
    line_says c.args.form c.args.block.now c.loop-n.n _ c.loop-n.lines _ c.loop-n.sums c.loop-n.ns c.loop-n.at c.loop-n.invariant.0.0 c.turn.ensures c.loop-n.invariant.3 c.trace_line.ensures.says

test : (c : After-trace_line) → c.loop-n.n < c.args.count
test c = c.loop-n-test.true

pub loop-n-init : goal.loop-n-init
loop-n-init c =
    let long = zero_length c.args.form.xtrans c.width-w.result c.args.lines.now c.width-w.ensures c.requires.lines_value.0 in (
      (c.width-w.ensures, rw c.width-w.ensures (width_le c.args.form.xtrans)),
      (long, omega (arith, c.start.auto, c.requires.lines_value.1), omega (arith, c.start.auto, c.requires.lines_value.1)),
      rw c.start.ensures (all_started _ _ c.requires.block_len_bound.1.0.1),
      (λ e. c.start.ensures),
      lines_none _ _ _ _ _ c.requires.lines_value.0 c.start.ensures,
    )

pub returns-in_err-at : goal.returns-in_err-at
returns-in_err-at c =
    rw (passed_on _ _ c.from_residual.ensures) (ends_says _ _ _ (turn_stops _ _ (lines_next c.args.form c.args.block.now) (test (goal.at.returns-in_err-at c).After-trace_line) c.loop-n.invariant.4 (said (goal.at.returns-in_err-at c).After-trace_line) c.in_err-at.was))

pub loop-n-preserved : goal.loop-n-preserved
loop-n-preserved c = (
  c.loop-n.invariant.0,
  (
    omega (arith, c.trace_line.auto, c.turn.auto, c.loop-n.invariant.1),
    omega (arith, c.trace_line.auto, c.loop-n.invariant.1),
    omega (arith, c.trace_line.auto, c.loop-n.invariant.1),
  ),
  c.trace_line.ensures.records,
  (λ e. absurd (omega (arith, e))),
  turn_at _ _ (lines_next c.args.form c.args.block.now) (test (goal.at.loop-n-preserved c).After-trace_line) c.loop-n.invariant.4 (said (goal.at.loop-n-preserved c).After-trace_line) c.in_ok-at.was,
)

pub returns : goal.returns
returns c =
    let e : c.loop-n.n ≡ c.args.count = omega (arith, c.loop-n-test.false, c.loop-n.auto.n-end) in
    (clean_state c.loop-n.lines c.loop-n.sums c.loop-n.ns c.loop-n.at, rw (← e) c.loop-n.invariant.4, refl)
