-- `write_block::write_lines` meets its contract: n lines have been written. Assumes nothing.
use mathlib.Core.Bool.{cond}
use mathlib.Core.Path.{◌≡◌, refl, ◌∙◌}
use native.Mathlib.Omega.{arith}
use Rattle.image_map.specs.Places.{width_of}
use Rattle.image_map.proofs.PlaceLaws.{width_le}
use Rattle.read_block.specs.Records.{restarted_main}
use Rattle.write_block.specs.WrittenBlocks.{is_strict}
use Rattle.read_block.proofs.BlockLaws.{base_known}
use Rattle.read_block.proofs.RangeLaws.{all_started, all_kept}
use Rattle.write_block.proofs.WalkLaws.{lines_start, lines_done, line_room, line_samples, line_position, line_more, line_failed, line_size_lem}
use Rattle.numbers.proofs.PassedLaws.{passed_on}
use Rattle.write_block.proofs.write_lines.Goals as goal
use Rattle.write_block.proofs.write_lines.Goals.{At-loop-n, Joined-is_restarted, then-is_restarted, else-is_restarted}

-- whether the set is held to its predictions
strict_is : (c : At-loop-n) → c.is_strict-strict.result ≡ is_strict c.args.bases.now
strict_is c = c.is_strict-strict.ensures

pub loop-n-init : goal.loop-n-init
loop-n-init c = (
  (c.width-w.ensures, rw c.width-w.ensures (width_le c.args.form.xtrans)),
  omega (arith, c.clear.auto, c.requires.depth.1.0, c.width-w.ensures),
  omega (arith, c.start_records.auto, c.requires.depth.1.1),
  rw c.start_records.ensures (all_started _ _ c.requires.depth.0.1),
  refl,
  lines_start _ _ _ _ _ _ _ (c.clear.ensures ∙ rw c.requires.depth.1.0) (c.start_records.ensures ∙ rw c.base_of.ensures.0),
)

-- the main records start anew where the line has another base than the one before
records_restarted : (c : Joined-is_restarted) → c.if-is_restarted.rs ≡ cond c.is_restarted.result (restarted_main c.args.form.bits c.base_of-base.result c.loop-n.rs) c.loop-n.rs
records_restarted c =
    elim c.if-is_restarted.branch [
      | then-is_restarted w ↦ w.rs-is ∙ rw w.if-is_restarted.true w.restart_main.ensures
      | else-is_restarted w ↦ w.rs-is ∙ rw w.if-is_restarted.false
    ]

pub quantisers_of-requires : goal.quantisers_of-requires
quantisers_of-requires c =
    (c.requires.depth.0, c.base_of-base.ensures.1)

pub write_line-requires : goal.write_line-requires
write_line-requires c =
    let Q = base_known _ _ _ c.quantisers_of.ensures in record {
      n_bound = (
        omega (arith, c.loop-n-test.true, c.requires.count_bound.0),
        (line_size_lem (width_of c.args.form.xtrans) c.loop-n.n c.args.count c.args.samples.now c.loop-n-test.true c.requires.count_bound.1.0, c.requires.count_bound.1.1),
      );
      depth = (c.requires.depth.0, (omega (arith, c.turn.auto, c.loop-n.invariant.0.0, c.loop-n.invariant.1), omega (arith, c.if-is_restarted.auto, c.loop-n.invariant.2)));
      within = (
        line_samples _ _ _ c.loop-n.n _ _ _ _ _ _ c.loop-n-test.true _ _ _ _ _ _ _ _ c.loop-n.invariant.5 c.loop-n.invariant.4 c.requires.room c.loop-n.invariant.0.0 Q.0 c.base_of-base.ensures.0 (strict_is (goal.at.write_line-requires c).At-loop-n) c.is_restarted.ensures
            c.turn.ensures (records_restarted (goal.at.write_line-requires c).Joined-is_restarted),
        all_kept c.is_restarted.result _ c.base_of-base.result c.loop-n.rs _ c.requires.depth.0.1 (records_restarted (goal.at.write_line-requires c).Joined-is_restarted) c.loop-n.invariant.3,
      );
      from_bound = (
        line_position _ _ _ c.loop-n.n _ _ _ _ _ _ c.loop-n-test.true _ _ _ _ _ _ _ _ c.loop-n.invariant.5 c.loop-n.invariant.4 c.requires.room c.loop-n.invariant.0.0 Q.0 c.base_of-base.ensures.0 (strict_is (goal.at.write_line-requires c).At-loop-n) c.is_restarted.ensures
            c.turn.ensures (records_restarted (goal.at.write_line-requires c).Joined-is_restarted) c.requires.depth.0.1 c.requires.count_bound.0,
        line_room _ _ _ c.loop-n.n _ _ _ _ _ _ c.loop-n-test.true _ _ _ _ _ _ _ _ c.loop-n.invariant.5 c.loop-n.invariant.4 c.requires.room c.loop-n.invariant.0.0 Q.0 c.base_of-base.ensures.0 (strict_is (goal.at.write_line-requires c).At-loop-n) c.is_restarted.ensures
            c.turn.ensures (records_restarted (goal.at.write_line-requires c).Joined-is_restarted),
      );
      base_bound = (omega (arith, Q.0, c.base_of-base.ensures.1), Q.1);
    }

pub returns-in_err-at : goal.returns-in_err-at
returns-in_err-at c =
    rw (passed_on _ _ c.from_residual.ensures) (line_failed _ _ _ c.loop-n.n _ _ _ _ _ _ c.loop-n-test.true _ _ _ _ _ _ _ _ c.loop-n.invariant.5 c.loop-n.invariant.4 c.requires.room c.loop-n.invariant.0.0
    (base_known _ _ _ c.quantisers_of.ensures).0 c.base_of-base.ensures.0 (strict_is (goal.at.returns-in_err-at c).At-loop-n) c.is_restarted.ensures c.turn.ensures
    (records_restarted (goal.at.returns-in_err-at c).Joined-is_restarted) _ _ _ c.write_line.result c.write_line.ensures.fact _ c.in_err-at.was)

pub loop-n-preserved : goal.loop-n-preserved
loop-n-preserved c = (
  c.loop-n.invariant.0,
  omega (arith, c.write_line.auto, c.turn.auto, c.loop-n.invariant.1),
  omega (arith, c.write_line.auto, c.if-is_restarted.auto, c.loop-n.invariant.2),
  c.write_line.ensures.all_in_range,
  omega (arith, c.write_line.auto, c.loop-n.invariant.4),
  line_more _ _ _ c.loop-n.n _ _ _ _ _ _ c.loop-n-test.true _ _ _ _ _ _ _ _ c.loop-n.invariant.5 c.loop-n.invariant.4 c.requires.room c.loop-n.invariant.0.0 (base_known _ _ _ c.quantisers_of.ensures).0
      c.base_of-base.ensures.0 (strict_is (goal.at.loop-n-preserved c).At-loop-n) c.is_restarted.ensures c.turn.ensures (records_restarted (goal.at.loop-n-preserved c).Joined-is_restarted) _ _ _
      c.write_line.result c.write_line.ensures.fact _ c.in_ok-at.was,
)

pub returns : goal.returns
returns c =
    lines_done _ _ _ c.loop-n.n _ _ _ _ _ _ _ (omega arith) c.loop-n.invariant.5
