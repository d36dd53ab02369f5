-- `write_block::look_lines` meets its contract: n lines were right. Assumes nothing.
use mathlib.Core.Bool.{false≢true}
use mathlib.Core.Path.{◌∙◌}
use native.Mathlib.Omega.{arith}
use Rattle.image_map.specs.Places.{width_of}
use Rattle.image_map.proofs.PlaceLaws.{width_le}
use Rattle.write_block.proofs.LookLaws.{no_lines, turned_within, line_more, all_lines}
use Rattle.write_block.proofs.WalkLaws.{line_size_lem}
use Rattle.write_block.proofs.look_lines.Goals as goal

pub loop-n-init : goal.loop-n-init
loop-n-init c = (
  (c.width-w.ensures, rw c.width-w.ensures (width_le c.args.form.xtrans)),
  omega (arith, c.clear.auto, c.requires.depth.1, c.width-w.ensures),
  no_lines _ _ _ (c.clear.ensures ∙ rw c.requires.depth.1),
)

pub look_line-requires : goal.look_line-requires
look_line-requires c =
    record {
      n_bound = (
        omega (arith, c.loop-n-test.true, c.requires.count_bound.0),
        (line_size_lem (width_of c.args.form.xtrans) c.loop-n.n c.args.count c.args.samples.now c.loop-n-test.true c.requires.count_bound.1.0, c.requires.count_bound.1.1),
      );
      depth = (
        c.requires.depth.0,
        (omega (arith, c.turn.auto, c.loop-n.invariant.0.0, c.loop-n.invariant.1), turned_within _ _ c.loop-n.n _ _ _ c.loop-n.invariant.2 c.turn.ensures),
      );
    }

pub returns-then-not-look_line : goal.returns-then-not-look_line
returns-then-not-look_line c e = absurd (false≢true e)

pub loop-n-preserved : goal.loop-n-preserved
loop-n-preserved c = (
  c.loop-n.invariant.0,
  omega (arith, c.look_line.auto, c.turn.auto, c.loop-n.invariant.1),
  line_more _ _ c.loop-n.n _ _ _ _ c.loop-n.invariant.2 c.loop-n.invariant.0.0 c.turn.ensures (c.look_line.ensures c.if-not-look_line.false),
)

pub returns : goal.returns
returns c e =
    all_lines _ _ c.loop-n.n _ _ (omega (arith, c.loop-n.auto.n-end, c.loop-n-test.false)) c.loop-n.invariant.2
