-- `read_block::reading::walk` meets its contract: scratch is started before the lines, and cleared behind them. Assumes nothing.
use mathlib.Core.Path.{◌≡◌, ap, ◌∙◌}
use Prim.Native.Nat.{ℕ, ◌+◌, ◌*◌}
use native.Mathlib.Nat.{zero-add}
use native.Mathlib.Omega.{arith}
use lib.ListN.{length, replicate, length-replicate}
use Rattle.colour_lines.specs.ColourLines.{zero_lines}
use Rattle.image_map.specs.Places.{width_of}
use Rattle.read_block.specs.Records.{start_records}
use Rattle.read_block.specs.WindowedLines.{samples_in, zeros_in}
use Rattle.read_block.proofs.RangeLaws.{all_started}
use Rattle.read_block.proofs.WindowTwins.{held_start}
use Rattle.read_block.proofs.BlockLaws.{block_starts, walked_top}
use Rattle.read_block.proofs.ImageLaws.{shown_top}
use Rattle.read_block.proofs.reading.walk.Goals as goal
use Rattle.read_block.proofs.reading.walk.Goals.{After-start_place}

zeros : (c : After-start_place) → c.clear.new.lines ≡ zeros_in c.args.windowed c.args.showing.now.xtrans
zeros c = c.clear.ensures ∙ rw c.requires.block_len_bound.1.0

pub start_records-requires : goal.start_records-requires
start_records-requires c =
    (c.requires.block_len_bound.1.1, (c.requires.depth.0, c.base_of.ensures.1))

pub read_lines-walked-requires : goal.read_lines-walked-requires
read_lines-walked-requires c =
    let W : ℕ = width_of c.args.showing.now.xtrans in record {
      block_len_bound = (c.requires.block_len_bound.0, (omega (arith, c.clear.auto, c.requires.block_len_bound.1.0), omega (arith, c.start_records.auto, c.requires.block_len_bound)));
      depth = (c.requires.depth.0, omega (arith, c.requires.depth.1));
      fits = c.requires.fits;
      all_numbered = c.requires.all_numbered;
      all_in_range = (
        rw c.start_records.ensures (all_started _ _ c.requires.depth.0.1),
        (
          rw c.start_place.ensures (omega arith),
          (zero_lines W, length-replicate (18 * (W + 2)) 0, held_start c.args.windowed c.args.showing.now.xtrans _ (zeros (goal.at.read_lines-walked-requires c).After-start_place)),
        ),
      );
    }

pub returns : goal.returns
returns c =
    let W : ℕ = width_of c.args.showing.now.xtrans in
    let e : length c.read_lines-walked.new.lines ≡ samples_in c.args.windowed c.args.showing.now.xtrans = omega
    (arith, c.read_lines-walked.auto, c.clear.auto, c.requires.block_len_bound.1.0) in
    let q = c.read_lines-walked.ensures (zero_lines W) (length-replicate (18 * (W + 2)) 0) (held_start c.args.windowed c.args.showing.now.xtrans _ (zeros (goal.at.returns c).After-start_place)) in
    let s =
    block_starts (record { bits = c.args.bits; xtrans = c.args.showing.now.xtrans }) c.args.bases.now _ _
    (c.start_records.ensures ∙ ap (λ (q : ℕ). start_records c.args.bits q) c.base_of.ensures.0) c.start_place.ensures in record {
      walked = walked_top c.args.windowed (record { bits = c.args.bits; xtrans = c.args.showing.now.xtrans }) c.args.bases.now c.args.block.now _ c.args.count _ c.read_lines-walked.result s q.0;
      shown_in = shown_top c.args.windowed (record { bits = c.args.bits; xtrans = c.args.showing.now.xtrans }) c.args.bases.now c.args.block.now c.args.showing.now.tile _ c.args.showing.now.part c.read_lines-walked.result _ c.args.count _ _ s
          (zero-add c.args.count) q.1;
      lines_after = (c.clear-2.ensures ∙ ap (λ (n : ℕ). replicate n 0) e, c.clear_records.ensures);
    }
