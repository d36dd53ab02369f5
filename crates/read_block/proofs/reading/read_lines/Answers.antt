-- `read_block::reading::read_lines` meets its contract: i lines have been read, and the image shows them. Assumes nothing.
use mathlib.Core.Bool.{cond, not, ◌&&◌}
use mathlib.Core.Path.{◌≡◌, refl, ap, ◌∙◌}
use Prim.Native.Nat.{◌+◌, ◌*◌}
use native.Mathlib.Omega.{arith}
use Rattle.colour_lines.specs.ColourLines.{turned}
use Rattle.image_map.specs.Places.{width_of, Changed}
use Rattle.image_map.specs.Inside.{in_rows, emitted_sample}
use Rattle.image_map.specs.Zeros.{LineZeroed}
use Rattle.image_map.proofs.ChangeLaws.{not_wanted}
use Rattle.image_map.proofs.PartLaws.{fits_kept}
use Rattle.image_map.proofs.PlaceLaws.{width_le}
use Rattle.read_block.specs.Blocks.{lines_of}
use Rattle.read_block.specs.Records.{restarted_main}
use Rattle.read_block.proofs.KeepLaws.{lines_few}
use Rattle.read_block.proofs.RangeLaws.{all_kept}
use Rattle.read_block.proofs.ResumeLaws.{from_none}
use Rattle.read_block.proofs.BlockLaws.{base_known, none_read, all_kept_lines, line_more, line_cut, tight_none, tight_more, read_all, cut_at}
use Rattle.read_block.proofs.ImageLaws.{shown_none, shown_more, shown_all, shown_cut}
use Rattle.read_block.proofs.reading.read_lines.Goals as goal
use Rattle.read_block.proofs.reading.read_lines.Goals.{Joined-not-windowed, then-not-windowed, else-not-windowed, Joined-is_restarted, then-is_restarted, else-is_restarted}
use Rattle.read_block.proofs.reading.read_lines.Goals.{Joined-not-windowed-2, then-not-windowed-2, else-not-windowed-2}
use Rattle.read_block.proofs.reading.read_lines.Goals.{Joined-windowed, then-windowed, else-windowed}

pub loop-i-init : goal.loop-i-init
loop-i-init c = (
  (c.width-w.ensures, rw c.width-w.ensures (width_le c.args.showing.now.xtrans)),
  c.requires.block_len_bound.1.0,
  c.requires.block_len_bound.1.1,
  c.requires.all_in_range.0,
  rw c.no_lines-tight_lines.ensures (omega arith),
  (c.requires.fits, refl),
  λ l e h.
      record {
        tight_is = c.no_lines-tight_lines.ensures ∙ tight_none _ _ _ (from_none _ _ _ _ _) c.totals_at.ensures;
        shown = shown_none _ _ _ _ _ _ _ _;
        read = none_read c.args.windowed _ _ _ _ l _ _ _ h;
      },
)

pub turn-requires : goal.turn-requires
turn-requires c =
    (c.loop-i.invariant.0.1, all_kept_lines c.args.windowed c.args.showing.now.xtrans _ _ c.loop-i.invariant.0.0 c.loop-i.invariant.1 (rw c.if-not-windowed.true))

-- the lines are turned where all 18 are kept
lines_turned : (c : Joined-not-windowed) → c.if-not-windowed.lines ≡ cond (not c.args.windowed) (turned c.width-w.result c.loop-i.lines) c.loop-i.lines
lines_turned c =
    elim c.if-not-windowed.branch [
      | then-not-windowed w ↦ w.lines-is ∙ rw w.if-not-windowed.true w.turn.ensures
      | else-not-windowed w ↦ w.lines-is ∙ rw w.if-not-windowed.false
    ]

-- the main records start anew where the line has another base than the one before
records_restarted : (c : Joined-is_restarted) → c.if-is_restarted.rs ≡ cond c.is_restarted.result (restarted_main c.args.bits c.base_of-base.result c.loop-i.rs) c.loop-i.rs
records_restarted c =
    elim c.if-is_restarted.branch [
      | then-is_restarted w ↦ w.rs-is ∙ rw w.if-is_restarted.true w.restart_main.ensures
      | else-is_restarted w ↦ w.rs-is ∙ rw w.if-is_restarted.false
    ]

pub quantisers_in-requires : goal.quantisers_in-requires
quantisers_in-requires c =
    record {
      depth = (c.requires.depth.0, c.base_of-base.ensures.1);
      all_numbered = c.requires.all_numbered;
    }

pub line-got-requires : goal.line-got-requires
line-got-requires c =
    let Q = base_known _ _ _ c.quantisers_in.ensures in record {
      block_len_bound = (c.requires.block_len_bound.0, (omega (arith, c.if-not-windowed.auto, c.loop-i.invariant.1), omega (arith, c.if-is_restarted.auto, c.loop-i.invariant.2)));
      depth = (c.requires.depth.0, (omega (arith, Q.0, c.base_of-base.ensures.1), Q.1));
      all_in_range = (
        all_kept c.is_restarted.result _ c.base_of-base.result c.loop-i.rs _ c.requires.depth.0.1 (records_restarted (goal.at.line-got-requires c).Joined-is_restarted) c.loop-i.invariant.3,
        lines_few _ c.requires.depth.0.1 _ _ _ _ c.requires.all_in_range.1.0 _ _ (c.loop-i.invariant.6 c.requires.all_in_range.1.1.0 c.requires.all_in_range.1.1.1 c.requires.all_in_range.1.1.2).read.read,
      );
      n_bound = (omega (arith, c.loop-i-test.true, c.requires.depth.1), c.loop-i.invariant.5.0);
    }

pub zero_line-requires : goal.zero_line-requires
zero_line-requires c = (
  omega (arith, c.loop-i-test.true, c.requires.depth.1),
  fits_kept _ _ _ c.line-got.ensures.all_in_range_2.1.kept c.loop-i.invariant.5.0,
)

-- a truncated line's rows become 0 in windows
line_zeroed : (c : Joined-windowed) → LineZeroed c.args.windowed c.args.showing.now.part (c.args.first + c.loop-i.i) c.line-got.new.image c.if-windowed.image
line_zeroed c =
    elim c.if-windowed.branch [
      | then-windowed w ↦ rw (w.image-is, w.if-windowed.true) w.zero_line.ensures
      | else-windowed w ↦ rw w.image-is (not_wanted c.args.windowed _ _ _ w.if-windowed.false)
    ]

pub returns-in_default : goal.returns-in_default
returns-in_default c l e h =
    let k = c.loop-i.invariant.6 l e h in (
      cut_at _ _ _ _ _ _ _ _ _ c.loop-i-test.true k.read.read c.totals_at-in_default.ensures
          (line_cut c.args.windowed _ _ _ _ _ _ _ _ _ _ _ _ _ _ _ e k.read c.requires.depth.0.1 c.base_of-base.ensures.0
          c.is_restarted.ensures c.quantisers_in.ensures (records_restarted (goal.at.returns-in_default c).Joined-is_restarted) _ c.loop-i.invariant.0.0 _ _
          (lines_turned (goal.at.returns-in_default c).Joined-not-windowed) refl
          c.line-got.result c.line-got.ensures.fact c.in_default.is),
      shown_cut _ _ _ _ _ _ _ c.args.windowed _ _ _ _ _ _ _ k.shown c.line-got.ensures.all_in_range_2.1 (line_zeroed (goal.at.returns-in_default c).Joined-windowed),
    )

pub with_line-tight_lines-requires : goal.with_line-tight_lines-requires
with_line-tight_lines-requires c =
    (c.loop-i.invariant.4, omega (arith, c.loop-i-test.true, c.requires.depth.1))

pub emit_line-requires : goal.emit_line-requires
emit_line-requires c =
    record {
      n_bound = (
        omega (arith, c.loop-i-test.true, c.requires.depth.1),
        all_kept_lines c.args.windowed c.args.showing.now.xtrans _ _ refl (omega (arith, c.line-got.auto, c.if-not-windowed.auto, c.loop-i.invariant.1)) (rw c.if-not-windowed-2.true),
      );
      fits = fits_kept _ _ _ c.line-got.ensures.all_in_range_2.1.kept c.loop-i.invariant.5.0;
    }

-- the line goes to the image where all 18 are kept
line_shown : (c : Joined-not-windowed-2) →
    Changed (λ i. not c.args.windowed && in_rows c.args.showing.now.part (6 * (c.args.first + c.loop-i.i)) (6 * (c.args.first + c.loop-i.i) + 6) i)
    (emitted_sample c.args.showing.now.xtrans (width_of c.args.showing.now.xtrans) c.args.showing.now.tile c.line-got.new.lines c.args.showing.now.part)
    c.line-got.new.image c.if-not-windowed-2.image
line_shown c =
    elim c.if-not-windowed-2.branch [
      | then-not-windowed-2 w ↦ rw (w.image-is, w.if-not-windowed-2.true) w.emit_line.ensures
      | else-not-windowed-2 w ↦ rw w.image-is (not_wanted (not c.args.windowed) _ _ _ (rw w.if-not-windowed-2.false))
    ]

pub loop-i-preserved : goal.loop-i-preserved
loop-i-preserved c = (
  c.loop-i.invariant.0,
  omega (arith, c.line-got.auto, c.if-not-windowed.auto, c.loop-i.invariant.1),
  omega (arith, c.line-got.auto, c.if-is_restarted.auto, c.loop-i.invariant.2),
  c.line-got.ensures.all_in_range_2.0,
  c.with_line-tight_lines.ensures.1,
  (fits_kept _ _ _ ((line_shown (goal.at.loop-i-preserved c).Joined-not-windowed-2).kept ∙ c.line-got.ensures.all_in_range_2.1.kept) c.loop-i.invariant.5.0, (line_shown (goal.at.loop-i-preserved c).Joined-not-windowed-2).kept ∙ c.line-got.ensures.all_in_range_2.1.kept ∙ c.loop-i.invariant.5.1),
  λ l long h.
      let y = c.loop-i.invariant.6 l long h in
      let more =
      line_more c.args.windowed _ _ _ _ _ _ _ _ _ _ _ _ _ _ _ long y.read c.requires.depth.0.1 c.base_of-base.ensures.0
      c.is_restarted.ensures c.quantisers_in.ensures (records_restarted (goal.at.loop-i-preserved c).Joined-is_restarted) _ c.loop-i.invariant.0.0 _ _ (lines_turned (goal.at.loop-i-preserved c).Joined-not-windowed) refl
      c.line-got.result c.line-got.ensures.fact _ c.in-Some.is in
      record {
        tight_is = tight_more _ _ _ more.1 _ _ _ y.tight_is c.totals_at-in-loop-i.ensures c.with_line-tight_lines.ensures.0;
        shown = shown_more _ _ _ _ _ _ _ c.args.windowed _ _ _ _ _ _ _ _ refl (ap lines_of more.1) y.shown more.2 more.3 (line_shown (goal.at.loop-i-preserved c).Joined-not-windowed-2);
        read = record { lines = more.0; read = more.1; held = more.2 };
      },
)

pub shape_of-image : goal.shape_of-image
shape_of-image c = c.loop-i.invariant.5.1

pub returns : goal.returns
returns c l long h =
    let k = c.loop-i.invariant.6 l long h in
    let e : c.loop-i.i ≡ c.args.more = omega arith in (
      read_all c.args.windowed _ _ _ _ _ c.loop-i.i _ _ _ _ _ e k.read c.totals_at-2.ensures k.tight_is,
      shown_all _ _ _ _ _ _ _ c.args.windowed _ _ c.loop-i.i _ _ _ e k.shown,
    )
