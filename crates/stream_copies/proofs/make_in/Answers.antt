-- `stream_copies::make_in` meets its contract: b blocks are laid. Assumes nothing.
use borrow.Author.Rules.{rules}
use mathlib.Core.Path.{refl, sym, ap, ◌∙◌}
use native.Mathlib.Omega.{arith}
use lib.ListN.{length, length-set}
use Rattle.stream.proofs.HeaderLaws.{parsed}
use Rattle.stream.proofs.StreamLaws.{opened}
use Rattle.theorem_whole_streams.proofs.KindsHold.{flagged_length}
use Rattle.stream_copies.specs.MadeStreams.{is_tight_call}
use Rattle.stream_copies.proofs.LaidLaws.{laid_none, laid_more, laid_cut, laid_end}
use Rattle.numbers.proofs.PassedLaws.{passed_on}
use Rattle.stream_copies.proofs.make_in.Goals as goal

pub flagged-head-requires : goal.flagged-head-requires
flagged-head-requires c =
    (parsed c.args.d.now c.args.h (opened c.args.d.now c.args.h c.requires.d_value.0).parsed).whole

pub loop-b-init : goal.loop-b-init
loop-b-init c = (
  refl,
  refl,
  refl,
  refl,
  search rules,
  laid_none c.args.d.now c.args.h c.args.rows.now
      (record { out = c.args.out.now; lines = c.args.lines.now; records = c.args.rs.now }) _ c.args.front
      c.requires.front_value.0 c.requires.front_value.1.0 c.requires.front_value.1.1,
)

pub slice_bounds-put_block-end : goal.slice_bounds-put_block-end
slice_bounds-put_block-end c =
    sym (ap length c.flagged-head.ensures ∙ flagged_length (is_tight_call c.args.rows.now) c.args.d.now
    c.args.h (opened c.args.d.now c.args.h c.requires.d_value.0).parsed)

pub put_block-requires : goal.put_block-requires
put_block-requires c =
    record {
      d_value = (c.requires.d_value.0, c.flagged-head.ensures);
      rows_fit = (c.requires.d_value.1, (c.loop-b-test.true, omega (arith, c.loop-b.invariant.5.room, c.loop-b.invariant.0)));
      set_len = (
        omega (arith, c.loop-b.invariant.1, c.requires.set_len.0),
        record { for_lines = omega (arith, c.loop-b.invariant.2, c.requires.set_len.1.for_lines); for_records = omega (arith, c.loop-b.invariant.3, c.requires.set_len.1.for_records) },
      );
    }

pub returns-in_err-n : goal.returns-in_err-n
returns-in_err-n c = rw (passed_on _ _ c.from_residual.ensures ∙ sym c.in_err-n.was) (
    laid_cut c.args.d.now c.args.h c.args.rows.now _ _ _ c.loop-b.lengths c.loop-b.at c.loop-b.b c.loop-b.invariant.5
    c.loop-b-test.true c.loop-b.invariant.0 _ _
    c.put_block.ensures c.in_err-n.was)

-- the next one
pub bounds-lengths-b : goal.bounds-lengths-b
bounds-lengths-b c =
    omega (arith, c.loop-b-test.true, (opened c.args.d.now c.args.h c.requires.d_value.0).ruled.blocks_high)

pub overflow_add-at : goal.overflow_add-at
overflow_add-at c =
    let more =
    laid_more c.args.d.now c.args.h c.args.rows.now _ _ _ c.loop-b.lengths c.loop-b.at c.loop-b.b c.loop-b.invariant.5 c.loop-b-test.true c.loop-b.invariant.0 _ _
    c.put_block.ensures c.in_ok-n.was (omega (
      arith,
      c.loop-b-test.true,
      c.loop-b.invariant.4,
      (opened c.args.d.now c.args.h
          c.requires.d_value.0).ruled.blocks_high,
    )) in
    omega (arith, more.room, c.well_formed)

pub loop-b-preserved : goal.loop-b-preserved
loop-b-preserved c = (
  omega (arith, c.put_block.auto, c.loop-b.invariant.0),
  omega (arith, c.put_block.auto, c.loop-b.invariant.1),
  omega (arith, c.put_block.auto, c.loop-b.invariant.2),
  omega (arith, c.put_block.auto, c.loop-b.invariant.3),
  simp length-set c.loop-b.invariant.4,
  laid_more c.args.d.now c.args.h c.args.rows.now _ _ _ c.loop-b.lengths c.loop-b.at c.loop-b.b c.loop-b.invariant.5 c.loop-b-test.true c.loop-b.invariant.0 _ _
      c.put_block.ensures c.in_ok-n.was (omega (arith, c.loop-b-test.true, c.loop-b.invariant.4, (opened c.args.d.now c.args.h c.requires.d_value.0).ruled.blocks_high)),
)

pub slice_bounds-finish-end : goal.slice_bounds-finish-end
slice_bounds-finish-end c =
    sym (ap length c.flagged-head.ensures ∙ flagged_length (is_tight_call c.args.rows.now) c.args.d.now
    c.args.h (opened c.args.d.now c.args.h c.requires.d_value.0).parsed)

pub slice_bounds-finish-end-2 : goal.slice_bounds-finish-end-2
slice_bounds-finish-end-2 c = sym c.loop-b.invariant.4

pub finish-requires : goal.finish-requires
finish-requires c =
    omega (arith, c.loop-b.invariant.4, (opened c.args.d.now c.args.h c.requires.d_value.0).ruled.blocks_high)

pub shape_of-set : goal.shape_of-set
shape_of-set c = c.loop-b.invariant.1

pub shape_of-lines : goal.shape_of-lines
shape_of-lines c = c.loop-b.invariant.2

pub shape_of-rs : goal.shape_of-rs
shape_of-rs c = c.loop-b.invariant.3

pub returns : goal.returns
returns c =
    laid_end c.args.d.now c.args.h c.args.rows.now _ _ c.loop-b.lengths c.loop-b.at c.loop-b.b
    (omega (arith, c.loop-b.auto.b-end, c.loop-b-test.false)) c.loop-b.invariant.5
    c.requires.d_value.0 c.requires.d_value.1 c.loop-b.invariant.4 c.loop-b.invariant.0 _ c.flagged-head.ensures _ _ c.finish.ensures
