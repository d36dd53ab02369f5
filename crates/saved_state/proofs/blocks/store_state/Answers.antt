-- `saved_state::blocks::store_state` meets its contract: the lines from the top are read, and what they leave is stored. Assumes nothing.
use mathlib.Core.Path.{◌≡◌, refl, ap, ◌∙◌}
use Prim.Native.Nat.{ℕ, ◌+◌, ◌*◌}
use native.Mathlib.Omega.{arith}
use lib.ListN.{length, replicate}
use Rattle.image_map.specs.Places.{width_of}
use Rattle.stream.proofs.StreamLaws.{opened}
use Rattle.stream.proofs.HeaderLaws.{parsed}
use Rattle.read_block.specs.Images.{form_of}
use Rattle.read_block.proofs.RangeLaws.{all_started}
use Rattle.read_block.proofs.LeftLaws.{form_samples, form_depth}
use Rattle.saved_state.proofs.StoringLaws.{judged_done, header_starts, store_answered, store_left}
use Rattle.saved_state.proofs.blocks.store_state.Goals as goal

pub start_records-requires : goal.start_records-requires
start_records-requires c =
    let k = (opened c.args.d.now c.args.h c.requires.d_value.0).ruled in
    (c.requires.scratch_of.1, ((k.bits_low, k.bits_high), c.base_of.ensures.1))

pub overflow_add-line : goal.overflow_add-line
overflow_add-line c =
    let k = (opened c.args.d.now c.args.h c.requires.d_value.0).ruled in
    let j = judged_done c.args.d.now c.args.b c.args.h c.args.line _ c.requires.d_value.1 in
    omega (arith, j.below, k.lines_high)

pub read_lines-got-requires : goal.read_lines-got-requires
read_lines-got-requires c =
    let k = (opened c.args.d.now c.args.h c.requires.d_value.0).ruled in
    let j = judged_done c.args.d.now c.args.b c.args.h c.args.line _ c.requires.d_value.1 in
    let depth = form_depth (form_of c.args.h) c.args.h refl k in record {
      block_len_bound = (
        c.block_bytes-block.ensures.1,
        (
          form_samples (form_of c.args.h) c.args.h refl _ (omega (arith, c.clear.auto, c.requires.scratch_of.0)),
          omega (arith, c.start_records.auto, c.requires.scratch_of.1),
        ),
      );
      depth = (depth, omega (arith, j.below, k.lines_high));
      fits = c.no_part.ensures _;
      all_numbered = c.no_entries.ensures.1;
      all_in_range = (
        rw c.start_records.ensures (all_started _ _ k.bits_high),
        (
          rw c.start_place.ensures (omega arith),
          (c.clear.new.lines, form_samples (form_of c.args.h) c.args.h refl _ (omega (arith, c.clear.auto, c.requires.scratch_of.0)), refl),
        ),
      );
    }

pub put_walked-requires : goal.put_walked-requires
put_walked-requires c =
    let o = opened c.args.d.now c.args.h c.requires.d_value.0 in
    let j = judged_done c.args.d.now c.args.b c.args.h c.args.line _ c.requires.d_value.1 in record {
      in_bounds = ((parsed c.args.d.now c.args.h o.parsed).whole, omega (arith, j.below, o.ruled.lines_high));
      scratch_of = (
        (
          omega (arith, c.read_lines-got.auto, c.clear.auto, c.requires.scratch_of.0),
          omega (arith, c.read_lines-got.auto, c.start_records.auto, c.requires.scratch_of.1),
        ),
        j.fits,
      );
    }

pub returns : goal.returns
returns c =
    let q = c.read_lines-got.ensures _ (form_samples (form_of c.args.h) c.args.h refl _ (omega (arith, c.clear.auto, c.requires.scratch_of.0))) refl in
    let z =
    header_starts (form_of c.args.h) c.args.h c.base_row-bases.result.now c.base_of.result _ _ _ _
    refl c.clear.ensures c.requires.scratch_of.0 c.start_records.ensures c.base_of.ensures.0
    c.start_place.ensures in
    let e : length c.read_lines-got.new.lines ≡ 18 * (width_of c.args.h.xtrans + 2) = omega
    (arith, c.read_lines-got.auto, c.clear.auto, c.requires.scratch_of.0) in record {
      value = store_answered c.args.d.now c.args.b c.args.h c.args.line _ _ _ _ _ _ c.read_lines-got.result c.args.state.now c.args.state.now _
          refl c.base_row-bases.ensures c.block_bytes-block.ensures.0 z q.0
          c.read_answer.ensures c.requires.d_value.1;
      state_after = store_left c.args.d.now c.args.b c.args.h c.args.line 0 _ _ _ _ _ c.read_lines-got.result _ _ _
          refl c.base_row-bases.ensures c.block_bytes-block.ensures.0 z q.0
          c.read_answer.ensures c.put_walked.ensures;
      lines_after = (c.clear-2.ensures ∙ ap (λ (n : ℕ). replicate n 0) e, c.clear_records.ensures);
    }
