-- `saved_state::blocks::resume_lines` meets its contract: what the bytes hold is loaded, and the lines are read from there. Assumes nothing.
use mathlib.Core.Path.{◌≡◌, refl, ap, ◌∙◌}
use Prim.Native.Nat.{ℕ, ◌+◌, ◌*◌, ◌^◌, ◌<◌}
use native.Mathlib.Omega.{arith}
use lib.ListN.{length, replicate}
use Rattle.image_map.specs.Places.{width_of}
use Rattle.image_map.proofs.PlaceLaws.{width_le}
use Rattle.image_region.proofs.RegionLaws.{lines_inside}
use Rattle.read_block.proofs.LeftLaws.{form_samples, form_depth}
use Rattle.saved_state.proofs.LoadLaws.{Loads, loads_at, loaded_is, loaded_ranges}
use Rattle.saved_state.proofs.ResumedLaws.{resumed_all, wanted_few, wanted_fits}
use Rattle.image_region.specs.Regions.{line_count}
use Rattle.admission.specs.Beginnings.{samples_needed}
use Rattle.read_block.specs.Walks.{AllInRange}
use Rattle.read_block.specs.Images.{form_of, bytes_in}
use Rattle.saved_state.specs.Resuming.{is_touched}
use Rattle.saved_state.proofs.blocks.resume_lines.Goals as goal
use Rattle.saved_state.proofs.blocks.resume_lines.Goals.{After-no_entries, Start}

-- what the bytes are known to be
held : (c : Start) → let bytes = bytes_in c.args.d.now c.args.b in
    Loads (width_of c.args.h.xtrans) c.args.h.bits c.args.h.lines (length bytes) c.args.s.now c.args.k c.args.at
held c = loads_at _ _ _ _ _ _ _ _ _ c.requires.b_lt_blocks.1

-- all 18 lines are there
long : (c : After-no_entries) → length c.load_lines.new.lines ≡ samples_needed c.args.h.xtrans
long c =
    form_samples (form_of c.args.h) c.args.h refl _ (omega (arith, c.load_lines.auto, c.clear.auto, c.requires.scratch_of.0))

-- and fewer lines than a picture has are read
few : (c : After-no_entries) → c.args.k + c.lines_wanted-more.result < 2 ^ 16
few c =
    let w = wanted_few (is_touched c.args.r c.args.b) (line_count c.args.r) c.args.k c.lines_wanted-more.result c.lines_wanted-more.ensures in
    omega (arith, (held (goal.at.After-no_entries c).Start).inside, (held (goal.at.After-no_entries c).Start).next, c.requires.d_value.1.ruled.lines_high, lines_inside c.args.h c.args.r _ c.requires.d_value.1, w)

ranges : (c : After-no_entries) → AllInRange c.load_records.new.rs
ranges c =
    loaded_ranges (form_of c.args.h) c.base_row-bases.result.now (bytes_in c.args.d.now c.args.b) c.requires.d_value.1.ruled.bits_high (rw c.block_bytes-block.ensures.0 at c.block_bytes-block.ensures.1) c.args.h.lines
    (omega (arith, c.requires.d_value.1.ruled.lines_high)) c.args.h.lossless c.args.s.now _ _ (held (goal.at.After-no_entries c).Start).good c.base_of.ensures.0 c.load_records.ensures

pub part_wanted-part-requires : goal.part_wanted-part-requires
part_wanted-part-requires c =
    (c.requires.d_value.1.wide, (c.requires.d_value.1.high, omega (arith, c.requires.b_lt_blocks.0, c.requires.d_value.1.ruled.blocks_high)))

pub lines_wanted-more-requires : goal.lines_wanted-more-requires
lines_wanted-more-requires c = (c.requires.d_value.1.wide, c.requires.d_value.1.high)

pub load_records-requires : goal.load_records-requires
load_records-requires c =
    record {
      in_bounds = (omega (arith, (held (goal.at.load_records-requires c).Start).whole), c.requires.scratch_of.1);
      depth = ((c.requires.d_value.1.ruled.bits_low, c.requires.d_value.1.ruled.bits_high), c.base_of.ensures.1);
    }

pub load_lines-requires : goal.load_lines-requires
load_lines-requires c = (
  rw c.width.ensures (width_le c.args.h.xtrans),
  (rw c.width.ensures (omega (arith, (held (goal.at.load_lines-requires c).Start).whole)), rw c.width.ensures (omega (arith, c.clear.auto, c.requires.scratch_of.0))),
)

pub read_lines-got-requires : goal.read_lines-got-requires
read_lines-got-requires c =
    let w = (goal.at.read_lines-got-requires c).After-no_entries in
    record {
      block_len_bound = (c.block_bytes-block.ensures.1, (long w, omega (arith, c.load_records.auto, c.requires.scratch_of.1)));
      depth = (form_depth (form_of c.args.h) c.args.h refl c.requires.d_value.1.ruled, few w);
      fits = wanted_fits c.args.h c.args.r _ c.args.b _ _ c.requires.d_value.1 refl c.part_wanted-part.ensures;
      all_numbered = c.no_entries.ensures.1;
      all_in_range = (ranges w, (rw c.place_at.ensures (omega arith), (c.load_lines.new.lines, long w, refl)));
    }

pub clear_records-requires : goal.clear_records-requires
clear_records-requires c =
    omega (arith, c.read_lines-got.auto, c.load_records.auto, c.requires.scratch_of.1)

pub shape_of-lines : goal.shape_of-lines
shape_of-lines c =
    omega (arith, c.clear-2.auto, c.read_lines-got.auto, c.load_lines.auto, c.clear.auto)

pub shape_of-rs : goal.shape_of-rs
shape_of-rs c =
    omega (arith, c.clear_records.auto, c.read_lines-got.auto, c.load_records.auto)

pub returns : goal.returns
returns c =
    let got = held (goal.at.returns c).Start in
    let q = c.read_lines-got.ensures _ (long (goal.at.returns c).After-no_entries) refl in
    let z =
    loaded_is (form_of c.args.h) c.args.h c.base_row-bases.result.now c.args.s.now c.base_of.result c.args.at _ _ _ _ _ _ refl
    c.load_lines.ensures c.width.ensures c.clear.ensures c.requires.scratch_of.0 c.base_of.ensures.0
    c.load_records.ensures c.place_at.ensures got.position in
    let e : length c.read_lines-got.new.lines ≡ 18 * (width_of c.args.h.xtrans + 2) = omega
    (arith, c.read_lines-got.auto, c.load_lines.auto, c.clear.auto, c.requires.scratch_of.0) in record {
      resumed = resumed_all c.args.d.now c.args.b c.args.h c.args.s.now c.args.r c.args.tile _ c.requires.d_value.1
          (form_of c.args.h) c.base_row-bases.result.now c.block_bytes-block.result.now _ c.args.k c.args.at c.lines_wanted-more.result c.part_wanted-part.result c.read_lines-got.result _ _ _ _
          refl c.base_row-bases.ensures c.block_bytes-block.ensures.0 z got.next got.position c.part_wanted-part.ensures c.lines_wanted-more.ensures q.0 q.1 c.resume_answer.ensures;
      lines_after = (c.clear-2.ensures ∙ ap (λ (n : ℕ). replicate n 0) e, c.clear_records.ensures);
    }
