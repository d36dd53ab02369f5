-- `read_block::decoding::decode_region_windowed` meets its contract, by the three ways in which a call begins. Assumes nothing.
use borrow.Author.Rules.{rules}
use mathlib.Core.Path.{sym, ap, ◌∙◌}
use Rattle.admission.proofs.CallLaws.{region_reads}
use Rattle.read_block.specs.Lent.{Buffers}
use Rattle.read_block.proofs.LeftLaws.{windowed_reading, windows_back, records_back}
use Rattle.read_block.proofs.decoding.decode_region_windowed.Goals as goal
use Rattle.read_block.proofs.decoding.decode_region_windowed.Goals.{Start}
use Rattle.std.specs.Prelude.{Ok, Option}
use Rattle.stream.specs.declared.header.FujiHeader.{FujiHeader}

abbrev lent : (c : Start) → Buffers
lent c = record { image = c.args.image.now; lines = c.args.lines.now; records = c.args.rs.now }

pub slice_bounds-decode_blocks-end : goal.slice_bounds-decode_blocks-end
slice_bounds-decode_blocks-end c =
    let k = region_reads _ _ _ _ _ _ (sym c.windowed_begins.ensures ∙ (c.in_ok-h.was ∙ ap (λ (o : Option FujiHeader). Ok o) c.in-Some.is)) in
    search (rules, k.fits.for_lines)

pub slice_bounds-decode_blocks-end-2 : goal.slice_bounds-decode_blocks-end-2
slice_bounds-decode_blocks-end-2 c =
    let k = region_reads _ _ _ _ _ _ (sym c.windowed_begins.ensures ∙ (c.in_ok-h.was ∙ ap (λ (o : Option FujiHeader). Ok o) c.in-Some.is)) in
    search (rules, k.fits.for_records)

pub decode_blocks-requires : goal.decode_blocks-requires
decode_blocks-requires c =
    let k = region_reads _ _ _ _ _ _ (sym c.windowed_begins.ensures ∙ (c.in_ok-h.was ∙ ap (λ (o : Option FujiHeader). Ok o) c.in-Some.is)) in
    record {
      d_value = (k.opens, k.region);
      scratch_in = (search rules, search rules);
    }

pub returns : goal.returns
returns c =
    windowed_reading c.args.d.now c.args.r c.args.tile (lent (goal.at.returns c).Start) _ c.in-Some.h (sym c.windowed_begins.ensures ∙ (c.in_ok-h.was ∙ ap (λ (o : Option FujiHeader). Ok o) c.in-Some.is)) _ _
    (record {
      answered = c.decode_blocks.ensures.value.0;
      pictured = c.decode_blocks.ensures.value.1;
      lines = windows_back c.in-Some.h.xtrans c.window_samples-used.result c.args.lines.now _ c.window_samples-used.ensures.0 c.decode_blocks.ensures.lines_after.0;
      records = records_back c.args.rs.now _ c.decode_blocks.ensures.lines_after.1;
    })
