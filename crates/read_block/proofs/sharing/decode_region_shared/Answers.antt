-- `read_block::sharing::decode_region_shared` meets its contract, by the three ways in which a call begins. Assumes nothing.
use borrow.Author.Rules.{rules}
use mathlib.Core.Path.{sym, ◌∙◌}
use Rattle.admission.proofs.CallLaws.{region_reads}
use Rattle.read_block.specs.Lent.{Buffers}
use Rattle.read_block.proofs.LeftLaws.{lines_back, records_back}
use Rattle.read_block.proofs.SharedLeft.{shared_refused, shared_nothing, shared_reading}
use Rattle.numbers.proofs.PassedLaws.{answered}
use Rattle.read_block.proofs.sharing.decode_region_shared.Goals as goal
use Rattle.read_block.proofs.sharing.decode_region_shared.Goals.{Start}

abbrev lent : (c : Start) → Buffers
lent c = record { image = c.args.image.now; lines = c.args.lines.now; records = c.args.rs.now }

pub returns-in-Err : goal.returns-in-Err
returns-in-Err c =
    shared_refused c.args.camera c.args.d.now c.args.r c.args.tile c.args.entries.all (lent (goal.at.returns-in-Err c).Start) _ _ c.mended-sound.ensures.0 _
    (sym c.region_begins-begins.ensures ∙ c.in-Err.is) _ _ c.handed_back.ensures.0 c.handed_back.ensures.1

pub returns-in_default : goal.returns-in_default
returns-in_default c =
    shared_nothing c.args.camera c.args.d.now c.args.r c.args.tile c.args.entries.all (lent (goal.at.returns-in_default c).Start) _ _ c.mended-sound.ensures.0
    (sym c.region_begins-begins.ensures ∙ answered c.in-Ok.is c.in_default.is) _ _ c.handed_back-in_default.ensures.0 c.handed_back-in_default.ensures.1

pub slice_bounds-decode_shared_blocks-end : goal.slice_bounds-decode_shared_blocks-end
slice_bounds-decode_shared_blocks-end c =
    let k = region_reads _ _ _ _ _ _ (sym c.region_begins-begins.ensures ∙ answered c.in-Ok.is c.in-Some.is) in
    search (rules, k.fits.for_lines)

pub slice_bounds-decode_shared_blocks-end-in-Ok : goal.slice_bounds-decode_shared_blocks-end-in-Ok
slice_bounds-decode_shared_blocks-end-in-Ok c =
    let k = region_reads _ _ _ _ _ _ (sym c.region_begins-begins.ensures ∙ answered c.in-Ok.is c.in-Some.is) in
    search (rules, k.fits.for_records)

pub decode_shared_blocks-got-requires : goal.decode_shared_blocks-got-requires
decode_shared_blocks-got-requires c =
    let k = region_reads _ _ _ _ _ _ (sym c.region_begins-begins.ensures ∙ answered c.in-Ok.is c.in-Some.is) in
    record {
      d_value = (k.opens, k.region);
      scratch_in = ((search rules, search rules), c.mended-sound.ensures.1);
    }

pub returns-in-Some : goal.returns-in-Some
returns-in-Some c =
    shared_reading c.args.camera c.args.d.now c.args.r c.args.tile c.args.entries.all (lent (goal.at.returns-in-Some c).Start) _ _ c.mended-sound.ensures.0 c.in-Some.h
    (sym c.region_begins-begins.ensures ∙ answered c.in-Ok.is c.in-Some.is) _ _ _ c.decode_shared_blocks-got.ensures.answer_value.0 c.decode_shared_blocks-got.ensures.answer_value.1 c.decode_shared_blocks-got.ensures.pictured_shared
    (lines_back c.in-Some.h.xtrans c.samples_needed-used.result c.args.lines.now _ c.samples_needed-used.ensures.0 c.decode_shared_blocks-got.ensures.lines_after.0)
    (records_back c.args.rs.now _ c.decode_shared_blocks-got.ensures.lines_after.1) _ _ c.handed_back-in-Ok.ensures.0 c.handed_back-in-Ok.ensures.1
