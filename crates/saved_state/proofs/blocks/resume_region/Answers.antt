-- `saved_state::blocks::resume_region` meets its contract, by the three ways in which a call begins. Assumes nothing.
use borrow.Author.Rules.{rules}
use mathlib.Core.Path.{sym, ◌∙◌}
use Rattle.admission.proofs.ResumingLaws.{resume_reads}
use Rattle.read_block.specs.Lent.{Buffers}
use Rattle.read_block.proofs.LeftLaws.{lines_back, records_back}
use Rattle.saved_state.proofs.LeftLaws.{resumed_refused, resumed_nothing, resumed_reading}
use Rattle.numbers.proofs.PassedLaws.{answered}
use Rattle.saved_state.proofs.blocks.resume_region.Goals as goal
use Rattle.saved_state.proofs.blocks.resume_region.Goals.{Start}

abbrev lent : (c : Start) → Buffers
lent c = record { image = c.args.image.now; lines = c.args.lines.now; records = c.args.rs.now }

pub returns-in-Err : goal.returns-in-Err
returns-in-Err c =
    resumed_refused c.args.d.now c.args.b c.args.state.now c.args.r c.args.tile (lent (goal.at.returns-in-Err c).Start) _ _
    (sym c.resume_begins-begins.ensures ∙ c.in-Err.is) _ c.refused.ensures

pub returns-in_default : goal.returns-in_default
returns-in_default c =
    resumed_nothing c.args.d.now c.args.b c.args.state.now c.args.r c.args.tile (lent (goal.at.returns-in_default c).Start) _
    (sym c.resume_begins-begins.ensures ∙ answered c.in-Ok.is c.in_default.is) _ c.nothing_counted.ensures

pub slice_bounds-resume_in-end : goal.slice_bounds-resume_in-end
slice_bounds-resume_in-end c =
    let k = resume_reads _ _ _ _ _ _ _ (sym c.resume_begins-begins.ensures ∙ answered c.in-Ok.is c.in-Some.is) in
    search (rules, k.0.fits.for_lines)

pub slice_bounds-resume_in-end-in-Ok : goal.slice_bounds-resume_in-end-in-Ok
slice_bounds-resume_in-end-in-Ok c =
    let k = resume_reads _ _ _ _ _ _ _ (sym c.resume_begins-begins.ensures ∙ answered c.in-Ok.is c.in-Some.is) in
    search (rules, k.0.fits.for_records)

pub resume_in-requires : goal.resume_in-requires
resume_in-requires c =
    let k = resume_reads _ _ _ _ _ _ _ (sym c.resume_begins-begins.ensures ∙ answered c.in-Ok.is c.in-Some.is) in
    record {
      d_value = (k.0.opens, (k.1, k.0.region));
      scratch_of = (search rules, search rules);
    }

pub returns-in-Some : goal.returns-in-Some
returns-in-Some c =
    resumed_reading c.args.d.now c.args.b c.args.state.now c.args.r c.args.tile (lent (goal.at.returns-in-Some c).Start) _ c.in-Some.h
    (sym c.resume_begins-begins.ensures ∙ answered c.in-Ok.is c.in-Some.is) _ _
    (record {
      resumed = c.resume_in.ensures.resumed_in;
      lines = lines_back c.in-Some.h.xtrans c.samples_needed-used.result c.args.lines.now _ c.samples_needed-used.ensures.0 c.resume_in.ensures.lines_after.0;
      records = records_back c.args.rs.now _ c.resume_in.ensures.lines_after.1;
    })
