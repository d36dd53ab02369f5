-- `saved_state::blocks::store_checkpoint` meets its contract, by the two ways in which a call begins. Assumes nothing.
use borrow.Author.Rules.{rules}
use mathlib.Core.Path.{sym, ◌∙◌}
use Rattle.admission.proofs.CallLaws.{block_reads}
use Rattle.read_block.specs.Lent.{Outputs}
use Rattle.read_block.proofs.LeftLaws.{lines_back, records_back}
use Rattle.saved_state.proofs.LeftLaws.{stored_refused, stored_reading}
use Rattle.saved_state.proofs.blocks.store_checkpoint.Goals as goal
use Rattle.saved_state.proofs.blocks.store_checkpoint.Goals.{Start}

abbrev lent : (c : Start) → Outputs
lent c = record { out = c.args.state.now; lines = c.args.lines.now; records = c.args.rs.now }

pub returns-in-Err : goal.returns-in-Err
returns-in-Err c =
    stored_refused c.args.d.now c.args.b c.args.line (lent (goal.at.returns-in-Err c).Start) _ _
    (sym c.block_begins-begins.ensures ∙ c.in-Err.is) _ c.refused.ensures

pub slice_bounds-store_in-end : goal.slice_bounds-store_in-end
slice_bounds-store_in-end c =
    let k = block_reads _ _ _ _ _ _ (sym c.block_begins-begins.ensures ∙ c.in-Ok.is) in
    search (rules, k.fits.for_lines)

pub slice_bounds-store_in-end-in-Ok : goal.slice_bounds-store_in-end-in-Ok
slice_bounds-store_in-end-in-Ok c =
    let k = block_reads _ _ _ _ _ _ (sym c.block_begins-begins.ensures ∙ c.in-Ok.is) in
    search (rules, k.fits.for_records)

pub store_in-requires : goal.store_in-requires
store_in-requires c =
    let k = block_reads _ _ _ _ _ _ (sym c.block_begins-begins.ensures ∙ c.in-Ok.is) in
    record {
      d_value = k.opens;
      scratch_of = (search rules, search rules);
    }

pub returns-in-Ok : goal.returns-in-Ok
returns-in-Ok c =
    stored_reading c.args.d.now c.args.b c.args.line (lent (goal.at.returns-in-Ok c).Start) _ c.in-Ok.h
    (sym c.block_begins-begins.ensures ∙ c.in-Ok.is) _ _
    (record {
      answered = c.store_in.ensures.value;
      output = c.store_in.ensures.state_after;
      lines = lines_back c.in-Ok.h.xtrans c.samples_needed-used.result c.args.lines.now _ c.samples_needed-used.ensures.0 c.store_in.ensures.lines_after.0;
      records = records_back c.args.rs.now _ c.store_in.ensures.lines_after.1;
    })
