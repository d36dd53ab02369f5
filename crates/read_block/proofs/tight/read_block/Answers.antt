-- `read_block::tight::read_block` meets its contract, by the two ways in which a call begins. Assumes nothing.
use borrow.Author.Rules.{rules}
use mathlib.Core.Path.{sym, ◌∙◌}
use Rattle.admission.proofs.CallLaws.{block_reads}
use Rattle.read_block.specs.Images.{form_of, bytes_in, bases_in}
use Rattle.read_block.specs.Lent.{Scratch}
use Rattle.read_block.proofs.LeftLaws.{block_refused, block_read, lines_back, records_back}
use Rattle.read_block.proofs.TightLaws.{read_told}
use Rattle.read_block.proofs.tight.read_block.Goals as goal
use Rattle.read_block.proofs.tight.read_block.Goals.{Start}

abbrev lent : (c : Start) → Scratch
lent c = record { lines = c.args.lines.now; records = c.args.rs.now }

pub returns-in-Err : goal.returns-in-Err
returns-in-Err c =
    block_refused _ (lent (goal.at.returns-in-Err c).Start) _ _ (sym c.block_begins-begins.ensures ∙ c.in-Err.is) _ c.refused.ensures

pub slice_bounds-walk_block-end : goal.slice_bounds-walk_block-end
slice_bounds-walk_block-end c =
    let k = block_reads _ _ _ _ _ _ (sym c.block_begins-begins.ensures ∙ c.in-Ok.is) in
    search (rules, k.fits.for_lines)

pub slice_bounds-walk_block-end-in-Ok : goal.slice_bounds-walk_block-end-in-Ok
slice_bounds-walk_block-end-in-Ok c =
    let k = block_reads _ _ _ _ _ _ (sym c.block_begins-begins.ensures ∙ c.in-Ok.is) in
    search (rules, k.fits.for_records)

pub walk_block-got-requires : goal.walk_block-got-requires
walk_block-got-requires c =
    let k = block_reads _ _ _ _ _ _ (sym c.block_begins-begins.ensures ∙ c.in-Ok.is) in
    record {
      d_value = k.opens;
      scratch_of = (search rules, search rules);
    }

pub returns-in-Ok : goal.returns-in-Ok
returns-in-Ok c =
    block_read _ (lent (goal.at.returns-in-Ok c).Start) _ c.in-Ok.h (sym c.block_begins-begins.ensures ∙ c.in-Ok.is) _ _
    (record {
      answered = c.read_answer.ensures ∙ read_told (form_of c.in-Ok.h) (bases_in c.args.d.now c.args.b) (bytes_in c.args.d.now c.args.b) c.in-Ok.h.lines c.args.b c.walk_block-got.result c.walk_block-got.ensures.walked;
      lines = lines_back c.in-Ok.h.xtrans c.samples_needed-used.result c.args.lines.now _ c.samples_needed-used.ensures.0 c.walk_block-got.ensures.lines_after.0;
      records = records_back c.args.rs.now _ c.walk_block-got.ensures.lines_after.1;
    })
