-- `read_set::read_set` meets its contract, by the two ways in which a call begins. Assumes nothing.
use borrow.Author.Rules.{rules}
use mathlib.Core.Path.{sym, ◌∙◌}
use Rattle.read_block.specs.Images.{form_of, bytes_in, bases_in}
use Rattle.read_block.proofs.LeftLaws.{lines_back, records_back}
use Rattle.read_block.proofs.TightLaws.{read_told}
use Rattle.read_set.specs.HandedSets.{Sets}
use Rattle.read_set.proofs.CallLaws.{set_reads, set_refused, set_read_lem}
use Rattle.read_set.proofs.read_set.Goals as goal
use Rattle.read_set.proofs.read_set.Goals.{Start}

abbrev lent : (c : Start) → Sets
lent c = record { set = c.args.set.now; lines = c.args.lines.now; records = c.args.rs.now }

pub returns-in-Err : goal.returns-in-Err
returns-in-Err c =
    set_refused c.args.d.now c.args.b (lent (goal.at.returns-in-Err c).Start) _ _ (sym c.set_begins-begins.ensures ∙ c.in-Err.is) _ c.refused.ensures

pub slice_bounds-read_in-end : goal.slice_bounds-read_in-end
slice_bounds-read_in-end c =
    let k = set_reads _ _ _ _ _ _ (sym c.set_begins-begins.ensures ∙ c.in-Ok.is) in
    search (rules, k.fits.for_lines)

pub slice_bounds-read_in-end-in-Ok : goal.slice_bounds-read_in-end-in-Ok
slice_bounds-read_in-end-in-Ok c =
    let k = set_reads _ _ _ _ _ _ (sym c.set_begins-begins.ensures ∙ c.in-Ok.is) in
    search (rules, k.fits.for_records)

pub read_in-got-requires : goal.read_in-got-requires
read_in-got-requires c =
    let k = set_reads _ _ _ _ _ _ (sym c.set_begins-begins.ensures ∙ c.in-Ok.is) in
    record {
      d_value = k.opens;
      scratch_of = ((search rules, search rules), k.whole);
    }

pub returns-in-Ok : goal.returns-in-Ok
returns-in-Ok c =
    set_read_lem c.args.d.now c.args.b (lent (goal.at.returns-in-Ok c).Start) _ c.in-Ok.h (sym c.set_begins-begins.ensures ∙ c.in-Ok.is) _ _
    (record {
      answered = c.read_answer.ensures ∙ read_told (form_of c.in-Ok.h) (bases_in c.args.d.now c.args.b) (bytes_in c.args.d.now c.args.b)
          c.in-Ok.h.lines c.args.b c.read_in-got.result c.read_in-got.ensures.walked;
      set = c.read_in-got.ensures.set_after;
      lines = lines_back c.in-Ok.h.xtrans c.samples_needed-used.result c.args.lines.now _ c.samples_needed-used.ensures.0 c.read_in-got.ensures.lines_after.0;
      records = records_back c.args.rs.now _ c.read_in-got.ensures.lines_after.1;
    })
