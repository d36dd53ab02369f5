-- `tight_diagnosis::trace::trace_block` meets its contract: the colour lines that are lent are 0. Assumes nothing.
use borrow.Author.Rules.{rules}
use Rattle.tight_diagnosis.proofs.LineLaws.{zero_part}
use Rattle.tight_diagnosis.proofs.trace.trace_block.Goals as goal

pub trace_lines-requires : goal.trace_lines-requires
trace_lines-requires c =
    record {
      block_len_bound = c.requires;
      lines_value = (zero_part c.args.form.xtrans _ 9252 c.samples_needed-used.ensures.0 c.samples_needed-used.ensures.1, (search rules, search rules));
    }
