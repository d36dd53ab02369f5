-- `tight_diagnosis::walk_alone` meets its contract: its own scratch is long enough. Assumes nothing.
use borrow.Author.Rules.{rules}
use Rattle.tight_diagnosis.proofs.walk_alone.Goals as goal

pub walk-requires : goal.walk-requires
walk-requires c =
    record {
      block_len_bound = (c.requires.block_len_bound.0, (search rules, search rules));
      depth = c.requires.block_len_bound.1;
      fits = search rules;
      all_numbered = c.no_entries.ensures.1;
    }
