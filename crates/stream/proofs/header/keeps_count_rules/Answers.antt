-- `stream::header::keeps_count_rules` meets its contract, rule by rule. Assumes nothing.
use Rattle.stream.specs.Headers.{count_rules}
use Rattle.stream.proofs.header.keeps_count_rules.Goals as goal

pub returns : goal.returns
unfolding count_rules
returns c = rw (c.is_within.ensures, c.is_within-2.ensures)
