-- `stream::header::keeps_size_rules` meets its contract, rule by rule. Assumes nothing.
use Rattle.stream.specs.Headers.{size_rules}
use Rattle.stream.proofs.header.keeps_size_rules.Goals as goal

pub returns : goal.returns
unfolding size_rules
returns c = rw (
  c.is_within.ensures,
  c.is_within-2.ensures,
  c.is_within-3.ensures,
  c.saturating_sub.ensures,
)
