-- `stream::header::keeps_kind_rules` meets its contract, rule by rule. Assumes nothing.
use Rattle.stream.specs.Headers.{kind_rules}
use native.Mathlib.Omega.{arith}
use Rattle.stream.proofs.header.keeps_kind_rules.Goals as goal

pub returns : goal.returns
unfolding kind_rules
returns c = rw (c.byte-kind.ensures.0, c.byte-bits.ensures.0, c.pair.ensures.0, c.byte.ensures.0)

pub byte-kind-requires : goal.byte-kind-requires
byte-kind-requires c = omega (arith, c.requires)

pub byte-bits-requires : goal.byte-bits-requires
byte-bits-requires c = omega (arith, c.requires)

pub pair-requires : goal.pair-requires
pair-requires c = omega
    (arith, c.requires)

pub byte-requires : goal.byte-requires
byte-requires c = omega (arith, c.requires)
