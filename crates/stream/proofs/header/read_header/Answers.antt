-- `stream::header::read_header` meets its contract: each field is what the bytes say. Assumes nothing.
use Rattle.stream.specs.Headers.{header_of}
use native.Mathlib.Omega.{arith}
use Rattle.stream.proofs.header.read_header.Goals as goal

pub returns : goal.returns
unfolding header_of
returns c =
    rw (
      c.byte.ensures.0,
      c.byte-2.ensures.0,
      c.byte-3.ensures.0,
      c.pair.ensures.0,
      c.pair-2.ensures.0,
      c.pair-3.ensures.0,
      c.pair-4.ensures.0,
      c.byte-4.ensures.0,
      c.pair-5.ensures.0,
    )

pub byte-requires : goal.byte-requires
byte-requires c = omega (arith, c.requires)

pub byte-requires-2 : goal.byte-requires-2
byte-requires-2 c = omega (arith, c.requires)

pub byte-requires-3 : goal.byte-requires-3
byte-requires-3 c = omega (arith, c.requires)

pub pair-requires : goal.pair-requires
pair-requires c = omega (arith, c.requires)

pub pair-requires-2 : goal.pair-requires-2
pair-requires-2 c = omega (arith, c.requires)

pub pair-requires-3 : goal.pair-requires-3
pair-requires-3 c = omega (arith, c.requires)

pub pair-requires-4 : goal.pair-requires-4
pair-requires-4 c = omega (arith, c.requires)

pub byte-requires-4 : goal.byte-requires-4
byte-requires-4 c = omega (arith, c.requires)

pub pair-requires-5 : goal.pair-requires-5
pair-requires-5 c = omega (arith, c.requires)
