-- `stream::block_bytes` meets its contract: its range lies in the bytes, by `range_inside`. Assumes nothing.
use mathlib.Core.List.{List}
use mathlib.Core.Path.{◌≡◌, ap, ◌∙◌}
use Prim.Native.Nat.{ℕ, ◌^◌, ◌<◌}
use lib.ListN.{length}
use Rattle.stream.specs.Streams.{range_of}
use Rattle.stream.specs.Ranges.{part_of, Short}
use Rattle.stream.specs.Inside.{Inside}
use Rattle.stream.proofs.StreamLaws.{range_inside, part_lt}
use Rattle.stream.proofs.block_bytes.Goals as goal
use Rattle.std.specs.Prelude.{Result}
use Rattle.bits.specs.declared.ByteOffset.{ByteOffset}
use Rattle.stream.specs.declared.header.Refusal.{Refusal}

inside : (d : List ℕ) (b : ℕ) (r : Result (ByteOffset × ℕ) Refusal) → r ≡ range_of d b → Inside d r
inside d b r e = rw e (range_inside d b)

short : (d p : List ℕ) (r : Result (ByteOffset × ℕ) Refusal) → p ≡ part_of d r → Short r → length p < 2 ^ 32
short d p r e h = rw e (part_lt d r h)

pub part-requires : goal.part-requires
part-requires c = inside _ _ _ c.block_range.ensures.0

pub returns : goal.returns
returns c =
    (c.part.ensures ∙ ap (part_of _) c.block_range.ensures.0, short c.args.d.now _ c.block_range.result c.part.ensures c.block_range.ensures.1)
