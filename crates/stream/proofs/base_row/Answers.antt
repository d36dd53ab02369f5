-- `stream::base_row` meets its contract: its range lies in the bytes, by `row_inside`. Assumes nothing.
use mathlib.Core.List.{List}
use mathlib.Core.Path.{◌≡◌, ap, ◌∙◌}
use Prim.Native.Nat.{ℕ}
use Rattle.stream.specs.Streams.{row_of}
use Rattle.stream.specs.Ranges.{part_of}
use Rattle.stream.specs.Inside.{Inside}
use Rattle.stream.proofs.StreamLaws.{row_inside}
use Rattle.stream.proofs.base_row.Goals as goal
use Rattle.std.specs.Prelude.{Result}
use Rattle.bits.specs.declared.ByteOffset.{ByteOffset}
use Rattle.stream.specs.declared.header.Refusal.{Refusal}

inside : (d : List ℕ) (b : ℕ) (r : Result (ByteOffset × ℕ) Refusal) → r ≡ row_of d b → Inside d r
inside d b r e = rw e (row_inside d b)

pub part-requires : goal.part-requires
part-requires c = inside _ _ _ c.base_row_range.ensures

pub returns : goal.returns
returns c = c.part.ensures ∙ ap (part_of _) c.base_row_range.ensures
