-- `write_block::counted::length_next` meets its contract: the length, refusal 13, or the walk that stores. Assumes nothing.
use mathlib.Core.Bool.{Bool, true, false}
use mathlib.Core.Path.{◌≡◌, sym, ◌∙◌}
use Prim.Native.Nat.{ℕ}
use lib.Dec.{ltb}
use Rattle.bits.specs.BitLists.{block_bytes}
use Rattle.bits.specs.declared.BitPosition.{BitPosition}
use Rattle.stream.specs.declared.header.Refusal.TheVariants.{ShortOutput}
use Rattle.write_block.specs.Counted.{length_next}
use Rattle.write_block.specs.declared.counted.Next.TheVariants.{Answer, Store}
use Rattle.write_block.proofs.counted.length_next.Goals as goal
use Rattle.std.specs.Prelude.{Err, Ok}

module _ (end : BitPosition) (measure : Bool) (room n : ℕ) (e : n ≡ block_bytes end.0) where
  measured : measure ≡ true → Answer (Ok n) ≡ length_next end measure room
  measured m = rw (m, e)

  short : measure ≡ false → (b : Bool) → b ≡ ltb room n → b ≡ true → Answer (Err ShortOutput) ≡ length_next end measure room
  short m b eb h = let f : ltb room (block_bytes end.0) ≡ true = rw e at (sym eb ∙ h) in rw (m, f)

  stored : measure ≡ false → (b : Bool) → b ≡ ltb room n → b ≡ false → Store end ≡ length_next end measure room
  stored m b eb h = let f : ltb room (block_bytes end.0) ≡ false = rw e at (sym eb ∙ h) in rw (m, f)

pub returns-then-measure : goal.returns-then-measure
returns-then-measure c = measured _ _ _ _ c.block_bytes-needed.ensures c.if-measure.true

pub returns-then-is_short : goal.returns-then-is_short
returns-then-is_short c = short _ _ _ _ c.block_bytes-needed.ensures c.if-measure.false _ c.is_short.ensures c.if-is_short.true

pub returns : goal.returns
returns c = stored _ _ _ _ c.block_bytes-needed.ensures c.if-measure.false _ c.is_short.ensures c.if-is_short.false
