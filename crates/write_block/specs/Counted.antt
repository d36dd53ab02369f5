-- Inside. What follows once a walk has counted the bits of a set: an answer, or the walk that stores them.
use Rattle.std.specs.Prelude.{Bool, false, cond, ℕ, ◌*◌, leb, ltb, Err, Ok, Result}
use Rattle.bits.specs.BitLists.{block_bytes}
use Rattle.bits.specs.declared.BitPosition.{BitPosition}
use Rattle.stream.specs.declared.header.Refusal.TheVariants.{NotPredicted, ShortOutput}
use Rattle.write_block.specs.declared.counted.Next.{Next}
use Rattle.write_block.specs.declared.counted.Next.TheVariants.{Answer, Store}

-- a set is to be written, and no block of so many lines is longer than the room for it
abbrev pub is_ample : Bool → (bits lines room : ℕ) → Bool
is_ample measure bits lines room = cond measure false (leb (lines * 2304 * bits) room)

-- the length of a set that is only measured; else refusal 13, or there is room for the block
abbrev pub length_next : BitPosition → Bool → ℕ → Next
length_next end measure room =
    cond measure
    (Answer (Ok (block_bytes end.0)))
    (cond (ltb room (block_bytes end.0)) (Answer (Err ShortOutput)) (Store end))

-- refusal 12 before that
abbrev pub next_of : Result BitPosition ℕ → Bool → ℕ → Next
next_of (Err j) measure room = Answer (Err (NotPredicted j))
next_of (Ok end) measure room = length_next end measure room
