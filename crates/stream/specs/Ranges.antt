-- Rules. Ranges of a stream: cut to its end, and the bytes that lie in one.
use Rattle.std.specs.Prelude.{List, [], ℕ, ◌^◌, ◌<◌, min, length, take, drop, Err, Ok, Result}
use Rattle.bits.specs.declared.ByteOffset.{ByteOffset}
use Rattle.stream.specs.declared.header.Refusal.{Refusal}

-- cut to the stream's end
abbrev pub cut : List ℕ → ℕ → ℕ
cut d at = min at (length d)

-- the part of the bytes that a range says; a refused call hands back nothing
abbrev pub part_of : List ℕ → Result (ByteOffset × ℕ) Refusal → List ℕ
part_of d (Ok (from, n)) = take n (drop from.0 d)
part_of d (Err r) = []

-- a range of less than 2^32 bytes, as a block's is, since its size has 4 bytes
abbrev pub Short : Result (ByteOffset × ℕ) Refusal → Type 0
Short (Ok (from, n)) = n < 2 ^ 32
Short (Err r) = Unit {0}
