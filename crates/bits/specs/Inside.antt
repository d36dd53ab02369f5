-- Inside. What only our own functions say.
use Rattle.std.specs.Prelude.{List, ℕ, ◌+◌, ◌-◌, ◌/◌, ◌*◌, ◌%◌, ◌^◌, replicate, length, cond, leb, None, Option, Some}
use Rattle.std.proofs.Math.Seq.{paste}
use Rattle.bits.specs.BitLists.{block_bytes}
use Rattle.bits.specs.Bits.{bits_at}

-- the bytes that n bits touch, the last of them counted whole
abbrev pub bytes_for : ℕ → ℕ
bytes_for n = (n + 7) / 8

-- bytes in which those after the first n bits are 0, up to the length of a tight block with so many bits
abbrev pub filled : ℕ → List ℕ → List ℕ
filled n s = paste s (bytes_for n) (replicate (block_bytes n - bytes_for n) 0) (block_bytes n - bytes_for n)

-- the position behind the one bit of a run at p, or p where there is none
abbrev pub after_run : ℕ → Option ℕ → ℕ
after_run p (Some z) = p + z + 1
after_run p None = p

-- the bits from p on at the top of a word of 64: those up to the end of the eighth byte from p's own on, and zeros below
abbrev pub top_bits : List ℕ → ℕ → ℕ
top_bits s p = bits_at s p (64 - p % 8) * 2 ^ (p % 8)

-- the same where those eight bytes are all there, and 0 elsewhere
unfoldable pub word_at : List ℕ → ℕ → ℕ
word_at s p = cond (leb (p / 8 + 8) (length s)) (top_bits s p) 0
