-- Rules. The bits of a block: most significant first, zeros after the end. Positions count bits.
use Rattle.std.specs.Prelude.{cond, List, ℕ, zero, suc, ◌+◌, ◌-◌, ◌*◌, ◌/◌, ◌%◌, ◌^◌, ltb, length, get_or, None, Option, Some}
use Rattle.std.specs.Int.Count.{under}

-- the bit at position i of the bytes s
unfoldable pub bit_at : List ℕ → ℕ → ℕ
bit_at s i = get_or s (i / 8) 0 / 2 ^ (7 - i % 8) % 2

-- the number that the n bits from position p on make
unfoldable pub bits_at : List ℕ → ℕ → ℕ → ℕ
bits_at s p zero = zero
bits_at s p (suc n) = bits_at s p n * 2 + bit_at s (p + n)

-- how many of the n bits from p on stand before the first one bit: n where there is none (`under b m` is 0 where b is 1, and m + 1 where it is 0)
unfoldable pub zeros : List ℕ → ℕ → ℕ → ℕ
zeros s p zero = zero
zeros s p (suc n) = under (bit_at s p) (zeros s (suc p) n)

-- the zero run at p: the zeros up to the next one bit of the block's bytes, or none where no one bit is left in them
unfoldable pub zero_run : List ℕ → ℕ → Option ℕ
zero_run s p =
    cond (ltb (zeros s p (8 * length s - p)) (8 * length s - p)) (Some (zeros s p (8 * length s - p))) None

-- four bytes as one number, most significant first
abbrev pub be32 : List ℕ → ℕ → ℕ
be32 s i = get_or s i 0 * 0x1000000 + get_or s (i + 1) 0 * 0x10000 + get_or s (i + 2) 0 * 0x100 + get_or s (i + 3) 0
