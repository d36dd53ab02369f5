-- Rules. Quantisers: how a difference becomes a level, and the numbers by which a code is read.
use Rattle.std.specs.Prelude.{cond, ℕ, ◌+◌, ◌-◌, ◌*◌, ◌/◌, ◌^◌, max, leb, ltb}
use Rattle.numbers.specs.Numbers.{minus, up, down, least_from}
use Rattle.numbers.specs.declared.Signed.{Signed}
use Rattle.quantiser.specs.declared.Quantiser.{Quantiser}

-- M, the largest sample
abbrev pub largest : ℕ → ℕ
largest bits = 2 ^ bits - 1

-- total = ⌊(M + 2q) / (2q + 1)⌋ + 1
unfoldable pub total_of : ℕ → ℕ → ℕ
total_of bits q = (largest bits + 2 * q) / (2 * q + 1) + 1

-- raw = log2 of total, rounded up: the least number whose power of 2 reaches total. No total is above 2^16
unfoldable pub raw_of : ℕ → ℕ → ℕ
raw_of bits q = least_from 16 (λ r. leb (total_of bits q) (2 ^ r)) 0

-- the quantiser with base q whose first level counts `weight` times in the gradient; limit = 4·bits − raw − 1
unfoldable pub quantiser_of : ℕ → ℕ → ℕ → Quantiser
quantiser_of bits q weight =
    record {
      base = q;
      weight = weight;
      total = total_of bits q;
      raw = raw_of bits q;
      limit = 4 * bits - raw_of bits q - 1;
    }

-- the main quantiser of a line with base q; a lossless line has base 0
abbrev pub main_of : ℕ → ℕ → Quantiser
main_of bits q = quantiser_of bits q 9

-- flat quantiser 1, 2 or 3: base 0, 1 or 2
abbrev pub flat_of : ℕ → ℕ → Quantiser
flat_of bits i = quantiser_of bits (i - 1) 3

-- the sum that a quantiser's records start with; their n starts at 1
unfoldable pub start_sum : Quantiser → ℕ
start_sum Q = max 2 ((Q.total + 32) / 64)

-- the size of the level of a difference of size m by these thresholds
unfoldable pub level_size : ℕ → ℕ → ℕ
level_size q m =
    cond (leb m q) 0
    (cond (ltb m (3 * q + 18)) 1
    (cond (ltb m (5 * q + 67)) 2
    (cond (ltb m (7 * q + 276)) 3 4)))

-- the level of a difference: it takes the difference's sign
unfoldable pub level_of : ℕ → Signed → Signed
level_of q v = record { negative = v.negative; size = level_size q v.size }

-- the gradient: weight · level of the first difference + level of the second
unfoldable pub gradient_of : ℕ → ℕ → Signed → Signed → Signed
gradient_of q weight first second =
    let a = level_of q first in
    let b = level_of q second in
    minus (weight * up a + up b) (weight * down a + down b)
