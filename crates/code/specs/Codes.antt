-- Rules. One code of a block, at a bit position.
use Rattle.std.specs.Prelude.{ℕ, ◌+◌, ◌*◌, ◌/◌, ◌^◌, true, false, cond, ◌&&◌, List, ◌==◌, nat_le, nat_lt, None, Option, Some}
use Rattle.bits.specs.Bits.{bits_at, zero_run}
use Rattle.code.specs.declared.Code.{Code}

-- after z zeros and a one bit. Below limit the code is short: z·2^k + the next k bits
abbrev pub short_code : List ℕ → ℕ → ℕ → ℕ → Code
short_code s p k z =
    record {
      zeros = z;
      value = z * 2 ^ k + bits_at s (p + z + 1) k;
      minimal = true;
      long = false;
      used = z + 1 + k;
      after = record { 0 = p + z + 1 + k };
    }

-- otherwise it is long: the next raw bits + 1. It is minimal, with no bit that it could do without, if it has exactly limit zeros and a short
-- code would have as many
abbrev pub long_code : List ℕ → ℕ → ℕ → ℕ → ℕ → ℕ → Code
long_code s p k limit raw z =
    record {
      zeros = z;
      value = bits_at s (p + z + 1) raw + 1;
      minimal = z == limit && nat_le limit ((bits_at s (p + z + 1) raw + 1) / 2 ^ k);
      long = true;
      used = z + 1 + raw;
      after = record { 0 = p + z + 1 + raw };
    }

abbrev pub code_after : List ℕ → ℕ → ℕ → ℕ → ℕ → Option ℕ → Option Code
code_after s p k limit raw (Some z) = cond (nat_lt z limit) (Some (short_code s p k z)) (Some (long_code s p k limit raw z))
code_after s p k limit raw None = None

-- the code at p: zeros are counted up to a one bit; where none is left in the block's bytes, the line is truncated
unfoldable pub code_at : List ℕ → ℕ → ℕ → ℕ → ℕ → Option Code
code_at s p k limit raw = code_after s p k limit raw (zero_run s p)
