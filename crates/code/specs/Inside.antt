-- Inside. What only our own functions say.
use Rattle.std.specs.Prelude.{◌≡◌, ℕ, suc, ◌+◌, ◌-◌, ◌*◌, ◌/◌, ◌%◌, ◌^◌, ◌<◌, ◌≤◌, Bool, true, false, cond, ◌&&◌, List, length, nat_le, nat_lt, None, Some, Option}
use Rattle.code.specs.Codes.{short_code}
use Rattle.numbers.specs.declared.Signed.{Signed}
use Rattle.std.specs.Int.Count.{count_leading_zeros}
use Rattle.bits.specs.Inside.{word_at}
use Rattle.numbers.specs.Numbers.{flag}
use Rattle.code.specs.Tight.{is_tight}
use Rattle.code.specs.Wanted.{code_of_residual}
use Rattle.bits.specs.declared.BitPosition.{BitPosition}
use Rattle.code.specs.declared.Code.{Code}
use Rattle.code.specs.declared.Place.{Place}

-- how large a code that is read can be, and how far after the block's end it can reach
abbrev pub Bounds : List ℕ → Option Code → Type 0
Bounds s (Some c) = (c.value < 63 * 2 ^ 15) × (c.after.0 ≤ 8 * length s + 16)
Bounds s None = Unit {0}

abbrev pub Small : Option (ℕ × Place) → Type 0
Small (Some (value, place)) = value < 63 * 2 ^ 15
Small None = Unit {0}

-- what the machine gives for p − d, modulo 2^32, or for p + d
abbrev pub Moved : Bool → ℕ → ℕ → ℕ → Type 0
Moved true p d r = (r + d) % 2 ^ 32 ≡ p
Moved false p d r = r ≡ p + d

-- how many bits that is
unfoldable pub code_length : ℕ → ℕ → ℕ → ℕ → ℕ
code_length k limit raw code = cond (nat_lt (code / 2 ^ k) limit) (code / 2 ^ k + 1 + k) (limit + 1 + raw)

-- its value, and where the reading is after it: the position, whether all codes are tight with it, and how many are long
abbrev pub taken_of : ℕ → Bool → ℕ → Option Code → Option (ℕ × Place)
taken_of M tight long (Some c) = Some (c.value, record { at = c.after; tight = tight && is_tight M c; long = long + flag c.long })
taken_of M tight long None = None

-- the common case, at once: the word at p has its first one bit among 42, after fewer zeros than limit, and the short code there has a value up to M
unfoldable pub short_at : ℕ → ℕ → ℕ → List ℕ → ℕ → Option (ℕ × BitPosition)
short_at M k limit s p =
    let w = word_at s p in
    let c = short_code s p k (count_leading_zeros 64 w) in
    cond (nat_le (2 ^ 22) w && nat_lt c.zeros limit && nat_le c.value M) (Some (c.value, c.after)) None

-- how far it is from u up to v, where 0 follows M: (v − u) modulo M + 1
unfoldable pub steps_up : ℕ → ℕ → ℕ → ℕ
steps_up M u v = cond (nat_le u v) (v - u) (v + suc M - u)

-- the residual that leads d steps up, modulo M + 1: d, or the M + 1 − d steps down where that is less
unfoldable pub residual_up : ℕ → ℕ → Signed
residual_up M d =
    cond (nat_le (2 * d) M) (record { negative = false; size = d }) (record { negative = true; size = suc M - d })

-- the residual that gives the sample v at a prediction, under a gradient with that sign
unfoldable pub residual_for : ℕ → Bool → ℕ → ℕ → Signed
residual_for M negative prediction v = residual_up M (cond negative (steps_up M v prediction) (steps_up M prediction v))

-- the code below 2^bits that gives the sample v
unfoldable pub code_for : ℕ → Bool → ℕ → ℕ → ℕ
code_for M negative prediction v = code_of_residual (residual_for M negative prediction v)
