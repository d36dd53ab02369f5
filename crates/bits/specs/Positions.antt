-- Rules. Positions that a reader goes to.
use Rattle.std.specs.Prelude.{ℕ, ◌+◌, ◌-◌, ◌%◌, ◌^◌, min}

-- the position n bits on; positions end at 2^64 − 1
abbrev pub ahead : ℕ → ℕ → ℕ
ahead p n = min (p + n) (2 ^ 64 - 1)

-- the position at which the next byte begins, or p where a byte begins there
abbrev pub aligned : ℕ → ℕ
aligned p = ahead p ((8 - p % 8) % 8)
