-- Rules. Why a code that was read is bad. A reason is one of three: it is 2^bits or more (Large); it is long where the short form fits (Escape); it has more
-- zeros than the limit (Zeros). Assumes nothing.
use Rattle.std.specs.Prelude.{ℕ, ◌/◌, ◌^◌, cond, ◌&&◌, nat_le, nat_lt, None, Some, Option}
use Rattle.code.specs.declared.Code.{Code}
use Rattle.code.specs.declared.reasons.Reason.{Reason}
use Rattle.code.specs.declared.reasons.Reason.TheVariants.{Large, Escape, Zeros}

-- the reason of a code that was read; none if it is tight. Where two apply, the one that stands first above is given. A code is long when its zeros
-- reach the limit, and the short form fits if ⌊code/2^k⌋ is below the limit
unfoldable pub reason_of : ℕ → ℕ → ℕ → Code → Option Reason
reason_of M k limit c =
    cond (nat_lt M c.value) (Some Large)
    (cond (nat_le limit c.zeros && nat_lt (c.value / 2 ^ k) limit) (Some Escape)
    (cond (nat_lt limit c.zeros) (Some Zeros) None))

-- a code that is cut off is not called bad
abbrev pub coded_reason : ℕ → ℕ → ℕ → Option Code → Option Reason
coded_reason M k limit (Some c) = reason_of M k limit c
coded_reason M k limit None = None
