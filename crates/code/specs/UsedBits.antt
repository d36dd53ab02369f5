-- Promises. Item 6: the bits that a code used, and whether it is long.
use Rattle.std.specs.Prelude.{◌≡◌, ℕ, ◌+◌, List, nat_le, Some}
use Rattle.code.specs.Codes.{code_at}
use Rattle.code.specs.declared.Code.{Code}

-- what is counted of a code that is read at p: its bits lead from p to the position after it, and it is long exactly if its zeros are not below limit
pub record Counts (p limit : ℕ) (c : Code) : Type 0 where
  pub bits : c.after.0 ≡ p + c.used
  pub long : c.long ≡ nat_le limit c.zeros

-- every code that is read
abbrev pub CodesCounted : Type 0
CodesCounted = (s : List ℕ) (p k limit raw : ℕ) (c : Code) → code_at s p k limit raw ≡ Some c → Counts p limit c
