-- Rules. Numbers that may be negative, as a sign and a size. No rule below needs an integer type: a difference a − b is made from the two
-- naturals a and b, and `-` on naturals stops at 0. Assumes nothing.
use Rattle.std.specs.Prelude.{Bool, cond, ℕ, zero, suc, ◌+◌, ◌-◌, ltb}
use Rattle.numbers.specs.declared.Signed.{Signed}

-- |a − b|
abbrev pub distance : ℕ → ℕ → ℕ
distance a b = (a - b) + (b - a)

-- a − b
abbrev pub minus : ℕ → ℕ → Signed
minus a b = record { negative = ltb a b; size = distance a b }

-- what a number is above 0, and what it is below
abbrev pub up : Signed → ℕ
up x = cond x.negative 0 x.size

abbrev pub down : Signed → ℕ
down x = cond x.negative x.size 0

-- 1 where a test holds, else 0
abbrev pub flag : Bool → ℕ
flag b = cond b 1 0

-- the least number from k on, and at most k + f, at which a test holds; k + f where it holds at none before
unfoldable pub least_from : ℕ → (ℕ → Bool) → ℕ → ℕ
least_from zero test k = k
least_from (suc f) test k = let next = least_from f test (suc k) in cond (test k) k next
