-- Rules. The other way, for any quantiser: the residual whose step comes nearest to a wanted sample, and its code.
use Rattle.std.specs.Prelude.{ℕ, ◌+◌, ◌-◌, ◌*◌, ◌/◌, Bool, cond, not, nat_lt}
use Rattle.std.specs.Bool.{xor}
use Rattle.numbers.specs.Numbers.{distance}
use Rattle.numbers.specs.declared.Signed.{Signed}
use Rattle.code.specs.Wanted.{code_of_residual}

-- the residual whose step comes nearest to v from a prediction g: the step 2q + 1 is odd, so that no two are equally near
unfoldable pub nearest : ℕ → ℕ → ℕ → Signed
nearest q g v = record { negative = nat_lt v g; size = (distance v g + q) / (2 * q + 1) }

-- a gradient that is negative turns it round
abbrev pub turned_by : Bool → Signed → Signed
turned_by negative r = record { negative = xor negative r.negative; size = r.size }

-- brought into the code values 0 to total − 1 by adding or taking away total
unfoldable pub code_within : ℕ → Signed → ℕ
code_within total r =
    cond (nat_lt (code_of_residual r) total) (code_of_residual r) (code_of_residual (record { negative = not r.negative; size = total - r.size }))

-- the code of a wanted sample v under a quantiser with base q and that total
unfoldable pub code_near : ℕ → ℕ → Bool → ℕ → ℕ → ℕ
code_near q total negative g v = code_within total (turned_by negative (nearest q g v))
