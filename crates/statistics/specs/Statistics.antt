-- Rules. The adaptive statistics of a block: how a record gives k, and how a residual changes it.
use Rattle.std.specs.Prelude.{Bool, cond, ℕ, ◌+◌, ◌*◌, ◌/◌, ◌^◌, max, leb, eqb}
use Rattle.numbers.specs.Numbers.{least_from}
use Rattle.statistics.specs.declared.Record.{Record}

-- n·2^k ≥ max(sum, 1)
abbrev pub enough : ℕ → ℕ → ℕ → Bool
enough sum n k = leb (max sum 1) (n * 2 ^ k)

-- the k of a record: the least such number, capped at 15
unfoldable pub k_of : Record → ℕ
k_of t = least_from 15 (enough t.sum t.n) 0

-- the record after a residual of size r: r is added to sum; if n was 64 both are halved, rounding down; then 1 is added to n
unfoldable pub updated : Record → ℕ → Record
updated t r =
    cond (eqb t.n 64)
    (record { sum = (t.sum + r) / 2; n = t.n / 2 + 1 })
    (record { sum = t.sum + r; n = t.n + 1 })

-- no residual is larger: a code has at most 63 zeros before its one bit if it is short, and at most 15 bits after it
abbrev pub largest_residual : ℕ
largest_residual = 63 * 2 ^ 14
