-- `statistics::too_small_from` meets its contract. The invariant: what the search from j on still adds to j, and the numbers counted so far, make up what the search
-- from k on adds to k. Assumes nothing.
use mathlib.Core.Path.{◌≡◌}
use Prim.Native.Nat.{ℕ, ◌+◌, ◌-◌, ◌≤◌}
use Rattle.numbers.specs.Numbers.{least_from}
use Rattle.statistics.specs.Statistics.{enough}
use Rattle.statistics.proofs.too_small_from.Given as goal

-- where the search from j on ends
abbrev pub from : ℕ → ℕ → ℕ → ℕ
from sum n j = least_from (15 - j) (enough sum n) j

abbrev pub Counted : ℕ → ℕ → ℕ → ℕ → ℕ → Type 0
Counted sum n k count j = (count + k ≤ j) × (from sum n j + (count + k) ≡ from sum n k + j)

abbrev pub invariant-loop-j : goal.invariant-loop-j
invariant-loop-j l = Counted l.sum l.n l.k l.count l.j
