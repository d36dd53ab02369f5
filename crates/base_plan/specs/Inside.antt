-- Inside. What only our own functions say.
use Rattle.std.specs.Prelude.{Bool, List, ◌≡◌, ℕ, zero, suc, ◌+◌, ◌-◌, ◌^◌, ◌≤◌, ◌<◌, ltb, length, get_or}
use Rattle.numbers.specs.Numbers.{flag, least_from}
use Rattle.base_plan.specs.Records.{first_line, last_line, start_of, good_records}
use Rattle.base_plan.specs.declared.counts.Read.{Read}
use Rattle.base_plan.specs.Counts.{is_amiss}

-- the good records, and where they end
pub record IsRead (d : List ℕ) (lines : ℕ) (r : Read) : Type 0 where
  pub records : r.records ≡ good_records d lines
  pub end : r.end ≡ start_of d r.records
  pub few : r.records ≤ r.end
  pub inside : r.end ≤ length d

-- how many of the first m records begin before line n, and how many have ended so that the line after their last is before n
unfoldable pub begun_before : List ℕ → ℕ → ℕ → ℕ
begun_before d n zero = 0
begun_before d n (suc m) = begun_before d n m + flag (ltb (first_line d (start_of d m)) n)

unfoldable pub ended_before : List ℕ → ℕ → ℕ → ℕ
ended_before d n zero = 0
ended_before d n (suc m) = ended_before d n m + flag (ltb (last_line d (start_of d m) + 1) n)

-- the entries before n, added
unfoldable pub sum_before : List ℕ → ℕ → ℕ
sum_before l zero = 0
sum_before l (suc n) = sum_before l n + get_or l n 0

-- the counts of m records
pub record Marked (d : List ℕ) (m : ℕ) (begins ends : List ℕ) : Type 0 where
  pub begin_long : length begins ≡ 2732
  pub end_long : length ends ≡ 2732
  pub begin_low : (i : ℕ) → get_or begins i 0 ≤ m
  pub end_low : (i : ℕ) → get_or ends i 0 ≤ m
  pub begun : (n : ℕ) → sum_before begins n ≡ begun_before d n m
  pub ended : (n : ℕ) → sum_before ends n ≡ ended_before d n m

-- no more have ended than have begun, and the sums fit
abbrev pub Balanced : List ℕ → List ℕ → Type 0
Balanced begins ends = (n : ℕ) → (sum_before ends n ≤ sum_before begins n) × (sum_before begins n < 2 ^ 64)

-- the lowest line at which that many records hold too many or none
unfoldable pub amiss_in : Bool → List ℕ → List ℕ → ℕ → ℕ
amiss_in twice begins ends lines = least_from lines (λ n. is_amiss twice (sum_before begins (n + 1) - sum_before ends (n + 1))) 0
