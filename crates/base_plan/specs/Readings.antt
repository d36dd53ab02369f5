-- Inside. What the functions that read and write records hand back to each other. A reader of the rules needs none of it.
use Rattle.std.specs.Prelude.{cond, ◌&&◌, List, ◌≡◌, ℕ, ◌+◌, ◌≤◌, ◌<◌, leb, ltb, length, get_or, None, Option, Some}
use Rattle.base_plan.specs.Records.{number_at, end_of, is_field, first_line, last_line, base_at, next_at, is_good, base_for}
use Rattle.base_plan.specs.declared.records.Field.{Field}
use Rattle.base_plan.specs.declared.records.Row.{Row}

unfoldable pub field_of : List ℕ → ℕ → ℕ → Option Field
field_of d i mark = cond (is_field d i mark) (Some (record { number = number_at d i; next = end_of d i + 1 })) None

abbrev pub FieldInside : List ℕ → ℕ → Option Field → Type 0
FieldInside d i (Some f) = (i < f.next) × (f.next ≤ length d)
FieldInside d i None = Unit {0}

unfoldable pub row_of : List ℕ → ℕ → ℕ → Option Row
row_of d lines i = cond (is_good d lines i) (Some (record { first = first_line d i; last = last_line d i; base = base_at d i; next = next_at d i })) None

abbrev pub RowInside : List ℕ → ℕ → ℕ → Option Row → Type 0
RowInside d lines i (Some r) = (r.first ≤ r.last) × (r.last < lines) × (r.base ≤ 255) × (i < r.next) × (r.next ≤ length d)
RowInside d lines i None = Unit {0}

-- ---- bytes

-- the bytes from first on and before n have one value
pub record Filled (first n v : ℕ) (l l' : List ℕ) : Type 0 where
  pub as_long : length l' ≡ length l
  pub bytes : (i : ℕ) → get_or l' i 0 ≡ cond (leb first i && ltb i n) v (get_or l i 0)

-- the bases of m records are there
pub record Written (d : List ℕ) (m : ℕ) (l l' : List ℕ) : Type 0 where
  pub as_long : length l' ≡ length l
  pub bytes : (n : ℕ) → get_or l' n 0 ≡ base_for d n (get_or l n 0) m
