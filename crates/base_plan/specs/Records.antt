-- Rules. The records of a plan: text, one record a line, three decimal fields parted by tabs: first line, last line, base. A record is known by the place at
-- which it starts; past the end of the text there is no digit and no mark. Assumes nothing.
use Rattle.std.specs.Prelude.{Bool, cond, not, ◌&&◌, List, ℕ, zero, suc, ◌+◌, ◌-◌, ◌*◌, leb, ltb, eqb, length, get_or}
use Rattle.numbers.specs.Numbers.{flag, least_from}

-- ---- a field: one to five digits, and then a mark

abbrev pub tab : ℕ
tab = 9

abbrev pub newline : ℕ
newline = 10

abbrev pub is_digit : ℕ → Bool
is_digit b = leb 48 b && leb b 57

-- how many digits there are from i on, of at most 5
unfoldable pub digits_at : List ℕ → ℕ → ℕ
digits_at d i = least_from 5 (λ j. not (is_digit (get_or d (i + j) 0))) 0

-- the number that n digits from i on make
unfoldable pub decimal : List ℕ → ℕ → ℕ → ℕ
decimal d i zero = 0
decimal d i (suc n) = decimal d i n * 10 + (get_or d (i + n) 0 - 48)

-- the place after the digits of a field, and its number
unfoldable pub end_of : List ℕ → ℕ → ℕ
end_of d i = i + digits_at d i

unfoldable pub number_at : List ℕ → ℕ → ℕ
number_at d i = decimal d i (digits_at d i)

unfoldable pub is_field : List ℕ → ℕ → ℕ → Bool
is_field d i mark = ltb i (end_of d i) && eqb (get_or d (end_of d i) 0) mark

-- ---- a record: three fields

-- where the second and the third start, and where the next record does
abbrev pub second_at : List ℕ → ℕ → ℕ
second_at d i = end_of d i + 1

abbrev pub third_at : List ℕ → ℕ → ℕ
third_at d i = end_of d (second_at d i) + 1

abbrev pub next_at : List ℕ → ℕ → ℕ
next_at d i = end_of d (third_at d i) + 1

abbrev pub first_line : List ℕ → ℕ → ℕ
first_line d i = number_at d i

abbrev pub last_line : List ℕ → ℕ → ℕ
last_line d i = number_at d (second_at d i)

abbrev pub base_at : List ℕ → ℕ → ℕ
base_at d i = number_at d (third_at d i)

abbrev pub is_well_formed : List ℕ → ℕ → Bool
is_well_formed d i = is_field d i tab && is_field d (second_at d i) tab && is_field d (third_at d i) newline

-- it is well formed, does not run backwards, does not pass the last line, and its base is at most 255
unfoldable pub is_good : List ℕ → ℕ → ℕ → Bool
is_good d lines i = is_well_formed d i && leb (first_line d i) (last_line d i) && ltb (last_line d i) lines && leb (base_at d i) 255

-- ---- the records of a plan, counted from 0: each starts where the one before it ends

unfoldable pub start_of : List ℕ → ℕ → ℕ
start_of d zero = 0
start_of d (suc k) = next_at d (start_of d k)

-- record k holds line n
unfoldable pub holds : List ℕ → ℕ → ℕ → Bool
holds d n k = leb (first_line d (start_of d k)) n && leb n (last_line d (start_of d k))

-- how many good records a plan starts with
unfoldable pub good_records : List ℕ → ℕ → ℕ
good_records d lines = least_from (length d) (λ k. not (is_good d lines (start_of d k))) 0

-- how many of the first m records hold line n
unfoldable pub holders : List ℕ → ℕ → ℕ → ℕ
holders d n zero = 0
holders d n (suc m) = holders d n m + flag (holds d n m)

-- the byte of line n after m records, where it was `old`: the base of a record that holds it
unfoldable pub base_for : List ℕ → ℕ → ℕ → ℕ → ℕ
base_for d n old zero = old
base_for d n old (suc m) = cond (holds d n m) (base_at d (start_of d m)) (base_for d n old m)
