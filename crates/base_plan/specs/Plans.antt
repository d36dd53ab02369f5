-- Promises. What a plan gives: refusals 18, 19 and 20 in this order, or a base for each line; and what a call leaves.
use Rattle.std.specs.Prelude.{Bool, true, false, cond, List, ◌≡◌, ℕ, ◌+◌, ◌<◌, ltb, eqb, length, get_or, Err, Ok, Result}
use Rattle.numbers.specs.Numbers.{least_from}
use Rattle.stream.specs.Headers.{parse_of}
use Rattle.stream.specs.declared.header.Refusal.TheVariants.{Lossless, WrongBases, BadRecord, HeldTwice, NotHeld}
use Rattle.base_plan.specs.Records.{start_of, good_records, holders, base_for}
use Rattle.base_plan.specs.Counts.{is_amiss}
use Rattle.stream.specs.declared.header.FujiHeader.{FujiHeader}
use Rattle.stream.specs.declared.header.Refusal.{Refusal}

-- the lowest line with two holders or more, and the lowest with none, of m records; lines if there is none such
unfoldable pub first_amiss : Bool → List ℕ → ℕ → ℕ → ℕ
first_amiss twice d lines m = least_from lines (λ n. is_amiss twice (holders d n m)) 0

abbrev pub first_twice : List ℕ → ℕ → ℕ → ℕ
first_twice = first_amiss true

abbrev pub first_none : List ℕ → ℕ → ℕ → ℕ
first_none = first_amiss false

-- the answer once the records are read: 18 if text is left after the good ones, then 19, then 20
unfoldable pub plan_answer : List ℕ → ℕ → Result Unit Refusal
plan_answer d lines =
    let m = good_records d lines in
    cond (ltb (start_of d m) (length d)) (Err (BadRecord (m + 1)))
    (cond (ltb (first_twice d lines m) lines) (Err (HeldTwice (first_twice d lines m)))
    (cond (ltb (first_none d lines m) lines) (Err (NotHeld (first_none d lines m))) (Ok tt)))

-- refusals 16 and 17, after those of the header and before the plan is read
abbrev pub answer_in : List ℕ → ℕ → Result FujiHeader Refusal → Result Unit Refusal
answer_in d room (Err r) = Err r
answer_in d room (Ok h) =
    cond h.lossless (Err Lossless)
    (cond (eqb room h.lines) (plan_answer d h.lines) (Err WrongBases))

unfoldable pub planned_answer : List ℕ → List ℕ → ℕ → Result Unit Refusal
planned_answer header d room = answer_in d room (parse_of header)

-- the lent bytes after a call: unchanged by a refusal, else line by line
abbrev pub byte_after : List ℕ → ℕ → Result Unit Refusal → ℕ → ℕ → ℕ
byte_after d lines (Ok tt) n old = base_for d n old (good_records d lines)
byte_after d lines (Err r) n old = old

pub record BasesAfter (d : List ℕ) (bases bases' : List ℕ) (answer : Result Unit Refusal) : Type 0 where
  pub as_long : length bases' ≡ length bases
  pub bytes : (n : ℕ) → n < length bases → get_or bases' n 0 ≡ byte_after d (length bases) answer n (get_or bases n 0)
