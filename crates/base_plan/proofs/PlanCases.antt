-- Some plans, computed; what is written in quotes is their text, with → for a tab and ; for a newline. Assumes nothing.
use mathlib.Core.List.{List, [], ◌∷◌}
use mathlib.Core.Path.{◌≡◌, refl}
use Prim.Native.Nat.{ℕ}
use Rattle.numbers.specs.Numbers.{least_from}
use Rattle.stream.specs.declared.header.Refusal.TheVariants.{BadRecord, HeldTwice, NotHeld}
use Rattle.base_plan.specs.Records.{digits_at, decimal, end_of, number_at, is_field, is_good, start_of, holds, good_records, holders, base_for}
use Rattle.base_plan.specs.Plans.{first_amiss, plan_answer}
use Rattle.std.specs.Prelude.{Err, Ok}

-- "0→9→5;"
accepted₁ : plan_answer (48 ∷ 9 ∷ 57 ∷ 9 ∷ 53 ∷ 10 ∷ []) 10 ≡ (Ok tt)
unfolding plan_answer good_records holders first_amiss digits_at decimal end_of number_at is_field is_good start_of holds least_from
accepted₁ = refl

-- "5→9→200;0→4→3;"
accepted₂ : plan_answer (53 ∷ 9 ∷ 57 ∷ 9 ∷ 50 ∷ 48 ∷ 48 ∷ 10 ∷ 48 ∷ 9 ∷ 52 ∷ 9 ∷ 51 ∷ 10 ∷ []) 10 ≡ (Ok tt)
unfolding plan_answer good_records holders first_amiss digits_at decimal end_of number_at is_field is_good start_of holds least_from
accepted₂ = refl

-- "00000→00009→00255;"
zeros_before : plan_answer (48 ∷ 48 ∷ 48 ∷ 48 ∷ 48 ∷ 9 ∷ 48 ∷ 48 ∷ 48 ∷ 48 ∷ 57 ∷ 9 ∷ 48 ∷ 48 ∷ 50 ∷ 53 ∷ 53 ∷ 10 ∷ []) 10 ≡ (Ok tt)
unfolding plan_answer good_records holders first_amiss digits_at decimal end_of number_at is_field is_good start_of holds least_from
zeros_before = refl

-- ""
empty : plan_answer ([]) 10 ≡ Err (NotHeld 0)
unfolding plan_answer good_records holders first_amiss digits_at decimal end_of number_at is_field is_good start_of holds least_from
empty = refl

-- ";"
no_field : plan_answer (10 ∷ []) 10 ≡ Err (BadRecord 1)
unfolding plan_answer good_records holders first_amiss digits_at decimal end_of number_at is_field is_good start_of holds least_from
no_field = refl

-- "0→4→5;5→9→5"
no_newline : plan_answer (48 ∷ 9 ∷ 52 ∷ 9 ∷ 53 ∷ 10 ∷ 53 ∷ 9 ∷ 57 ∷ 9 ∷ 53 ∷ []) 10 ≡ Err (BadRecord 2)
unfolding plan_answer good_records holders first_amiss digits_at decimal end_of number_at is_field is_good start_of holds least_from
no_newline = refl

-- "000000→9→5;"
six_digits : plan_answer (48 ∷ 48 ∷ 48 ∷ 48 ∷ 48 ∷ 48 ∷ 9 ∷ 57 ∷ 9 ∷ 53 ∷ 10 ∷ []) 10 ≡ Err (BadRecord 1)
unfolding plan_answer good_records holders first_amiss digits_at decimal end_of number_at is_field is_good start_of holds least_from
six_digits = refl

-- "0→9→256;"
base_256 : plan_answer (48 ∷ 9 ∷ 57 ∷ 9 ∷ 50 ∷ 53 ∷ 54 ∷ 10 ∷ []) 10 ≡ Err (BadRecord 1)
unfolding plan_answer good_records holders first_amiss digits_at decimal end_of number_at is_field is_good start_of holds least_from
base_256 = refl

-- "9→0→5;"
backwards : plan_answer (57 ∷ 9 ∷ 48 ∷ 9 ∷ 53 ∷ 10 ∷ []) 10 ≡ Err (BadRecord 1)
unfolding plan_answer good_records holders first_amiss digits_at decimal end_of number_at is_field is_good start_of holds least_from
backwards = refl

-- "0→10→5;"
past_the_last : plan_answer (48 ∷ 9 ∷ 49 ∷ 48 ∷ 9 ∷ 53 ∷ 10 ∷ []) 10 ≡ Err (BadRecord 1)
unfolding plan_answer good_records holders first_amiss digits_at decimal end_of number_at is_field is_good start_of holds least_from
past_the_last = refl

-- "0→3→5;3→4→6;"
held_twice : plan_answer (48 ∷ 9 ∷ 51 ∷ 9 ∷ 53 ∷ 10 ∷ 51 ∷ 9 ∷ 52 ∷ 9 ∷ 54 ∷ 10 ∷ []) 10 ≡ Err (HeldTwice 3)
unfolding plan_answer good_records holders first_amiss digits_at decimal end_of number_at is_field is_good start_of holds least_from
held_twice = refl

-- "0→3→1;5→9→1;"
held_by_none : plan_answer (48 ∷ 9 ∷ 51 ∷ 9 ∷ 49 ∷ 10 ∷ 53 ∷ 9 ∷ 57 ∷ 9 ∷ 49 ∷ 10 ∷ []) 10 ≡ Err (NotHeld 4)
unfolding plan_answer good_records holders first_amiss digits_at decimal end_of number_at is_field is_good start_of holds least_from
held_by_none = refl

-- of the second plan: line 4 lies in its second record, line 5 in its first
second : List ℕ
second = 53 ∷ 9 ∷ 57 ∷ 9 ∷ 50 ∷ 48 ∷ 48 ∷ 10 ∷ 48 ∷ 9 ∷ 52 ∷ 9 ∷ 51 ∷ 10 ∷ []

base₄ : base_for second 4 77 2 ≡ 3
unfolding second base_for digits_at decimal end_of number_at start_of holds least_from
base₄ = refl

base₅ : base_for second 5 77 2 ≡ 200
unfolding second base_for digits_at decimal end_of number_at start_of holds least_from
base₅ = refl
