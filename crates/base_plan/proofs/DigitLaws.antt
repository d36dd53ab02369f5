-- Digits and fields of a plan. Assumes nothing.
use mathlib.Core.Bool.{true, false, not}
use mathlib.Core.List.{List}
use mathlib.Core.Path.{◌≡◌, refl, ◌∙◌}
use Prim.Native.Nat.{ℕ, ◌+◌, ◌-◌, ◌*◌, ◌^◌, ◌≤◌, ◌<◌}
use native.Mathlib.Nat.{pow-suc, pow-le-pow_right}
use native.Mathlib.Numerals.{add-one}
use native.Mathlib.Omega.{arith}
use lib.Dec.{leb, lit<}
use lib.ListN.{length, get_or}
use borrow.Author.Tests.{leb-true}
use Rattle.numbers.specs.Numbers.{least_from}
use Rattle.numbers.proofs.BoolLaws.{both}
use Rattle.numbers.proofs.LeastLaws.{least_last, least_here, least_next}
use Rattle.base_plan.specs.Records.{is_digit, digits_at, decimal, end_of, number_at}

-- a digit is one of ten bytes
pub digit_range : (b : ℕ) → is_digit b ≡ true → (48 ≤ b) × (b ≤ 57)
digit_range b e = let t = both (leb 48 b) (leb b 57) e in (leb-true 48 b t.0, leb-true b 57 t.1)

module _ (d : List ℕ) (i : ℕ) where
  -- the search for the first byte that is no digit, from the n-th on
  abbrev pub digits_from : ℕ → ℕ
  digits_from n = least_from (5 - n) (λ j. not (is_digit (get_or d (i + j) 0))) n

  pub from_start : digits_at d i ≡ digits_from 0
  unfolding digits_at
  from_start = refl

  pub from_here : (n : ℕ) → is_digit (get_or d (i + n) 0) ≡ false → digits_from n ≡ n
  from_here n e = least_here (5 - n) (λ j. not (is_digit (get_or d (i + j) 0))) n (rw e)

  pub from_next : (n : ℕ) → n < 5 → is_digit (get_or d (i + n) 0) ≡ true → digits_from n ≡ digits_from (n + 1)
  from_next n h e =
      let f : 5 - n - 1 ≡ 5 - (n + 1) = omega arith in
      least_next (5 - n) (λ j. not (is_digit (get_or d (i + j) 0))) n (omega arith) (rw e) ∙ rw f

  pub from_last : (n : ℕ) → n ≤ 5 → 5 ≤ n → digits_from n ≡ n
  from_last n a b = least_last (5 - n) (λ j. not (is_digit (get_or d (i + j) 0))) n (omega arith)

  -- what n digits make
  pub no_digits : 0 ≡ decimal d i 0
  unfolding decimal
  no_digits = refl

  pub one_digit : (n v b : ℕ) → v ≡ decimal d i n → b ≡ get_or d (i + n) 0 → v * 10 + (b - 48) ≡ decimal d i (n + 1)
  unfolding decimal
  one_digit n v b e f = rw (add-one n, e, f)

  -- what the search leaves
  pub found : (n v at : ℕ) → digits_at d i ≡ n → v ≡ decimal d i n → at ≡ i + n → at ≤ length d → (v ≡ number_at d i) × (at ≡ end_of d i) × (at ≤ length d)
  unfolding number_at end_of
  found n v at e f g h = (rw e f, rw e g, h)

-- a number of n digits is below 10^n
pub small_next : (n v b : ℕ) → v < 10 ^ n → b ≤ 57 → v * 10 + (b - 48) < 10 ^ (n + 1)
small_next n v b h l = rw (add-one n) (omega (arith, pow-suc 10 n))

pub small_five : (n : ℕ) → n ≤ 5 → 10 ^ n ≤ 100000
small_five n h = pow-le-pow_right {n = 10} (lit< tt) {j = 5} h
