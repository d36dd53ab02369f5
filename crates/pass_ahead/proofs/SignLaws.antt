-- A sample by its step and by a number that is odd where the gradient is negative, and the quantiser of a record. Assumes nothing.
use mathlib.Core.Bool.{Bool, true, false, xor}
use mathlib.Core.Path.{◌≡◌, sym, ◌∙◌}
use Prim.Native.Nat.{ℕ, suc, ◌+◌, ◌-◌, ◌*◌, ◌/◌, ◌%◌, ◌^◌, ◌≤◌, ◌<◌}
use native.Mathlib.Nat.{mul-le-mul_left}
use native.Mathlib.Omega.{arith}
use lib.Dec.{eqb}
use borrow.Author.Tests.{eq-eqb, ne_eqb, lt-ltb, le-ltb}
use Rattle.numbers.proofs.OrderLaws.{split}
use Rattle.quantiser.proofs.GradientLaws.{main_le, flat_le}
use Rattle.prediction.specs.Predictions.{flatness_of}
use Rattle.prediction.specs.declared.Context.{Context}
use Rattle.code.specs.Samples.{residual_of, wrap, sample_of}
use Rattle.code.specs.Inside.{Moved}
use Rattle.code.proofs.MovedLaws.{down, up, inside}
use Rattle.pass_steps.specs.Contexts.{look_of, slot_of}
use Rattle.pass_steps.proofs.LookLaws.{choice_cases}
use Rattle.pass_ahead.specs.Tables.{choice_at}

-- a sum is odd where one of the two is
odd_sum : (a b : ℕ) → eqb ((a + b) % 2) 1 ≡ xor (eqb (a % 2) 1) (eqb (b % 2) 1)
unfolding xor
odd_sum a b =
    split (a % 2) 0
    (λ h. split (b % 2) 0
    (λ k. rw (ne_eqb ((a + b) % 2) 1 (λ e. omega arith), ne_eqb (a % 2) 1 (λ e. omega arith), ne_eqb (b % 2) 1 (λ e. omega arith)))
    (λ k. rw (eq-eqb ((a + b) % 2) 1 (omega arith), ne_eqb (a % 2) 1 (λ e. omega arith), eq-eqb (b % 2) 1 (omega arith))))
    (λ h. split (b % 2) 0
    (λ k. rw (eq-eqb ((a + b) % 2) 1 (omega arith), eq-eqb (a % 2) 1 (omega arith), ne_eqb (b % 2) 1 (λ e. omega arith)))
    (λ k. rw (ne_eqb ((a + b) % 2) 1 (λ e. omega arith), eq-eqb (a % 2) 1 (omega arith), eq-eqb (b % 2) 1 (omega arith))))

pub product_lt : (n step : ℕ) → n ≤ 2 ^ 20 → step < 512 → n * step < 2 ^ 29
product_lt n step hn hs = let a : n * step ≤ n * 511 = mul-le-mul_left n (omega arith) in omega arith

module _ (m q step total flip g code size : ℕ) (minus : Bool) (es : step ≡ 2 * q + 1) (er : size ≡ (residual_of code).size)
    (em : minus ≡ eqb ((flip + code) % 2) 1) where
  abbrev negative : Bool
  negative = eqb (flip % 2) 1

  sign : minus ≡ xor negative (eqb (code % 2) 1)
  sign = em ∙ odd_sum flip code

  pub inside_by : (x : ℕ) → Moved minus g (size * step) x → x ≤ m → m < 2 ^ 16 → size * step < 2 ^ 29 → x ≡ sample_of m q total negative g code
  inside_by x mv h hm hd = inside m q total negative g code size x minus er sign (rw es at mv) h hm (rw es at hd)

  pub down_by : (r : ℕ) → minus ≡ true → r ≡ wrap m q (total * step) g (size * step) → r ≡ sample_of m q total negative g code
  down_by r t w = down m q total negative g code size r minus er sign t (rw es at w)

  pub up_by : (r : ℕ) → minus ≡ false → r ≡ wrap m q (total * step) (g + size * step) 0 → r ≡ sample_of m q total negative g code
  up_by r t w = up m q total negative g code size r minus er sign t (rw es at w)

pub choice_first : (slot : ℕ) → slot % 56 < 41 → 0 ≡ choice_at slot
unfolding choice_at
choice_first slot h = rw (lt-ltb (slot % 56) 41 h)

pub choice_flat : (slot : ℕ) → 41 ≤ slot % 56 → (slot % 56 - 36) / 5 ≡ choice_at slot
unfolding choice_at
choice_flat slot h = rw (le-ltb (slot % 56) 41 h)

-- the record of a look is one of its quantiser's
main_at : (p g : ℕ) → g ≤ 40 → choice_at (slot_of p g) ≡ 0
main_at p g h = sym (choice_first (slot_of p g) (omega arith))

flat_at : (p i g : ℕ) → i < 3 → g ≤ 4 → choice_at (slot_of p (36 + 5 * suc i + g)) ≡ suc i
flat_at p i g hi hg =
    let slot : ℕ = slot_of p (36 + 5 * suc i + g) in
    let e : slot % 56 ≡ 36 + 5 * suc i + g = omega arith in
    sym (choice_flat slot (omega arith)) ∙ rw e (omega arith)

pub choice_of_look : (p q : ℕ) (x : Context) → choice_at (slot_of p (look_of q x).place) ≡ (look_of q x).choice
unfolding look_of
choice_of_look p q x =
    choice_cases q (flatness_of x)
    (λ e. rw e (main_at p _ (main_le q x.first x.second)))
    (λ i e h f. rw (e, ne_eqb (suc i) 0 (omega arith)) (flat_at p i _ h (flat_le (suc i - 1) x.first x.second (omega arith))))
