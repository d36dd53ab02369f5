-- The choice of a quantiser by counting the bounds that a flatness has reached. Assumes nothing.
use Rattle.std.proofs.Common.{◌≡◌, ℕ, zero, suc, ◌+◌, ◌%◌, ◌<◌, ◌≤◌, cond, ltb, leb, zero-le, arith, le-ltb, le-leb}
use borrow.Author.Tests.{lt-leb}
use Rattle.numbers.specs.Numbers.{flag}
use Rattle.numbers.proofs.OrderLaws.{split}
use Rattle.code.specs.Samples.{choice_of}

-- the three bounds, and how many of them are reached
abbrev pub first : ℕ → ℕ
first q = cond (ltb q 1) 0 6

abbrev pub second : ℕ → ℕ
second q = cond (ltb q 2) (first q) 7

abbrev pub third : ℕ → ℕ
third q = cond (ltb q 3) (second q) 8

abbrev pub reached : ℕ → ℕ → ℕ → ℕ → ℕ
reached a b c f = (flag (leb a f) + flag (leb b f) + flag (leb c f) + 1) % 4

-- a flatness is below all bounds, between two, or above all
cases : {X : Type 0} (f : ℕ) → (f < 6 → X) → (f ≡ 6 → X) → (f ≡ 7 → X) → (8 ≤ f → X) → X
cases f below six seven above =
    split 6 f (λ h. split 7 f (λ k. split 8 f above (λ l. seven (omega arith))) (λ k. six (omega arith))) below

all : (q f : ℕ) → 3 ≤ q → reached 6 7 8 f ≡ choice_of q f
unfolding choice_of
all q f h =
    rw (le-leb 1 q (omega arith), le-leb 2 q (omega arith), le-leb 3 q h)
    (cases f
    (λ k. rw (lt-leb 6 f k, lt-leb 7 f (omega arith), lt-leb 8 f (omega arith), le-leb f 5 (omega arith)))
    (λ e. rw e)
    (λ e. rw e)
    (λ k. rw (le-leb 6 f (omega arith), le-leb 7 f (omega arith), le-leb 8 f k, lt-leb f 5 (omega arith), lt-leb f 6 (omega arith), lt-leb f 7 k)))

pub counted : (q f : ℕ) → reached (first q) (second q) (third q) f ≡ choice_of q f
unfolding choice_of
counted zero f = rw (le-leb 0 f zero-le)
counted (suc zero) f =
    cases f
    (λ k. rw (lt-leb 6 f k, le-leb f 5 (omega arith)))
    (λ e. rw e)
    (λ e. rw e)
    (λ k. rw (le-leb 6 f (omega arith), lt-leb f 5 (omega arith)))
counted (suc (suc zero)) f =
    cases f
    (λ k. rw (lt-leb 6 f k, lt-leb 7 f (omega arith), le-leb f 5 (omega arith)))
    (λ e. rw e)
    (λ e. rw e)
    (λ k. rw (le-leb 6 f (omega arith), le-leb 7 f (omega arith), lt-leb f 5 (omega arith), lt-leb f 6 (omega arith)))
counted (suc (suc (suc q))) f =
    let n : ℕ = suc (suc (suc q)) in
    rw (le-ltb n 1 (omega arith), le-ltb n 2 (omega arith), le-ltb n 3 (omega arith)) (all n f (omega arith))
