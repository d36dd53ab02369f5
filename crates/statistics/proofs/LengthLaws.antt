-- k from the lengths of sum and n in binary digits. Assumes nothing.
use mathlib.Core.Bool.{Bool, true, false}
use mathlib.Core.Path.{◌≡◌}
use Prim.Native.Nat.{ℕ, suc, ◌+◌, ◌-◌, ◌*◌, ◌^◌, ◌≤◌, ◌<◌, min}
use native.Mathlib.Omega.{arith}
use native.Mathlib.Nat.{lt_of_lt_of_le, mul-pos, mul-le-mul_right, pow-succ'}
use lib.Bits.{bit_or, or_lt, or_add_and, and_le_l, and_le_r}
use lib.Count.{count_leading_zeros, leading_top, leading_length, leading_unique}
use lib.Dec.{ltb}
use lib.Pow.{pow-add, pow_mono, pow_pos, shl_lt}
use borrow.Author.Tests.{ltb-true, ltb-false}
use Rattle.numbers.specs.Numbers.{flag}
use Rattle.numbers.proofs.OrderLaws.{split}
use Rattle.statistics.specs.Statistics.{k_of}
use Rattle.statistics.specs.Inside.{InRange}
use Rattle.statistics.specs.declared.Record.{Record}
use Rattle.statistics.proofs.RecordLaws.{k_least, sum_lt}

-- of two numbers, digit by digit, the leading zeros are those of the longer one
or_least : (a b : ℕ) → (a ≤ bit_or a b) × (b ≤ bit_or a b)
or_least a b = (omega (arith, or_add_and a b, and_le_r a b), omega (arith, or_add_and a b, and_le_l a b))

pub leading_or : (k a b : ℕ) → a < 2 ^ k → b < 2 ^ k → count_leading_zeros k (bit_or a b) ≡ min (count_leading_zeros k a) (count_leading_zeros k b)
leading_or k a b ha hb =
    let p = leading_length k a ha in
    let q = leading_length k b hb in
    let least = or_least a b in
    split p.0 q.0
    (λ le.
    let top = or_lt q.0 a b (lt_of_lt_of_le p.2 (pow_mono le)) q.2 in
    let e = leading_unique k (bit_or a b) (count_leading_zeros k b) q.0 q.1 top (omega (arith, q.3, least.1)) in
    omega (arith, e, p.1, q.1))
    (λ lt.
    let le : q.0 ≤ p.0 = omega arith in
    let top = or_lt p.0 a b p.2 (lt_of_lt_of_le q.2 (pow_mono le)) in
    let e = leading_unique k (bit_or a b) (count_leading_zeros k a) p.0 p.1 top (omega (arith, p.3, least.0)) in
    omega (arith, e, p.1, q.1))

-- what the lengths tell: no number below e is enough, and e + 1 is; the machine's shift by e loses nothing
pub record Near (sum n e : ℕ) : Type 0 where
  pub before : (j : ℕ) → j < e → n * 2 ^ j < sum
  pub after : sum ≤ n * 2 ^ (e + 1)
  pub small : e < 32
  pub exact : n * 2 ^ e < 2 ^ 32

-- n has m + 1 digits and sum has l
near : (sum n e m l : ℕ) → 2 ^ m ≤ n → n < 2 ^ suc m → sum < 2 ^ l → 2 ^ l ≤ 2 * sum + 1 → e ≡ l - suc m → l ≤ 32 → m < 32 → Near sum n e
near sum n e m l low high under over is top fits =
    record {
      before = λ j h.
          let a : n * 2 ^ j < 2 ^ (suc m + j) = shl_lt (suc m) j high in
          let b : 2 ^ suc (suc m + j) ≤ 2 ^ l = pow_mono (omega arith) in
          let d : 2 ^ suc (suc m + j) ≡ 2 * 2 ^ (suc m + j) = pow-succ' 2 (suc m + j) in
          omega arith;
      after =
          let a : 2 ^ m * 2 ^ (e + 1) ≤ n * 2 ^ (e + 1) = mul-le-mul_right (2 ^ (e + 1)) low in
          let b : 2 ^ (m + (e + 1)) ≡ 2 ^ m * 2 ^ (e + 1) = pow-add 2 m (e + 1) in
          let d : 2 ^ l ≤ 2 ^ (m + (e + 1)) = pow_mono (omega arith) in
          omega arith;
      small = omega arith;
      exact =
          let a : n * 2 ^ e < 2 ^ (suc m + e) = shl_lt (suc m) e high in
          let f : suc m + e ≤ 32 = omega arith in
          lt_of_lt_of_le a (pow_mono f);
    }

pub lengths_near : (t : Record) {e : ℕ} → InRange t → e ≡ count_leading_zeros 32 t.n - count_leading_zeros 32 t.sum → Near t.sum t.n e
lengths_near t {e} o is =
    let a = leading_top 32 t.n o.some (omega (arith, o.most)) in
    let b = leading_length 32 t.sum (omega (arith, sum_lt t o)) in
    near t.sum t.n e a.0 b.0 a.2 a.3 b.2 b.3 (omega (arith, a.1, b.1)) (omega (arith, b.1)) (omega (arith, a.1))

-- the first number that is enough, capped at 15
first_enough : (t : Record) (k : ℕ) → 1 ≤ t.n → ((j : ℕ) → j < k → t.n * 2 ^ j < t.sum) → t.sum ≤ t.n * 2 ^ k → min 15 k ≡ k_of t
first_enough t k one before holds =
    let L = k_least t in
    let p : 0 < t.n * 2 ^ k = mul-pos one (pow_pos k) in
    split (k_of t) k
    (λ a. split (min 15 k) (k_of t)
    (λ b. omega (arith, L.capped))
    (λ b. absurd (omega (arith, before (k_of t) (omega arith), L.holds (omega arith)))))
    (λ a. absurd (omega (arith, L.before k a)))

-- so k is e, or one more where e is not enough
pub near_k : (t : Record) (e : ℕ) (b : Bool) → 1 ≤ t.n → Near t.sum t.n e → ltb (t.n * 2 ^ e) t.sum ≡ b → min 15 (e + flag b) ≡ k_of t
near_k t e true one h g =
    first_enough t (e + 1) one
    (λ j a. split e j (λ c. let same : j ≡ e = omega arith in rw same (ltb-true (t.n * 2 ^ e) t.sum g)) (λ c. h.before j c))
    h.after
near_k t e false one h g = let z : e + 0 ≡ e = omega arith in rw z (first_enough t e one h.before (ltb-false (t.n * 2 ^ e) t.sum g))
