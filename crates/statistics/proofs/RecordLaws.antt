-- What k is, and the range that records keep. Assumes nothing.
use mathlib.Core.Bool.{Bool, true, false, cond, not}
use mathlib.Core.Path.{◌≡◌, refl}
use Prim.Native.Nat.{ℕ, ◌+◌, ◌-◌, ◌*◌, ◌/◌, ◌%◌, ◌^◌, ◌≤◌, ◌<◌, max}
use native.Mathlib.Numerals.{add-one}
use native.Mathlib.Omega.{arith}
use native.Mathlib.Nat.{div-one, mul-pos, pow-succ'}
use lib.Dec.{leb, eqb}
use lib.Pow.{shl_exact, pow_pos}
use borrow.Author.Tests.{le-leb, lt-leb, leb-true, leb-false, eqb-true, eqb-false}
use Rattle.numbers.specs.Numbers.{least_from, flag}
use Rattle.numbers.proofs.LeastLaws.{least, least_here, least_next}
use Rattle.numbers.proofs.OrderLaws.{split}
use Rattle.statistics.specs.Statistics.{enough, k_of, updated, largest_residual}
use Rattle.statistics.specs.Inside.{InRange}
use Rattle.statistics.specs.declared.Record.{Record}

-- k is the least number with n·2^k ≥ max(sum, 1), capped at 15
pub record LeastK (t : Record) (k : ℕ) : Type 0 where
  pub capped : k ≤ 15
  pub before : (j : ℕ) → j < k → t.n * 2 ^ j < max t.sum 1
  pub holds : k < 15 → max t.sum 1 ≤ t.n * 2 ^ k

pub k_least : (t : Record) → LeastK t (k_of t)
unfolding k_of
k_least t =
    let L = least 15 (enough t.sum t.n) 0 in
    record {
      capped = L.high;
      before = λ j h. leb-false (max t.sum 1) (t.n * 2 ^ j) (L.before j (omega arith) h);
      holds = λ h. leb-true (max t.sum 1) (t.n * 2 ^ k_of t) (L.holds h);
    }

-- the machine's shift loses nothing, and n·2^k reaches sum where it reaches max(sum, 1)
pub shifted_enough : (sum n k : ℕ) → k < 15 → 1 ≤ n → n ≤ 64 → leb sum ((n * 2 ^ k) % 2 ^ 32) ≡ enough sum n k
shifted_enough sum n k hk one most =
    let e : (n * 2 ^ k) % 2 ^ 32 ≡ n * 2 ^ k = shl_exact {a = n} 7 k 32 (omega arith) (omega arith) in
    let p : 0 < n * 2 ^ k = mul-pos one (pow_pos k) in
    rw e
    (split sum (n * 2 ^ k)
    (λ h. rw (le-leb sum (n * 2 ^ k) h, le-leb (max sum 1) (n * 2 ^ k) (omega arith)))
    (λ h. rw (lt-leb sum (n * 2 ^ k) h, lt-leb (max sum 1) (n * 2 ^ k) (omega arith))))

-- what is enough at k is enough at k + 1
pub enough_next : (sum n k : ℕ) → enough sum n k ≡ true → enough sum n (k + 1) ≡ true
enough_next sum n k e =
    let h : max sum 1 ≤ n * 2 ^ k = leb-true (max sum 1) (n * 2 ^ k) e in
    let d : n * 2 ^ (k + 1) ≡ n * 2 ^ k + n * 2 ^ k = rw (add-one k, pow-succ' 2 k) (omega arith) in
    le-leb (max sum 1) (n * 2 ^ (k + 1)) (omega arith)

-- how many numbers are too small, from k on: k + 1 on tells, and whether k is enough
pub too_small : (sum n k r : ℕ) (b : Bool) → enough sum n k ≡ b → k < 15 → r + (k + 1) ≡ least_from (15 - (k + 1)) (enough sum n) (k + 1)
    → flag (not b) + r + k ≡ least_from (15 - k) (enough sum n) k
too_small sum n k r true e lt h =
    let f = least_here (15 - (k + 1)) (enough sum n) (k + 1) (enough_next sum n k e) in
    let g = least_here (15 - k) (enough sum n) k e in
    omega arith
too_small sum n k r false e lt h =
    let f : 15 - (k + 1) ≡ 15 - k - 1 = omega arith in
    let g = least_next (15 - k) (enough sum n) k (omega arith) e in
    let h' : r + (k + 1) ≡ least_from (15 - k - 1) (enough sum n) (k + 1) = rw f at h in
    omega arith

-- a start record, with a sum of at most 1024, is in range
pub start_in_range : (s : ℕ) → s ≤ 1024 → InRange (record { sum = s; n = 1 })
start_in_range s h = record { some = omega arith; most = omega arith; sums = omega arith }

-- an update by a residual that a code can give keeps it
pub updated_in_range : (t : Record) (r : ℕ) → InRange t → r ≤ largest_residual → InRange (updated t r)
unfolding updated
updated_in_range t r o h = go (eqb t.n 64) refl
  where
    go : (b : Bool) → eqb t.n 64 ≡ b → InRange (cond b (record { sum = (t.sum + r) / 2; n = t.n / 2 + 1 }) (record { sum = t.sum + r; n = t.n + 1 }))
    go true e =
        let n64 : t.n ≡ 64 = eqb-true t.n 64 e in
        record { some = omega arith; most = omega arith; sums = omega (arith, o.sums) }
    go false e =
        let ne : t.n ≡ 64 → ⊥ = eqb-false t.n 64 e in
        record { some = omega arith; most = omega (arith, o.most, ne); sums = omega (arith, o.sums) }

-- so the sum of a record stays below 2^26
pub sum_lt : (t : Record) → InRange t → t.sum < 2 ^ 26
sum_lt t o = omega (arith, o.most, o.sums)

-- an update without a branch: both are shifted down by 1 or by 0
abbrev shifted_by : Record → ℕ → ℕ → Record
shifted_by t r h = record { sum = (t.sum + r) / 2 ^ h; n = t.n / 2 ^ h + 1 }

pub shifted_update : (t : Record) (r h : ℕ) → h ≡ flag (eqb t.n 64) → shifted_by t r h ≡ updated t r
unfolding updated
shifted_update t r h e = rw e (go (eqb t.n 64))
  where
    go : (b : Bool) → shifted_by t r (flag b) ≡ cond b (record { sum = (t.sum + r) / 2; n = t.n / 2 + 1 }) (record { sum = t.sum + r; n = t.n + 1 })
    go true = refl
    go false = rw (div-one (t.sum + r), div-one t.n)
