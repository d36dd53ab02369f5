-- Searches for the least number at which a test holds. Assumes nothing.
use mathlib.Core.Bool.{Bool, true, false, cond}
use mathlib.Core.Path.{◌≡◌, refl, subst}
use Prim.Native.Nat.{ℕ, zero, suc, ◌+◌, ◌-◌, ◌≤◌, ◌<◌}
use native.Mathlib.Nat.{le_refl}
use native.Mathlib.Numerals.{add-one}
use native.Mathlib.Omega.{arith}
use Rattle.numbers.specs.Numbers.{least_from}
use Rattle.numbers.proofs.OrderLaws.{split}

-- the three ways in which a search from k on goes: there is no number left to try, the test holds at k, it does not
pub least_last : (f : ℕ) (test : ℕ → Bool) (k : ℕ) → f ≡ 0 → least_from f test k ≡ k
unfolding least_from
least_last f test k e = rw e

pub least_here : (f : ℕ) (test : ℕ → Bool) (k : ℕ) → test k ≡ true → least_from f test k ≡ k
unfolding least_from
least_here zero test k t = refl
least_here (suc f) test k t = rw t

pub least_next : (f : ℕ) (test : ℕ → Bool) (k : ℕ) → 0 < f → test k ≡ false → least_from f test k ≡ least_from (f - 1) test (k + 1)
unfolding least_from
least_next zero test k h t = absurd (omega arith)
least_next (suc f) test k h t =
    let e : suc f - 1 ≡ f = omega arith in
    rw (t, e, add-one)

-- what a search gives
pub record Least (f : ℕ) (test : ℕ → Bool) (k r : ℕ) : Type 0 where
  pub low : k ≤ r
  pub high : r ≤ k + f
  pub before : (j : ℕ) → k ≤ j → j < r → test j ≡ false
  pub holds : r < k + f → test r ≡ true

pub least : (f : ℕ) (test : ℕ → Bool) (k : ℕ) → Least f test k (least_from f test k)
unfolding least_from
least zero test k =
    record { low = le_refl k; high = omega arith; before = λ j h l. absurd (omega arith); holds = λ h. absurd (omega arith) }
least (suc f) test k = go (test k) refl (least f test (suc k))
  where
    go : (t : Bool) → test k ≡ t → Least f test (suc k) (least_from f test (suc k)) → Least (suc f) test k (cond t k (least_from f test (suc k)))
    go true e L =
        record { low = le_refl k; high = omega arith; before = λ j a b. absurd (omega arith); holds = λ a. e }
    go false e L =
        record {
          low = omega (arith, L.low);
          high = omega (arith, L.high);
          before = λ j a b. split (suc k) j (λ c. L.before j c b) (λ c. let q : k ≡ j = omega arith in subst (λ (i : ℕ). test i ≡ false) q e);
          holds = λ a. L.holds (omega arith);
        }

-- the number that a search gives, where it is known by other means
pub least_is : (f : ℕ) (test : ℕ → Bool) (k m : ℕ) → k ≤ m → m ≤ k + f → ((j : ℕ) → k ≤ j → j < m → test j ≡ false) → test m ≡ true → least_from f test k ≡ m
least_is f test k m low high before holds =
    let L = least f test k in
    let r : ℕ = least_from f test k in
    split m r
    (λ a. split r m (λ b. omega arith) (λ b. absurd (clash (test m) holds (L.before m low b))))
    (λ a. absurd (clash (test r) (L.holds (omega arith)) (before r L.low a)))
  where
    clash : (t : Bool) → t ≡ true → t ≡ false → ⊥
    clash t e g = let no : ◌≡◌ {A = ℕ} 0 1 = cc in omega arith

-- searches by tests that say the same
pub least_same : (f : ℕ) (test test' : ℕ → Bool) (k : ℕ) → ((n : ℕ) → test n ≡ test' n) → least_from f test k ≡ least_from f test' k
unfolding least_from
least_same zero test test' k e = refl
least_same (suc f) test test' k e = rw (e k, least_same f test test' (suc k) e)
