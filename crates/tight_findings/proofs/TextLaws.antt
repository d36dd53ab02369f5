-- Texts that are put into a buffer one after the other, and numbers as text. Assumes nothing.
use borrow.Author.Tests.{lt-ltb, le-ltb}
use mathlib.Core.List.{List, ◌++◌, append_assoc}
use mathlib.Core.Path.{◌≡◌, refl, sym, ap, ◌∙◌}
use Prim.Native.Nat.{ℕ, suc, ◌+◌, ◌-◌, ◌^◌, ◌≤◌, ◌<◌}
use native.Mathlib.Nat.{pow-le-pow_right, zero-lt-suc, le_of_suc-le-suc, lt_of_not-le}
use native.Mathlib.Omega.{arith}
use lib.Dec.{ltb}
use lib.ListN.{length, take, drop, length-append}
use lib.Seq.{paste, length-take-le, take-length, take-paste, drop-paste, drop-drop}
use Rattle.io.specs.Counts.{IsPrefixLen}
use Rattle.io.specs.Digits.{last_digits, IsDigitCount}
use Rattle.numbers.specs.Numbers.{least_from}
use Rattle.numbers.proofs.LeastLaws.{least_is}
use Rattle.code.specs.declared.reasons.Reason.{Reason}
use Rattle.tight_findings.specs.Texts.{reason_text, number_text}
use Rattle.tight_findings.specs.Inside.{Put}

-- ---- one text, and then another

module _ (b t u : List ℕ) (at : ℕ) (room : at + (length t + length u) ≤ length b) where
  take_first : take (at + length t) (paste b at t (length t)) ≡ take at b ++ t
  take_first = take-paste b at t (length t) (omega arith) (omega arith) ∙ rw (take-length t)

  drop_first : drop (at + length t + length u) (paste b at t (length t)) ≡ drop (at + (length t + length u)) b
  drop_first =
      let e : at + length t + length u ≡ at + (length t + length u) = omega arith in
      let f = drop-paste b at t (length t) (omega arith) (omega arith) in
      sym (drop-drop (length u) (at + length t) (paste b at t (length t)))
      ∙ ap (λ (l : List ℕ). drop (length u) l) f
      ∙ drop-drop (length u) (at + length t) b
      ∙ ap (λ (n : ℕ). drop n b) e

  both : paste (paste b at t (length t)) (at + length t) u (length u) ≡ paste b at (t ++ u) (length (t ++ u))
  both =
      let n : length (t ++ u) ≡ length t + length u = length-append t u in
      rw (take_first, drop_first, take-length u, take-length (t ++ u), n)
      (ap (λ (l : List ℕ). l ++ drop (at + (length t + length u)) b) (append_assoc (take at b) t u))

pub put_both : {b a c t u : List ℕ} {at k r : ℕ} → Put b at t a k → Put a k u c r → r ≤ length b → Put b at (t ++ u) c r
put_both {b} {a} {c} {t} {u} {at} {k} {r} p q h =
    let n : length (t ++ u) ≡ length t + length u = length-append t u in
    let room : at + (length t + length u) ≤ length b = omega (arith, p.ends, q.ends) in
    record { ends = omega (arith, p.ends, q.ends, n); put = q.put ∙ rw (p.put, p.ends) (both b t u at room) }

-- the same text by another name
pub put_same : {b a t u : List ℕ} {at r : ℕ} → t ≡ u → Put b at t a r → Put b at u a r
put_same e p = rw (← e) p

-- a reason is a word of at most 6 letters
pub put_word : {b a : List ℕ} {at r : ℕ} (reason w : Reason) → reason ≡ w → length (reason_text w) ≤ 7 → Put b at (reason_text w) a r
    → Put b at (reason_text reason) a r × (r ≤ at + 7)
put_word reason w e h p = (rw e p, omega (arith, p.ends))

-- at the start of a buffer
pub put_start : {b a t : List ℕ} {r : ℕ} → Put b 0 t a r → (r ≡ length t) × (a ≡ t ++ drop r b)
put_start {b} {a} {t} {r} p =
    let e : r ≡ length t = omega (arith, p.ends) in
    let f : 0 + length t ≡ length t = omega arith in
    (e, p.put ∙ rw (take-length t, f, e) refl)

pub counts : (n : ℕ) (l : List ℕ) → n ≤ length l → IsPrefixLen n l
counts n l h = (h, sym (length-take-le n l h))

-- ---- a number

-- the fewest digits are no more than m digits that hold the number
pub few_digits : (m n k : ℕ) → 1 ≤ m → IsDigitCount 10 1 n k → n < 10 ^ m → k ≤ m
few_digits m n k one f h = le_of_suc-le-suc (lt_of_not-le many)
  where
    many : suc m ≤ k → ⊥
    many over =
        let p : 10 ^ (k - 1) ≤ n = f.2 (omega arith) in
        let q : 10 ^ m ≤ 10 ^ (k - 1) = pow-le-pow_right (zero-lt-suc 9) (omega arith) in
        omega arith

fewest_is : (n k : ℕ) → k ≤ 20 → IsDigitCount 10 1 n k → least_from 19 (λ j. ltb n (10 ^ j)) 1 ≡ k
fewest_is n k h f =
    least_is 19 (λ j. ltb n (10 ^ j)) 1 k f.0 (omega arith)
    (λ j low lt. let p : 10 ^ j ≤ 10 ^ (k - 1) = pow-le-pow_right (zero-lt-suc 9) (omega arith) in le-ltb n (10 ^ j) (omega (arith, f.2 (omega arith))))
    (lt-ltb n (10 ^ k) f.1)

pub number_is : (n k : ℕ) (l : List ℕ) → k ≤ 20 → IsDigitCount 10 1 n k → l ≡ last_digits 10 k n → l ≡ number_text n
unfolding number_text
number_is n k l h f e = rw (fewest_is n k h f) e
