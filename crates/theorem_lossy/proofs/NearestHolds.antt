-- The residual that is picked is the nearest, and its code is brought within total. Assumes nothing.
use mathlib.Core.Bool.{Bool, true, false, not}
use mathlib.Core.Logic as Logic
use mathlib.Core.Path.{◌≡◌, refl}
use Prim.Native.Nat.{ℕ, zero, suc, ◌+◌, ◌-◌, ◌*◌, ◌/◌, ◌%◌, ◌≤◌, ◌<◌}
use native.Mathlib.Nat.{div-add-mod', mod-lt, add-mul, zero-mul, one-mul, mul-le-mul_right, lt_of_mul-lt-mul_right}
use native.Mathlib.Omega.{arith}
use lib.Dec.{ltb}
use borrow.Author.Tests.{lt-ltb, le-ltb, ltb-true, ltb-false}
use Rattle.numbers.specs.Numbers.{distance}
use Rattle.numbers.specs.declared.Signed.{Signed}
use Rattle.numbers.proofs.OrderLaws.{split}
use Rattle.quantiser.specs.Quantisers.{largest, total_of}
use Rattle.quantiser.proofs.QuantiserLaws.{total_wide}
use Rattle.code.specs.Samples.{residual_of}
use Rattle.code.specs.Wanted.{code_of_residual}
use Rattle.code.specs.Nearest.{nearest, turned_by, code_within, code_near}
use Rattle.code.proofs.SampleLaws.{residual_even, residual_odd}
use Rattle.theorem_lossy.specs.NearestSteps.{missed_by, IsSame, NearestSteps, BroughtWithin, CodesWithin}

abbrev signed : Bool → ℕ → Signed
signed b n = record { negative = b; size = n }

-- ---- nearest

-- s steps are the nearest to d, where d + q is s steps and less than one more; any other number of steps misses by more than q
module _ (q d s m : ℕ) (e : s * (2 * q + 1) + m ≡ d + q) (low : m < 2 * q + 1) where
  abbrev step : ℕ
  step = 2 * q + 1

  more : (z : ℕ) → s < z → d + q < z * step
  more z h =
      let one : s + 1 ≤ z = omega arith in
      let k : (s + 1) * step ≤ z * step = mul-le-mul_right step one in
      let a = add-mul s 1 step in
      let o = one-mul step in
      omega arith

  fewer : (z : ℕ) → z < s → z * step + q < d
  fewer z h =
      let one : z + 1 ≤ s = omega arith in
      let k : (z + 1) * step ≤ s * step = mul-le-mul_right step one in
      let a = add-mul z 1 step in
      let o = one-mul step in
      omega arith

  some_step : 0 < s → q < d
  some_step h = let k = fewer 0 h in let z = zero-mul step in omega arith

  a_step : (z : ℕ) → 0 < z → q < z * step
  a_step z h =
      let k : 1 * step ≤ z * step = mul-le-mul_right step h in
      let o = one-mul step in
      omega arith

-- what is picked misses by at most q, and every other residual by more
module _ (q g v : ℕ) where
  abbrev s : ℕ
  s = (distance v g + q) / (2 * q + 1)

  divided : s * (2 * q + 1) + (distance v g + q) % (2 * q + 1) ≡ distance v g + q
  divided = div-add-mod' (distance v g + q) (2 * q + 1)

  rest : (distance v g + q) % (2 * q + 1) < 2 * q + 1
  rest = mod-lt (distance v g + q) {m = 2 * q + 1} (omega arith)

  picked : (b : Bool) → ltb v g ≡ b → missed_by q g v (signed b s) ≤ q
  picked true e = let h = ltb-true v g e in let a = divided in let m = rest in omega arith
  picked false e = let h = ltb-false v g e in let a = divided in let m = rest in omega arith

  others : (b c : Bool) (z : ℕ) → ltb v g ≡ b → (IsSame (signed c z) (signed b s) → ⊥) → q < missed_by q g v (signed c z)
  others true true z e ne =
      let h = ltb-true v g e in
      split s z
      (λ k. split z s
      (λ l. let same : z ≡ s = omega arith in absurd (ne (refl, same)))
      (λ l. let x = more q (distance v g) s _ divided rest z l in omega arith))
      (λ k. let x = fewer q (distance v g) s _ divided rest z k in omega arith)
  others false false z e ne =
      let h = ltb-false v g e in
      split s z
      (λ k. split z s
      (λ l. let same : z ≡ s = omega arith in absurd (ne (same, refl)))
      (λ l. let x = more q (distance v g) s _ divided rest z l in omega arith))
      (λ k. let x = fewer q (distance v g) s _ divided rest z k in omega arith)
  others true false z e ne =
      let h = ltb-true v g e in
      split z 0
      (λ k. split s 0
      (λ l. absurd (ne (omega arith, omega arith)))
      (λ l. let x = some_step q (distance v g) s _ divided rest l in
      let y : z ≡ 0 = omega arith in
      rw y (let w = zero-mul (2 * q + 1) in omega arith)))
      (λ k. let x = a_step q (distance v g) s _ divided rest z k in omega arith)
  others false true z e ne =
      let h = ltb-false v g e in
      split z 0
      (λ k. split s 0
      (λ l. absurd (ne (omega arith, omega arith)))
      (λ l. let x = some_step q (distance v g) s _ divided rest l in
      let y : z ≡ 0 = omega arith in
      rw y (let w = zero-mul (2 * q + 1) in omega arith)))
      (λ k. let x = a_step q (distance v g) s _ divided rest z k in omega arith)

pub nearest_steps : NearestSteps
unfolding nearest
nearest_steps q g v other ne =
    let a = picked q g v (ltb v g) refl in
    let b = others q g v (ltb v g) other.negative other.size refl ne in
    omega arith

-- ---- by adding or taking away total

module _ (total : ℕ) where
  kept : (b : Bool) (n : ℕ) → IsSame (residual_of (code_of_residual (signed b n))) (signed b n)
  unfolding code_of_residual
  kept false n = rw (residual_even (2 * n) n refl) (refl, refl)
  kept true zero = rw (residual_even 0 0 refl) (refl, refl)
  kept true (suc n) = rw (residual_odd (2 * suc n - 1) (suc n) (omega arith)) (refl, refl)

  moved : (b : Bool) (n : ℕ) → n < total → total ≤ code_of_residual (signed b n)
      → BroughtWithin total (signed b n) (code_of_residual (signed (not b) (total - n)))
  unfolding code_of_residual
  moved false n h big =
      record {
        within = omega arith;
        brought = rw (residual_odd (2 * (total - n) - 1) (total - n) (omega arith)) (Logic.inr (Logic.inr (omega arith)));
      }
  moved true n h big =
      record {
        within = omega arith;
        brought = rw (residual_even (2 * (total - n)) (total - n) refl) (Logic.inr (Logic.inl (omega arith)));
      }

  brought_within : (r : Signed) → r.size < total → BroughtWithin total r (code_within total r)
  unfolding code_within
  brought_within r h =
      split total (code_of_residual r)
      (λ k. rw (le-ltb (code_of_residual r) total k) (moved r.negative r.size h k))
      (λ k. rw (lt-ltb (code_of_residual r) total k) (record { within = k; brought = Logic.inl (kept r.negative r.size) }))

few : (bits q g v : ℕ) → g ≤ largest bits → v ≤ largest bits → (distance v g + q) / (2 * q + 1) < total_of bits q
few bits q g v hg hv =
    let w = total_wide bits q in
    let a = divided q g v in
    lt_of_mul-lt-mul_right (2 * q + 1) (omega arith)

pub codes_within : CodesWithin
unfolding code_near nearest
codes_within bits q g v negative hg hv = brought_within (total_of bits q) (turned_by negative (nearest q g v)) (few bits q g v hg hv)
