-- A wanted sample reads back within the base of the quantiser that coded it, whatever base, depth, prediction and gradient. Assumes nothing.
use Rattle.std.proofs.Common.{◌≡◌, ℕ, suc, ◌+◌, ◌-◌, ◌*◌, ◌/◌, ◌^◌, ◌<◌, ◌≤◌, Bool, true, false, cond, not, ltb, sym, refl, ap, ◌∙◌, mod-lt, add-mul, lt_of_mul-lt-mul_right, div-add-mod', zero-mul, le-mul_of_pos_right, arith, le-ltb, lt-ltb}
use mathlib.Core.Bool.{xor}
use Rattle.numbers.specs.Numbers.{distance, minus}
use Rattle.numbers.specs.declared.Signed.{Signed}
use Rattle.numbers.proofs.OrderLaws.{split}
use Rattle.code.specs.Samples.{residual_of, wrap, sample_of}
use Rattle.code.specs.Wanted.{code_of_residual}
use Rattle.code.specs.Inside.{code_for}
use Rattle.code.specs.Nearest.{nearest, code_within, code_near}
use Rattle.code.proofs.SampleLaws.{residual_even, residual_odd, one_to_one}

abbrev signed : Bool → ℕ → Signed
signed b n = record { negative = b; size = n }

-- ---- codes and residuals

-- the code of a residual gives it back; the residual 0 has no sign
residual_back : (b : Bool) (s : ℕ) → 0 < s → residual_of (code_of_residual (signed b s)) ≡ signed b s
unfolding code_of_residual
residual_back true s h = residual_odd (2 * s - 1) s (omega arith)
residual_back false s h = residual_even (2 * s) s refl

residual_zero : (b : Bool) → residual_of (code_of_residual (signed b 0)) ≡ signed false 0
unfolding code_of_residual
residual_zero true = residual_even 0 0 refl
residual_zero false = residual_even 0 0 refl

-- ---- one quantiser: step is 2q + 1, and total steps are more than M + 2q
module _ (M q total : ℕ) (wide : M + 2 * q < total * (2 * q + 1)) where
  abbrev step : ℕ
  step = 2 * q + 1

  -- s steps from g come within q of v
  record Near (up : Bool) (g v s : ℕ) : Type 0 where
    high : cond up (g + s * step) (v + s * step) ≤ cond up (v + q) (g + q)
    low : cond up v g ≤ cond up (g + s * step + q) (v + s * step + q)

  small : (up : Bool) (g v s : ℕ) → g ≤ M → v ≤ M → Near up g v s → s < total
  small true g v s hg hv n = lt_of_mul-lt-mul_right step (omega (arith, n.high))
  small false g v s hg hv n = lt_of_mul-lt-mul_right step (omega (arith, n.high))

  -- the sample of s steps, straight or the other way round
  abbrev steps : Bool → ℕ → ℕ → ℕ
  steps up g s = cond up (wrap M q (total * step) (g + s * step) 0) (wrap M q (total * step) g (s * step))

  abbrev Reads : ℕ → ℕ → Type 0
  Reads v x = (x ≤ v + q) × (v ≤ x + q)

  straight : (up : Bool) (g v s : ℕ) → g ≤ M → v ≤ M → Near up g v s → Reads v (steps up g s)
  unfolding wrap
  straight true g v s hg hv n =
      rw (le-ltb (g + s * step + q) 0 (omega arith), le-ltb (M + q + 0) (g + s * step) (omega (arith, n.high))) (omega (arith, n.high), omega (arith, n.low))
  straight false g v s hg hv n =
      rw (le-ltb (g + q) (s * step) (omega (arith, n.high)), le-ltb (M + q + s * step) g (omega arith)) (omega (arith, n.low), omega (arith, n.high))

  -- total steps less s of them
  other : (s : ℕ) → s < total → (total - s) * step + s * step ≡ total * step
  other s h = let e : total - s + s ≡ total = omega arith in sym (add-mul (total - s) s step) ∙ ap (λ (n : ℕ). n * step) e

  round : (up : Bool) (g v s : ℕ) → g ≤ M → v ≤ M → Near up g v s → Reads v (steps (not up) g (total - s))
  unfolding wrap
  round true g v s hg hv n =
      let e = other s (small true g v s hg hv n) in
      rw (lt-ltb (g + q) ((total - s) * step) (omega (arith, n.high))) (omega (arith, n.high), omega (arith, n.low))
  round false g v s hg hv n =
      let e = other s (small false g v s hg hv n) in
      rw (le-ltb (g + (total - s) * step + q) 0 (omega (arith, n.high)), lt-ltb (M + q + 0) (g + (total - s) * step) (omega (arith, n.high)))
      (omega (arith, n.low, n.high), omega (arith, n.high))

  -- ---- the nearest residual

  abbrev size : ℕ → ℕ → ℕ
  size g v = (distance v g + q) / step

  near : (g v : ℕ) → Near (not (ltb v g)) g v (size g v)
  near g v =
      let d = div-add-mod' (distance v g + q) step in
      let m = mod-lt (distance v g + q) {m = step} (omega arith) in
      split g v
      (λ h. rw (le-ltb v g h) (record { high = omega arith; low = omega arith }))
      (λ h. rw (lt-ltb v g h) (record { high = omega arith; low = omega arith }))

  -- no step: both ways give the prediction
  near_zero : (a b : Bool) (g v : ℕ) → Near a g v 0 → Near b g v 0
  near_zero a b g v n = go a b (zero-mul step) n
    where
      go : (a b : Bool) → 0 * step ≡ 0 → Near a g v 0 → Near b g v 0
      go true true z n = n
      go false false z n = n
      go true false z n = record { high = omega (arith, n.low); low = omega (arith, n.high) }
      go false true z n = record { high = omega (arith, n.low); low = omega (arith, n.high) }

  by_residual : (negative b : Bool) (g c s : ℕ) → residual_of c ≡ signed b s → sample_of M q total negative g c ≡ steps (not (xor negative b)) g s
  unfolding sample_of
  by_residual negative b g c s e = rw e (go (xor negative b))
    where
      go : (t : Bool) → cond t (wrap M q (total * step) g (s * step)) (wrap M q (total * step) (g + s * step) 0) ≡ steps (not t) g s
      go true = refl
      go false = refl

  twice : (a b : Bool) → xor a (xor a b) ≡ b
  unfolding xor
  twice true true = refl
  twice true false = refl
  twice false true = refl
  twice false false = refl

  across : (a b : Bool) → xor a (not (xor a b)) ≡ not b
  unfolding xor
  across true true = refl
  across true false = refl
  across false true = refl
  across false false = refl

  module _ (negative : Bool) (g v : ℕ) (hg : g ≤ M) (hv : v ≤ M) where
    abbrev down : Bool
    down = ltb v g

    abbrev b : Bool
    b = xor negative down

    abbrev s : ℕ
    s = size g v

    few : s < total
    few = small (not down) g v s hg hv (near g v)

    first_reads : Reads v (sample_of M q total negative g (code_of_residual (signed b s)))
    first_reads =
        split s 0
        (λ h. let z : s ≡ 0 = omega arith in
        let e : residual_of (code_of_residual (signed b s)) ≡ signed false 0 = rw z (residual_zero b) in
        let n : Near (not down) g v 0 = rw z at (near g v) in
        rw (by_residual negative false g _ 0 e) (straight (not (xor negative false)) g v 0 hg hv (near_zero (not down) (not (xor negative false)) g v n)))
        (λ h. rw (by_residual negative b g _ s (residual_back b s h), twice negative down) (straight (not down) g v s hg hv (near g v)))

    second_reads : Reads v (sample_of M q total negative g (code_of_residual (signed (not b) (total - s))))
    second_reads =
        rw (by_residual negative (not b) g _ (total - s) (residual_back (not b) (total - s) (omega (arith, few))), across negative down)
        (round (not down) g v s hg hv (near g v))

    second_small : (t : Bool) → total ≤ code_of_residual (signed t s) → code_of_residual (signed (not t) (total - s)) < total
    unfolding code_of_residual
    second_small true h = omega (arith, few)
    second_small false h = omega (arith, few)

    -- the code is one of the total code values, and it reads back within q of the wanted sample
    pub near_back : (code_near q total negative g v < total) × Reads v (sample_of M q total negative g (code_near q total negative g v))
    unfolding code_near code_within nearest
    near_back =
        split total (code_of_residual (signed b s))
        (λ h. rw (le-ltb (code_of_residual (signed b s)) total h) (second_small b h, second_reads))
        (λ h. rw (lt-ltb (code_of_residual (signed b s)) total h) (h, first_reads))

-- ---- base 0: the code is that of the sample itself

pub near_exact : (bits : ℕ) → 1 ≤ bits → (negative : Bool) (g v : ℕ) → g ≤ 2 ^ bits - 1 → v ≤ 2 ^ bits - 1
    → code_near 0 (suc (2 ^ bits - 1)) negative g v ≡ code_for (2 ^ bits - 1) negative g v
near_exact bits h negative g v hg hv =
    let M : ℕ = 2 ^ bits - 1 in
    let near = near_back M 0 (suc M) (omega arith) negative g v hg hv in
    let there = (one_to_one bits h negative g hg).there (code_near 0 (suc M) negative g v) (omega (arith, near.0)) in
    let is : sample_of M 0 (suc M) negative g (code_near 0 (suc M) negative g v) ≡ v = omega (arith, near.1.0, near.1.1) in
    sym (rw is at there)

-- ---- how the program finds it

pub size_lt : (q d : ℕ) → q < 256 → d < 2 ^ 16 → (d + q) / (2 * q + 1) < 2 ^ 17
size_lt q d hq hd =
    let n : ℕ = (d + q) / (2 * q + 1) in
    let e = div-add-mod' (d + q) (2 * q + 1) in
    let w : n ≤ n * (2 * q + 1) = le-mul_of_pos_right {m = 2 * q + 1} n (omega arith) in
    omega arith

module _ (q total : ℕ) (negative : Bool) (g v : ℕ) {w : Signed} {s code : ℕ} {down : Bool} (ew : w ≡ minus v g) (es : s ≡ (w.size + q) / (2 * q + 1))
    (ed : down ≡ xor negative w.negative)
    (ec : code ≡ code_of_residual (signed down s)) where
  pub near_first : code < total → code ≡ code_near q total negative g v
  unfolding code_near code_within nearest
  near_first h =
      let e : code ≡ code_of_residual (signed (xor negative (ltb v g)) ((distance v g + q) / (2 * q + 1))) = rw (ec, ed, es, ew) in
      rw (lt-ltb _ total (rw e at h)) e

  pub near_second : {r : ℕ} → total ≤ code → r ≡ code_of_residual (signed (not down) (total - s)) → r ≡ code_near q total negative g v
  unfolding code_near code_within nearest
  near_second h er =
      let e : code ≡ code_of_residual (signed (xor negative (ltb v g)) ((distance v g + q) / (2 * q + 1))) = rw (ec, ed, es, ew) in
      rw (le-ltb _ total (rw e at h)) (er ∙ rw (ed, es, ew))
