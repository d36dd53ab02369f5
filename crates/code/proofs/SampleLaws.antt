-- Residuals, codes and samples. Lossless, the codes up to M and the samples up to M are matched one to one. Assumes nothing.
use Rattle.std.proofs.Common.{◌≡◌, ℕ, zero, suc, ◌+◌, ◌-◌, ◌*◌, ◌/◌, ◌%◌, ◌^◌, ◌<◌, ◌≤◌, Bool, true, false, cond, eqb, sym, refl, ◌∙◌, pow-suc, mul-one, arith, pow_pos, le-ltb, lt-ltb, eq-eqb, ne_eqb, le-leb}
use mathlib.Core.Bool.{xor}
use native.Mathlib.Nat.{min-le_left}
use borrow.Author.Tests.{lt-leb}
use Rattle.numbers.specs.declared.Signed.{Signed}
use Rattle.numbers.proofs.OrderLaws.{split, parity, cond_le}
use Rattle.code.specs.Samples.{residual_of, wrap, sample_of}
use Rattle.code.specs.Inside.{steps_up, residual_up, residual_for, code_for}
use Rattle.code.specs.Wanted.{code_of_residual}

-- the residual of an even code, and of an odd one
pub residual_even : (c d : ℕ) → c ≡ 2 * d → residual_of c ≡ record { negative = false; size = d }
unfolding residual_of
residual_even c d e =
    let h : c / 2 ≡ d = omega arith in
    rw (eq-eqb (c % 2) 0 (omega arith), h)

pub residual_odd : (c d : ℕ) → c + 1 ≡ 2 * d → residual_of c ≡ record { negative = true; size = d }
unfolding residual_of
residual_odd c d e =
    let h : (c + 1) / 2 ≡ d = omega arith in
    rw (ne_eqb (c % 2) 0 (omega arith), h)

-- its size and its sign
pub residual_size : (c : ℕ) → (c + 1) / 2 ≡ (residual_of c).size
residual_size c =
    parity c
    (λ d e. rw (residual_even c d e) (omega arith))
    (λ d e. rw (residual_odd c d e) (omega arith))

pub residual_sign : (c : ℕ) → eqb (c % 2) 1 ≡ (residual_of c).negative
residual_sign c =
    parity c
    (λ d e. rw (residual_even c d e, ne_eqb (c % 2) 1 (omega arith)))
    (λ d e. rw (residual_odd c d e, eq-eqb (c % 2) 1 (omega arith)))

-- v lies d steps up from u, where 0 follows M
data Up (M u v d : ℕ) : Type 0 where
  straight : v ≡ u + d → Up M u v d
  round : v + suc M ≡ u + d → Up M u v d

-- it lies d steps from u in the direction that a gradient's sign gives to a positive residual
abbrev Along : ℕ → Bool → ℕ → ℕ → ℕ → Type 0
Along M true u v d = Up M v u d
Along M false u v d = Up M u v d

-- the code of d steps
abbrev code_up : ℕ → ℕ → ℕ
code_up M d = code_of_residual (residual_up M d)

module _ (M : ℕ) where
  steps : (u v : ℕ) → u ≤ M → v ≤ M → Up M u v (steps_up M u v)
  unfolding steps_up
  steps u v hu hv =
      split u v (λ h. rw (le-leb u v h) (straight (omega arith))) (λ h. rw (lt-leb u v h) (round (omega arith)))

  pub steps_le : (u v : ℕ) → u ≤ M → v ≤ M → steps_up M u v ≤ M
  unfolding steps_up
  steps_le u v hu hv =
      split u v (λ h. rw (le-leb u v h) (omega arith)) (λ h. rw (lt-leb u v h) (omega arith))

  steps_is : (u v d : ℕ) → u ≤ M → v ≤ M → d ≤ M → Up M u v d → steps_up M u v ≡ d
  unfolding steps_up
  steps_is u v d hu hv hd (straight e) = rw (le-leb u v (omega arith)) (omega arith)
  steps_is u v d hu hv hd (round e) = rw (lt-leb u v (omega arith)) (omega arith)

  -- d steps up are M + 1 − d steps down
  turn : (u v d : ℕ) → d ≤ M → Up M u v d → Up M v u (suc M - d)
  turn u v d h (straight e) = round (omega arith)
  turn u v d h (round e) = straight (omega arith)

  wrap_up : (g v n : ℕ) → v ≤ M → Up M g v n → wrap M 0 (suc M) (g + n) 0 ≡ v
  unfolding wrap
  wrap_up g v n h (straight e) =
      rw (le-ltb (g + n + 0) 0 (omega arith), le-ltb (M + 0 + 0) (g + n) (omega arith)) (omega arith)
  wrap_up g v n h (round e) =
      rw (le-ltb (g + n + 0) 0 (omega arith), lt-ltb (M + 0 + 0) (g + n) (omega arith)) (omega arith)

  wrap_down : (g v n : ℕ) → v ≤ M → Up M v g n → wrap M 0 (suc M) g n ≡ v
  unfolding wrap
  wrap_down g v n h (straight e) =
      rw (le-ltb (g + 0) n (omega arith), le-ltb (M + 0 + n) g (omega arith)) (omega arith)
  wrap_down g v n h (round e) = rw (lt-ltb (g + 0) n (omega arith)) (omega arith)

  -- the residual of d steps, and its code
  up_low : (d : ℕ) → 2 * d ≤ M → residual_up M d ≡ record { negative = false; size = d }
  unfolding residual_up
  up_low d h = rw (le-leb (2 * d) M h)

  up_high : (d : ℕ) → M < 2 * d → residual_up M d ≡ record { negative = true; size = suc M - d }
  unfolding residual_up
  up_high d h = rw (lt-leb (2 * d) M h)

  code_low : (d : ℕ) → 2 * d ≤ M → code_up M d ≡ 2 * d
  unfolding code_of_residual
  code_low d h = rw (up_low d h)

  code_high : (d : ℕ) → M < 2 * d → code_up M d ≡ 2 * (suc M - d) - 1
  unfolding code_of_residual
  code_high d h = rw (up_high d h)

  residual_low : (d : ℕ) → 2 * d ≤ M → residual_of (code_up M d) ≡ record { negative = false; size = d }
  residual_low d h = residual_even (code_up M d) d (code_low d h)

  residual_high : (d : ℕ) → d ≤ M → M < 2 * d → residual_of (code_up M d) ≡ record { negative = true; size = suc M - d }
  residual_high d hd h = residual_odd (code_up M d) (suc M - d) (omega (arith, code_high d h))

  -- the code of a residual gives it back
  pub residual_of_code : (d : ℕ) → d ≤ M → residual_of (code_of_residual (residual_up M d)) ≡ residual_up M d
  residual_of_code d hd =
      split (2 * d) M
      (λ h. residual_low d h ∙ sym (up_low d h))
      (λ h. residual_high d hd h ∙ sym (up_high d h))

  -- the sample of a code, by its residual
  by_residual : (negative : Bool) (g c : ℕ) (r : Signed) → residual_of c ≡ r
      → sample_of M 0 (suc M) negative g c ≡ cond (xor negative r.negative) (wrap M 0 (suc M) g r.size) (wrap M 0 (suc M) (g + r.size) 0)
  unfolding sample_of
  by_residual negative g c r e = rw (e, mul-one r.size, mul-one (suc M))

  -- the sample that lies d steps away
  sample_along : (negative : Bool) (g v d : ℕ) → v ≤ M → d ≤ M → Along M negative g v d → sample_of M 0 (suc M) negative g (code_up M d) ≡ v
  unfolding xor
  sample_along true g v d hv hd a =
      split (2 * d) M
      (λ h. by_residual true g (code_up M d) _ (residual_low d h) ∙ wrap_down g v d hv a)
      (λ h. by_residual true g (code_up M d) _ (residual_high d hd h) ∙ wrap_up g v (suc M - d) hv (turn v g d hd a))
  sample_along false g v d hv hd a =
      split (2 * d) M
      (λ h. by_residual false g (code_up M d) _ (residual_low d h) ∙ wrap_up g v d hv a)
      (λ h. by_residual false g (code_up M d) _ (residual_high d hd h) ∙ wrap_down g v (suc M - d) hv (turn g v d hd a))

  -- the code that leads there
  code_along : (negative : Bool) (g v d : ℕ) → g ≤ M → v ≤ M → d ≤ M → Along M negative g v d → code_for M negative g v ≡ code_up M d
  unfolding code_for residual_for
  code_along true g v d hg hv hd a = rw (steps_is v g d hv hg hd a)
  code_along false g v d hg hv hd a = rw (steps_is g v d hg hv hd a)

  -- some number of steps leads from g to v, and from g some v is reached
  path : {X : Type 0} (negative : Bool) (g v : ℕ) → g ≤ M → v ≤ M → ((d : ℕ) → d ≤ M → Along M negative g v d → X) → X
  path true g v hg hv f = f (steps_up M v g) (steps_le v g hv hg) (steps v g hv hg)
  path false g v hg hv f = f (steps_up M g v) (steps_le g v hg hv) (steps g v hg hv)

  land : {X : Type 0} (negative : Bool) (g d : ℕ) → g ≤ M → d ≤ M → ((v : ℕ) → v ≤ M → Along M negative g v d → X) → X
  land true g d hg hd f =
      split d g
      (λ h. f (g - d) (omega arith) (straight (omega arith)))
      (λ h. f (g + suc M - d) (omega arith) (round (omega arith)))
  land false g d hg hd f =
      split (g + d) M
      (λ h. f (g + d) h (straight refl))
      (λ h. f (g + d - suc M) (omega arith) (round (omega arith)))

  -- every sample has a code that gives it, and the code's residual is the one that was wanted
  pub sample_of_code : (negative : Bool) (g v : ℕ) → g ≤ M → v ≤ M → sample_of M 0 (suc M) negative g (code_for M negative g v) ≡ v
  sample_of_code negative g v hg hv =
      path negative g v hg hv
      (λ d hd a. rw (code_along negative g v d hg hv hd a) (sample_along negative g v d hv hd a))

  pub residual_for_lem : (negative : Bool) (g v : ℕ) → g ≤ M → v ≤ M → residual_of (code_for M negative g v) ≡ residual_for M negative g v
  unfolding code_for residual_for
  residual_for_lem true g v hg hv = residual_of_code (steps_up M v g) (steps_le v g hv hg)
  residual_for_lem false g v hg hv = residual_of_code (steps_up M g v) (steps_le g v hg hv)

module _ (M half : ℕ) (even : suc M ≡ half + half) where
  pub code_le : (negative : Bool) (g v : ℕ) → g ≤ M → v ≤ M → code_for M negative g v ≤ M
  code_le negative g v hg hv =
      path M negative g v hg hv
      (λ d hd a. rw (code_along M negative g v d hg hv hd a)
      (split (2 * d) M (λ h. omega (arith, code_low M d h)) (λ h. omega (arith, code_high M d h))))

  -- a code up to M is the code of some number of steps
  code_steps : {X : Type 0} (c : ℕ) → c ≤ M → ((d : ℕ) → d ≤ M → code_up M d ≡ c → X) → X
  code_steps c h f =
      parity c
      (λ d e. f d (omega arith) (omega (arith, code_low M d (omega arith))))
      (λ d e. f (suc M - d) (omega arith) (omega (arith, code_high M (suc M - d) (omega arith))))

  -- every code up to M is the code of the sample that it gives
  pub code_of_sample : (negative : Bool) (g c : ℕ) → g ≤ M → c ≤ M → code_for M negative g (sample_of M 0 (suc M) negative g c) ≡ c
  code_of_sample negative g c hg hc =
      code_steps c hc
      (λ d hd e. rw (← e) (land M negative g d hg hd
      (λ v hv a. rw (sample_along M negative g v d hv hd a) (code_along M negative g v d hg hv hd a))))

-- whatever is decoded, the sample is in range
pub wrap_le : (M q span a b : ℕ) → wrap M q span a b ≤ M
unfolding wrap
wrap_le M q span a b = min-le_left M _

pub sample_le : (M q total : ℕ) (negative : Bool) (g c : ℕ) → sample_of M q total negative g c ≤ M
unfolding sample_of
sample_le M q total negative g c =
    cond_le M (xor negative (residual_of c).negative) _ _ (wrap_le M q _ _ _) (wrap_le M q _ _ _)

-- at a prediction g and either sign of the gradient: codes 0..M and samples 0..M, one to one
pub record OneToOne (M : ℕ) (negative : Bool) (g : ℕ) : Type 0 where
  pub there : (c : ℕ) → c ≤ M → code_for M negative g (sample_of M 0 (suc M) negative g c) ≡ c
  pub back : (v : ℕ) → v ≤ M → sample_of M 0 (suc M) negative g (code_for M negative g v) ≡ v
  pub codes : (v : ℕ) → v ≤ M → code_for M negative g v ≤ M
  pub samples : (c : ℕ) → c ≤ M → sample_of M 0 (suc M) negative g c ≤ M

even_power : (bits : ℕ) → 1 ≤ bits → suc (2 ^ bits - 1) ≡ 2 ^ (bits - 1) + 2 ^ (bits - 1)
even_power zero h = absurd (omega arith)
even_power (suc b) h =
    let e : suc b - 1 ≡ b = omega arith in
    rw (e, pow-suc) (omega (arith, pow_pos b))

pub one_to_one : (bits : ℕ) → 1 ≤ bits → (negative : Bool) (g : ℕ) → g ≤ 2 ^ bits - 1 → OneToOne (2 ^ bits - 1) negative g
one_to_one bits h negative g hg =
    let M : ℕ = 2 ^ bits - 1 in
    let half : ℕ = 2 ^ (bits - 1) in
    let even : suc M ≡ half + half = even_power bits h in
    record {
      there = λ c hc. code_of_sample M half even negative g c hg hc;
      back = λ v hv. sample_of_code M negative g v hg hv;
      codes = λ v hv. code_le M half even negative g v hg hv;
      samples = λ c hc. sample_le M 0 (suc M) negative g c;
    }
