-- How the program makes a sample: the moved prediction where it lies in 0..M, and else the wrapped one. Assumes nothing.
use Rattle.std.proofs.Common.{◌≡◌, ℕ, ◌+◌, ◌*◌, ◌%◌, ◌^◌, ◌<◌, ◌≤◌, Bool, true, false, eqb, sym, refl, ◌∙◌, mul-le-mul_left, arith, le-ltb}
use mathlib.Core.Bool.{xor}
use Rattle.code.specs.Samples.{residual_of, wrap, sample_of}
use Rattle.code.specs.Inside.{Moved}
use Rattle.code.proofs.SampleLaws.{residual_sign}

-- a step is below 512
pub product_lt : (n q : ℕ) → n ≤ 2 ^ 20 → q < 256 → n * (2 * q + 1) < 2 ^ 29
product_lt n q hn hq =
    let a : n * (2 * q + 1) ≤ n * 511 = mul-le-mul_left n (omega arith) in
    omega arith

-- the sample, by whether the residual is taken away
module _ (M q total : ℕ) (negative : Bool) (g c size r : ℕ) (minus : Bool) (e : size ≡ (residual_of c).size) (is : minus ≡ xor negative (eqb (c % 2) 1)) where
  pub down : minus ≡ true → r ≡ wrap M q (total * (2 * q + 1)) g (size * (2 * q + 1)) → r ≡ sample_of M q total negative g c
  unfolding sample_of
  down t w =
      let x : xor negative (residual_of c).negative ≡ true = rw (← residual_sign c) (sym is ∙ t) in
      rw (← e, x) w

  pub up : minus ≡ false → r ≡ wrap M q (total * (2 * q + 1)) (g + size * (2 * q + 1)) 0 → r ≡ sample_of M q total negative g c
  unfolding sample_of
  up t w =
      let x : xor negative (residual_of c).negative ≡ false = rw (← residual_sign c) (sym is ∙ t) in
      rw (← e, x) w

-- a sample in 0..M is not wrapped
inside_down : (M q span g d x : ℕ) → (x + d) % 2 ^ 32 ≡ g → x ≤ M → M < 2 ^ 16 → d < 2 ^ 29 → x ≡ wrap M q span g d
unfolding wrap
inside_down M q span g d x m h hm hd = rw (le-ltb (g + q) d (omega arith), le-ltb (M + q + d) g (omega arith)) (omega arith)

inside_up : (M q span g d x : ℕ) → x ≡ g + d → x ≤ M → x ≡ wrap M q span (g + d) 0
unfolding wrap
inside_up M q span g d x m h = rw (le-ltb (g + d + q) 0 (omega arith), le-ltb (M + q + 0) (g + d) (omega arith)) (omega arith)

pub inside : (M q total : ℕ) (negative : Bool) (g c size x : ℕ) (minus : Bool) → size ≡ (residual_of c).size → minus ≡ xor negative (eqb (c % 2) 1)
    → Moved minus g (size * (2 * q + 1)) x → x ≤ M → M < 2 ^ 16 → size * (2 * q + 1) < 2 ^ 29 → x ≡ sample_of M q total negative g c
inside M q total negative g c size x true e is m h hm hd =
    down M q total negative g c size x true e is refl (inside_down M q _ g (size * (2 * q + 1)) x m h hm hd)
inside M q total negative g c size x false e is m h hm hd =
    up M q total negative g c size x false e is refl (inside_up M q _ g (size * (2 * q + 1)) x m h)
