-- The common case of reading: in the word, the leading zeros are the run and the bits behind its one bit are the low bits. Such a code is short,
-- and tight if its value is at most M. Assumes nothing.
use borrow.Author.Tests.{le-leb, leb-true, ltb-true}
use mathlib.Core.Bool.{Bool, true, false, cond, ◌&&◌, and-true}
use mathlib.Core.List.{List}
use mathlib.Core.Path.{◌≡◌, refl, sym, ◌∙◌, ap}
use Prim.Native.Nat.{ℕ, ◌+◌, ◌-◌, ◌*◌, ◌/◌, ◌%◌, ◌^◌, ◌≤◌, ◌<◌}
use native.Mathlib.Nat.{add-zero}
use native.Mathlib.Omega.{arith}
use lib.Count.{count_leading_zeros}
use lib.Dec.{leb, ltb}
use lib.Pow.{pow_mono, shl_lt}
use Rattle.bits.specs.Bits.{bits_at, zero_run}
use Rattle.bits.specs.Inside.{top_bits, word_at}
use Rattle.bits.specs.declared.BitPosition.{BitPosition}
use Rattle.bits.proofs.BitLaws.{bits_at_lt, bits_at_top, word_bits}
use Rattle.bits.proofs.RunLaws.{leading_few, window_run, run_then_lem}
use Rattle.code.specs.Codes.{short_code, code_at}
use Rattle.code.specs.Tight.{is_tight}
use Rattle.code.specs.Inside.{taken_of, short_at}
use Rattle.code.proofs.CodeLaws.{code_short, short_lt, shifted}
use Rattle.std.specs.Prelude.{Option, None, Some}

-- what the word w at p says of a code that starts with z zeros
pub record Window (s : List ℕ) (p k w z : ℕ) : Type 0 where
  pub inside : z + 1 + k ≤ 57
  pub run : zero_run s p ≡ Some z
  pub top : w / 2 ^ (64 - (z + 1 + k)) ≡ 2 ^ k + bits_at s (p + z + 1) k
  pub low : bits_at s (p + z + 1) k < 2 ^ k
  pub small : 2 ^ k ≤ 2 ^ 15
  pub one : (1 * 2 ^ k) % 2 ^ 32 ≡ 2 ^ k

topped : (s : List ℕ) (p k w z : ℕ) → w ≡ top_bits s p → zero_run s p ≡ Some z → z + 1 + k ≤ 57
    → w / 2 ^ (64 - (z + 1 + k)) ≡ 2 ^ k + bits_at s (p + z + 1) k
topped s p k w z e run h = rw e (bits_at_top s p (z + 1 + k) h ∙ run_then_lem s p z k run)

pub window : (s : List ℕ) (p k w : ℕ) → w ≡ word_at s p → 2 ^ 22 ≤ w → k ≤ 15 → Window s p k w (count_leading_zeros 64 w)
window s p k w e' h hk =
    let e : w ≡ top_bits s p = word_bits s p w e' (omega arith) in
    let all : 64 - p % 8 + p % 8 ≡ 64 = omega arith in
    let lt : w < 2 ^ 64 = rw e (rw all at (shl_lt (64 - p % 8) (p % 8) (bits_at_lt s p (64 - p % 8)))) in
    let few : count_leading_zeros 64 w + 22 < 64 = leading_few 64 22 w h lt in
    let run : zero_run s p ≡ Some (count_leading_zeros 64 w) = window_run s p w e (λ z. omega arith) in
    record {
      inside = omega arith;
      run = run;
      top = topped s p k w (count_leading_zeros 64 w) e run (omega arith);
      low = bits_at_lt s (p + count_leading_zeros 64 w + 1) k;
      small = pow_mono hk;
      one = shifted 1 k (omega arith) hk ∙ omega arith;
    }

-- of a short code up to M the verdict and the count go on as they are
goes_on : (M : ℕ) (tight : Bool) (long : ℕ) (s : List ℕ) (p k z : ℕ) → (short_code s p k z).value ≤ M
    → taken_of M tight long (Some (short_code s p k z)) ≡ Some ((short_code s p k z).value, record { at = (short_code s p k z).after; tight = tight; long = long })
unfolding is_tight
goes_on M tight long s p k z h = rw (le-leb _ M h, and-true tight, add-zero)

-- the parts of a pair that is there
abbrev pub first_in : {A B : Type 0} → Option (A × B) → A → A
first_in None d = d
first_in (Some x) d = x.0

abbrev pub second_in : {A B : Type 0} → Option (A × B) → B → B
second_in None d = d
second_in (Some x) d = x.1

-- what is found at once is what the slow reader would take, whatever raw is
found : (a b c : Bool) (value v : ℕ) (after at : BitPosition) {X : Type 0}
    → cond {A = Option (ℕ × BitPosition)} (a && b && c) (Some (value, after)) None ≡ Some (v, at)
    → (a ≡ true → b ≡ true → c ≡ true → value ≡ v → after ≡ at → X) → X
found true true true value v after at e f =
    let a : ℕ × BitPosition = (value, after) in
    let b : ℕ × BitPosition = (v, at) in
    let same : Some a ≡ Some b = e in
    let ev : value ≡ v = ap (λ (x : Option (ℕ × BitPosition)). first_in x v) same in
    let ea : after ≡ at = ap (λ (x : Option (ℕ × BitPosition)). second_in x at) same in
    f refl refl refl ev ea
found true true false value v after at e f = let no : ◌≡◌ {A = ℕ} 0 1 = cc in absurd (omega arith)
found true false c value v after at e f = let no : ◌≡◌ {A = ℕ} 0 1 = cc in absurd (omega arith)
found false b c value v after at e f = let no : ◌≡◌ {A = ℕ} 0 1 = cc in absurd (omega arith)

pub short_taken : (M k limit raw : ℕ) (s : List ℕ) (p : ℕ) (tight : Bool) (long v : ℕ) (at : BitPosition) → k ≤ 15 → limit < 64
    → short_at M k limit s p ≡ Some (v, at)
    → (Some (v, record { at = at; tight = tight; long = long }) ≡ taken_of M tight long (code_at s p k limit raw)) × (v < 63 * 2 ^ 15)
unfolding short_at
short_taken M k limit raw s p tight long v at hk hl e =
    let w = word_at s p in
    let z = count_leading_zeros 64 w in
    found (leb (2 ^ 22) w) (ltb z limit) (leb (short_code s p k z).value M) _ _ _ _ e
    (λ a b c ev ea.
    let i = window s p k w refl (leb-true (2 ^ 22) w a) hk in
    let lt = ltb-true z limit b in
    (rw (code_short s p k limit raw z i.run lt, goes_on M tight long s p k z (leb-true _ M c), ev, ea), rw (sym ev) (short_lt s p k limit raw z hk hl lt)))
