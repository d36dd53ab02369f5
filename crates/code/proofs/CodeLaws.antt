-- What a code that is read is, and how large it can be. Assumes nothing.
use Rattle.std.proofs.Common.{◌≡◌, ℕ, ◌+◌, ◌*◌, ◌%◌, ◌^◌, ◌<◌, ◌≤◌, List, length, sym, refl, arith, pow_mono, shl_exact, le-ltb, lt-ltb, le-leb}
use lib.Arith.{digits_lt}
use borrow.Author.Tests.{lt-leb}
use Rattle.bits.specs.Bits.{bits_at, zero_run}
use Rattle.bits.proofs.BitLaws.{bits_at_lt}
use Rattle.bits.proofs.RunLaws.{run_inside}
use Rattle.numbers.proofs.OrderLaws.{split}
use Rattle.code.specs.Codes.{short_code, long_code, code_at}
use Rattle.code.specs.UsedBits.{Counts, CodesCounted}
use Rattle.code.specs.Inside.{Bounds}
use Rattle.code.specs.declared.Code.{Code}
use Rattle.std.specs.Prelude.{None, Option, Some}

module _ (s : List ℕ) (p k limit raw : ℕ) where
  -- the three ways in which a code is read
  pub code_none : zero_run s p ≡ None → code_at s p k limit raw ≡ None
  unfolding code_at
  code_none e = rw e

  pub code_short : (z : ℕ) → zero_run s p ≡ Some z → z < limit → code_at s p k limit raw ≡ Some (short_code s p k z)
  unfolding code_at
  code_short z e h = rw (e, lt-ltb z limit h)

  pub code_long : (z : ℕ) → zero_run s p ≡ Some z → limit ≤ z → code_at s p k limit raw ≡ Some (long_code s p k limit raw z)
  unfolding code_at
  code_long z e h = rw (e, le-ltb z limit h)

  -- there is no other
  pub code_cases {ℓ} : {X : Type ℓ}
      → (zero_run s p ≡ None → code_at s p k limit raw ≡ None → X)
      → ((z : ℕ) → zero_run s p ≡ Some z → z < limit → code_at s p k limit raw ≡ Some (short_code s p k z) → X)
      → ((z : ℕ) → zero_run s p ≡ Some z → limit ≤ z → code_at s p k limit raw ≡ Some (long_code s p k limit raw z) → X)
      → X
  code_cases {X = X} none short long = go (zero_run s p) refl
    where
      go : (r : Option ℕ) → zero_run s p ≡ r → X
      go None e = none e (code_none e)
      go (Some z) e =
          split limit z (λ h. long z e h (code_long z e h)) (λ h. short z e h (code_short z e h))

  -- a short code's value, and a long one's
  pub short_lt : (z : ℕ) → k ≤ 15 → limit < 64 → z < limit → z * 2 ^ k + bits_at s (p + z + 1) k < 63 * 2 ^ 15
  short_lt z hk hl h =
      let b : z * 2 ^ k + bits_at s (p + z + 1) k < 63 * 2 ^ k = digits_lt {m = 63} (omega arith) (bits_at_lt s (p + z + 1) k) in
      omega (arith, pow_mono hk)

  pub long_le : (z : ℕ) → raw ≤ 16 → bits_at s (p + z + 1) raw + 1 ≤ 2 ^ 16
  long_le z hr = let b = bits_at_lt s (p + z + 1) raw in omega (arith, pow_mono hr)

  -- how large a code is, and where it ends
  pub code_bounds : k ≤ 15 → limit < 64 → raw ≤ 16 → Bounds s (code_at s p k limit raw)
  code_bounds hk hl hr =
      code_cases
      (λ r e. rw e tt)
      (λ z r h e. rw e (short_lt z hk hl h, omega (arith, run_inside s p z r)))
      (λ z r h e. rw e (omega (arith, long_le z hr), omega (arith, run_inside s p z r)))

  -- a code starts inside the block, has a bit or more, and is counted by its bits and its zeros
  pub record Shape (c : Code) : Type 0 where
    pub inside : p < 8 * length s
    pub some_bits : 1 ≤ c.used
    pub counts : Counts p limit c

  pub code_shape : (c : Code) → code_at s p k limit raw ≡ Some c → Shape c
  code_shape c e =
      code_cases
      (λ r g. let no : ◌≡◌ {A = ℕ} 0 1 = cc in absurd (omega arith))
      (λ z r h g.
      let is : short_code s p k z ≡ c = cc in
      rw is at (shape_short z r h))
      (λ z r h g.
      let is : long_code s p k limit raw z ≡ c = cc in
      rw is at (shape_long z r h))
    where
      shape_short : (z : ℕ) → zero_run s p ≡ Some z → z < limit → Shape (short_code s p k z)
      shape_short z r h =
          record { inside = omega (arith, run_inside s p z r); some_bits = omega arith; counts = record { bits = omega arith; long = sym (lt-leb limit z h) } }

      shape_long : (z : ℕ) → zero_run s p ≡ Some z → limit ≤ z → Shape (long_code s p k limit raw z)
      shape_long z r h =
          record { inside = omega (arith, run_inside s p z r); some_bits = omega arith; counts = record { bits = omega arith; long = sym (le-leb limit z h) } }

-- every code that is read is counted by its bits and its zeros
pub codes_counted : CodesCounted
codes_counted s p k limit raw c e = (code_shape s p k limit raw c e).counts

-- a count of zeros below the limit, shifted, loses nothing
pub shifted : (z k : ℕ) → z < 64 → k ≤ 15 → (z * 2 ^ k) % 2 ^ 32 ≡ z * 2 ^ k
shifted z k hz hk = shl_exact {a = z} 6 k 32 hz (omega arith)
