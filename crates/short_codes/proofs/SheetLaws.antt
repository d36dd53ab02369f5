-- The strings of a sheet: their lengths, values and entries, and which codes have one. Assumes nothing.
use mathlib.Core.Bool.{Bool, true, false, ◌&&◌, ◌||◌}
use mathlib.Core.List.{List, [], ◌∷◌, ◌++◌, append-nil}
use mathlib.Core.Path.{◌≡◌, ◌∙◌}
use Prim.Native.Nat.{ℕ, zero, suc, ◌+◌, ◌-◌, ◌*◌, ◌/◌, ◌%◌, ◌^◌, ◌≤◌, ◌<◌, min}
use native.Mathlib.Nat.{zero-add, suc-add, mod-lt, div-lt_iff_lt-mul}
use native.Mathlib.Omega.{arith}
use lib.Dec.{leb, eqb}
use lib.ListN.{length, replicate}
use lib.Pow.{pow_pos}
use borrow.Author.Tests.{leb-true}
use Rattle.numbers.proofs.BoolLaws.{both}
use Rattle.numbers.proofs.OrderLaws.{split}
use Rattle.bits.specs.BitLists.{binary, number_of}
use Rattle.bits.proofs.PackLaws.{number_binary}
use Rattle.quantiser.specs.Quantisers.{total_of, raw_of, quantiser_of, main_of}
use Rattle.quantiser.specs.declared.Quantiser.{Quantiser}
use Rattle.quantiser.proofs.QuantiserLaws.{log2_le}
use Rattle.code.specs.Tight.{run_then}
use Rattle.code.proofs.TightLaws.{bits_short, short_length, long_length, length_code_bits}
use Rattle.stream.proofs.HeaderLaws.{depth}
use Rattle.short_codes.specs.Sheets.{in_sheet, string_of, value_of, entry_of, count_of, entry_at}
use Rattle.short_codes.specs.Inside.{Bounded}

-- what is not refused
pub bounded : (d k n : ℕ) → in_sheet d k n ≡ true → Bounded d k n
unfolding in_sheet
bounded d k n e =
    let is : Bool = eqb d 12 || eqb d 14 || eqb d 16 in
    let z = both (is && leb k 15 && leb 1 n) (leb n 16) e in
    let y = both (is && leb k 15) (leb 1 n) z.0 in
    let x = both is (leb k 15) y.0 in
    let t = depth d x.0 in
    record { depth_low = t.0; depth_high = t.1; k_high = leb-true k 15 x.1; n_high = leb-true n 16 z.1 }

-- no code of up to 16 bits reaches the limit
pub limit_large : (d : ℕ) → 12 ≤ d → 31 ≤ (main_of d 0).limit
unfolding quantiser_of raw_of
limit_large d h = omega (arith, log2_le (total_of d 0))

-- ---- the number that a run and k digits make

number_zeros : (z j : ℕ) (l : List Bool) → number_of (z + j) (replicate z false ++ l) ≡ number_of j l
unfolding number_of
number_zeros zero j l = rw zero-add
number_zeros (suc z) j l = rw (suc-add z j, zero-add) (number_zeros z j l)

number_run : (z k v : ℕ) → v < 2 ^ k → number_of (z + suc k) (run_then z k v) ≡ 2 ^ k + v
unfolding number_of
number_run z k v h =
    number_zeros z (suc k) (true ∷ binary k v) ∙ rw (rw append-nil at (number_binary k v [] h))

module _ (d k c : ℕ) (low : 12 ≤ d) where
  -- a string of up to 16 bits is that of a short code
  pub short_string : length (string_of d k c) ≤ 16 → c / 2 ^ k < 31
  unfolding string_of
  short_string h =
      let Q : Quantiser = main_of d 0 in
      split Q.limit (c / 2 ^ k)
      (λ u. absurd (omega (arith, h, length_code_bits k Q.limit Q.raw c, long_length k Q.limit Q.raw c u, limit_large d low)))
      (λ u. omega (arith, h, length_code_bits k Q.limit Q.raw c, short_length k Q.limit Q.raw c u))

  module _ (h : c / 2 ^ k < 31) where
    string_is : string_of d k c ≡ run_then (c / 2 ^ k) k (c % 2 ^ k)
    unfolding string_of
    string_is = bits_short k _ _ c (omega (arith, limit_large d low))

    pub string_length : length (string_of d k c) ≡ c / 2 ^ k + 1 + k
    unfolding string_of
    string_length = length_code_bits k _ _ c ∙ short_length k _ _ c (omega (arith, limit_large d low))

    pub string_value : value_of (string_of d k c) ≡ 2 ^ k + c % 2 ^ k
    string_value =
        let e : c / 2 ^ k + 1 + k ≡ c / 2 ^ k + suc k = omega arith in
        rw (string_length, string_is, e) (number_run (c / 2 ^ k) k (c % 2 ^ k) (mod-lt c (pow_pos k)))

    pub entry_is : entry_at d k c ≡ 65536 * (c / 2 ^ k + 1 + k) + (2 ^ k + c % 2 ^ k)
    unfolding entry_of
    entry_is = rw (string_value, string_length)

-- which codes have a string of at most n bits
count_left : (a b c : ℕ) → c < min a b → (c < a) × (c < b)
count_left a b c h = (omega arith, omega arith)

module _ (d k n c : ℕ) where
  pub counted : c < count_of d k n → (c / 2 ^ k < n - k) × (c < 2 ^ d)
  unfolding count_of
  counted h =
      let t = count_left ((n - k) * 2 ^ k) (2 ^ d) c h in
      ((div-lt_iff_lt-mul (pow_pos k)).1 t.0, t.1)

  pub is_counted : c / 2 ^ k < n - k → c < 2 ^ d → c < count_of d k n
  unfolding count_of
  is_counted h l = let m : c < (n - k) * 2 ^ k = (div-lt_iff_lt-mul (pow_pos k)).0 h in omega arith
