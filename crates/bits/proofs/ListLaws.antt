-- The list of a block's bits, and its bits by position: the two views say the same. Assumes nothing.
use mathlib.Core.Path.{◌≡◌, refl, sym, ap, ◌∙◌}
use mathlib.Core.Bool.{Bool, true, false, false≢true}
use mathlib.Core.List.{List, [], ◌∷◌, ◌++◌}
use Prim.Native.Nat.{ℕ, zero, suc, ◌+◌, ◌-◌, ◌*◌, ◌/◌, ◌%◌, ◌^◌, ◌≤◌, ◌<◌}
use native.Mathlib.Nat.{pow-suc, zero-div, zero-mod, mod-lt, div-lt_iff_lt-mul, lt_of_not-le, le_of_lt}
use native.Mathlib.Decide.{dec_le}
use native.Mathlib.Numerals.{add-one}
use native.Mathlib.Omega.{arith}
use lib.Dec.{eqb, lit<}
use lib.ListN.{length, get_or, take, drop, replicate, length-append, length-drop, take-append-drop, get_or-append}
use lib.Pow.{pow_pos, field, mod-mod-pow, split, high, low}
use lib.Seq.{drop-cons, drop-drop, drop_at, get_or-append-add}
use Rattle.bits.specs.Bits.{bit_at, bits_at, zero_run}
use Rattle.bits.specs.BitLists.{binary, bits_of}
use Rattle.bits.proofs.BitLaws.{bit_at_lt, bits_at_lt, bits_at_none, bits_at_one, bits_at_first}
use Rattle.bits.proofs.RunLaws.{run_at, run_is, run_inside}
use Rattle.std.specs.Prelude.{Some}

-- k digits
pub length_binary : (k n : ℕ) → length (binary k n) ≡ k
unfolding binary
length_binary zero n = refl
length_binary (suc k) n = ap suc (length_binary k (n % 2 ^ k))

-- eight bits to a byte
pub length_bits : (s : List ℕ) → length (bits_of s) ≡ 8 * length s
unfolding bits_of
length_bits [] = refl
length_bits (x ∷ s) = rw length-append (omega (arith, length_binary 8 x, length_bits s))

-- the digits of 0
pub binary_zero : (k : ℕ) → binary k 0 ≡ replicate k false
unfolding binary
binary_zero zero = refl
binary_zero (suc k) = rw (zero-div, zero-mod, binary_zero k)

-- the digit that has i before it and d after it
binary_at : (k i d n : ℕ) → k ≡ i + suc d → get_or (binary k n) i false ≡ eqb (n / 2 ^ d % 2) 1
unfolding binary
binary_at zero i d n e = absurd (omega arith)
binary_at (suc k) zero d n e =
    let f : k ≡ d = omega arith in
    rw f
binary_at (suc k) (suc i) d n e =
    let f : k ≡ suc i + d = omega arith in
    binary_at k i d (n % 2 ^ k) (omega arith)
    ∙ rw (f, field n (suc i) d, ← add-one i, mod-mod-pow (n / 2 ^ d) i 1)

-- the first byte, and those behind it
bit_at_head : (x : ℕ) (s : List ℕ) (i : ℕ) → i < 8 → bit_at (x ∷ s) i ≡ x / 2 ^ (7 - i) % 2
unfolding bit_at
bit_at_head x s i h =
    let d : i / 8 ≡ 0 = omega arith in
    let m : i % 8 ≡ i = omega arith in
    rw (d, m)

bit_at_tail : (x : ℕ) (s : List ℕ) (i : ℕ) → bit_at (x ∷ s) (8 + i) ≡ bit_at s i
unfolding bit_at
bit_at_tail x s i =
    let d : (8 + i) / 8 ≡ suc (i / 8) = omega arith in
    let m : (8 + i) % 8 ≡ i % 8 = omega arith in
    rw (d, m)

bit_first : (x : ℕ) (s : List ℕ) (i : ℕ) → i < 8 → get_or (binary 8 x ++ bits_of s) i false ≡ eqb (bit_at (x ∷ s) i) 1
bit_first x s i h =
    get_or-append (binary 8 x) (bits_of s) false i (rw length_binary h)
    ∙ binary_at 8 i (7 - i) x (omega arith)
    ∙ rw (bit_at_head x s i h)

bit_later : (x : ℕ) (s : List ℕ) (i j : ℕ) → i ≡ 8 + j → get_or (bits_of s) j false ≡ eqb (bit_at s j) 1
    → get_or (binary 8 x ++ bits_of s) i false ≡ eqb (bit_at (x ∷ s) i) 1
bit_later x s i j e h =
    let l = get_or-append-add (binary 8 x) (bits_of s) j false in
    rw (e, bit_at_tail x s j) (rw length_binary at l ∙ h)

-- the bit at i, in both views
pub bit_list : (s : List ℕ) (i : ℕ) → i < 8 * length s → get_or (bits_of s) i false ≡ eqb (bit_at s i) 1
unfolding bits_of
bit_list [] i h = absurd (omega arith)
bit_list (x ∷ s) i h =
    elim (dec_le 8 i) [
      | yes k ↦ bit_later x s i (i - 8) (omega arith) (bit_list s (i - 8) (omega arith))
      | no k ↦ bit_first x s i (lt_of_not-le k)
    ]

-- the bit at p, then those behind it
step : (s : List ℕ) (p : ℕ) → p < 8 * length s → drop p (bits_of s) ≡ eqb (bit_at s p) 1 ∷ drop (suc p) (bits_of s)
step s p h = drop-cons (bits_of s) p false (rw length_bits h) ∙ rw (bit_list s p h)

-- the n bits at p are the n digits of their number
pub bits_binary : (s : List ℕ) (p n : ℕ) → p + n ≤ 8 * length s → take n (drop p (bits_of s)) ≡ binary n (bits_at s p n)
unfolding binary
bits_binary s p zero h = refl
bits_binary s p (suc n) h =
    let l = bits_at_lt s (suc p) n in
    let b : bit_at s p % 2 ≡ bit_at s p = omega (arith, bit_at_lt s p) in
    rw (step s p (omega arith), bits_at_first s p n, high (bit_at s p) n l, low (bit_at s p) n l, b, bits_binary s (suc p) n (omega arith))

-- and the other bits follow them
pub bits_next : (s : List ℕ) (p n : ℕ) → p + n ≤ 8 * length s → drop p (bits_of s) ≡ binary n (bits_at s p n) ++ drop (p + n) (bits_of s)
bits_next s p n h =
    sym (take-append-drop n (drop p (bits_of s))) ∙ rw (bits_binary s p n h, drop-drop n p (bits_of s))

same_bit : (a b : ℕ) → a < 2 → b < 2 → eqb a 1 ≡ eqb b 1 → a ≡ b
same_bit zero zero k l e = refl
same_bit zero (suc zero) k l e = absurd (false≢true e)
same_bit (suc zero) zero k l e = absurd (false≢true (sym e))
same_bit (suc zero) (suc zero) k l e = refl
same_bit (suc (suc a)) b k l e = absurd (omega arith)
same_bit zero (suc (suc b)) k l e = absurd (omega arith)
same_bit (suc zero) (suc (suc b)) k l e = absurd (omega arith)

-- bits that stand at p end inside the block
inside : (s : List ℕ) (p : ℕ) (l r : List Bool) → 0 < length l → drop p (bits_of s) ≡ l ++ r → p + length l ≤ 8 * length s
inside s p l r h e = omega (arith, length_bits s, simp (length-drop, length-append) at (ap length e))

-- where the n digits of v stand at p, v is the number of the n bits at p
pub bits_there : (s : List ℕ) (p n v : ℕ) (r : List Bool) → v < 2 ^ n → drop p (bits_of s) ≡ binary n v ++ r → bits_at s p n ≡ v
unfolding binary
bits_there s p zero v r lt e = omega (arith, bits_at_none s p)
bits_there s p (suc n) v r lt e =
    let i : p + 1 ≤ 8 * length s = inside s p (eqb (v / 2 ^ n % 2) 1 ∷ []) (binary n (v % 2 ^ n) ++ r) (lit< tt) e in
    let t = step s p (omega arith) in
    let q : v / 2 ^ n < 2 = (div-lt_iff_lt-mul (pow_pos n)).1 (omega (arith, pow-suc 2 n)) in
    let b : bit_at s p ≡ v / 2 ^ n % 2 = same_bit (bit_at s p) (v / 2 ^ n % 2) (bit_at_lt s p) (omega arith) (cc) in
    let m : v / 2 ^ n % 2 ≡ v / 2 ^ n = omega arith in
    let u : drop (suc p) (bits_of s) ≡ binary n (v % 2 ^ n) ++ r = cc in
    bits_at_first s p n ∙ rw (b, m, bits_there s (suc p) n (v % 2 ^ n) r (mod-lt v (pow_pos n)) u) (split v n)

-- they end inside the block
pub bits_inside : (s : List ℕ) (p n v : ℕ) (r : List Bool) → 0 < n → drop p (bits_of s) ≡ binary n v ++ r → p + n ≤ 8 * length s
bits_inside s p n v r h e = rw length_binary at (inside s p (binary n v) r (rw length_binary h) e)

-- and what follows them starts at p + n
pub bits_after : (s : List ℕ) (p n v : ℕ) (r : List Bool) → drop p (bits_of s) ≡ binary n v ++ r → drop (p + n) (bits_of s) ≡ r
bits_after s p n v r e = sym (drop-drop n p (bits_of s)) ∙ rw e (drop_at (binary n v) r n (length_binary n v))

run_zeros : (s : List ℕ) (p z : ℕ) (r : List Bool) → drop p (bits_of s) ≡ replicate z false ++ true ∷ r → drop p (bits_of s) ≡ binary z 0 ++ true ∷ r
run_zeros s p z r e = rw (binary_zero z) e

run_end : (s : List ℕ) (p z : ℕ) (r : List Bool) → drop p (bits_of s) ≡ replicate z false ++ true ∷ r → drop (p + z) (bits_of s) ≡ binary 1 1 ++ r
unfolding binary
run_end s p z r e = bits_after s p z 0 (true ∷ r) (run_zeros s p z r e)

-- where z zeros and a one stand at p, the run there is z
pub run_there : (s : List ℕ) (p z : ℕ) (r : List Bool) → drop p (bits_of s) ≡ replicate z false ++ true ∷ r → zero_run s p ≡ Some z
run_there s p z r e =
    run_at s p z
    (bits_there s p z 0 (true ∷ r) (pow_pos z) (run_zeros s p z r e))
    (sym (bits_at_one s (p + z)) ∙ bits_there s (p + z) 1 1 r (lit< tt) (run_end s p z r e))

-- and what follows them starts at p + z + 1
pub run_after : (s : List ℕ) (p z : ℕ) (r : List Bool) → drop p (bits_of s) ≡ replicate z false ++ true ∷ r → drop (p + z + 1) (bits_of s) ≡ r
run_after s p z r e = bits_after s (p + z) 1 1 r (run_end s p z r e)

-- a run of z at p: z zeros and a one stand there
pub run_bits : (s : List ℕ) (p z : ℕ) → zero_run s p ≡ Some z → drop p (bits_of s) ≡ replicate z false ++ true ∷ drop (p + z + 1) (bits_of s)
run_bits s p z h =
    let i = run_inside s p z h in
    let b = run_is s p z h in
    bits_next s p z (le_of_lt i) ∙ rw (b.0, binary_zero z, step s (p + z) i, b.1, add-one (p + z))
