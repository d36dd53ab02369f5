-- Laws about single bits and the numbers that bits make: bounds, splitting, bytes, shifted windows. Assumes nothing.
use mathlib.Core.Bool.{Bool, true, false, cond}
use mathlib.Core.Path.{◌≡◌, refl, ◌∙◌}
use mathlib.Core.List.{List}
use Prim.Native.Nat.{ℕ, zero, suc, ◌+◌, ◌-◌, ◌*◌, ◌/◌, ◌%◌, ◌^◌, ◌≤◌, ◌<◌}
use native.Mathlib.Nat.{add-zero, add-suc, add_comm, add-mul, mul-one, mul_assoc, add_assoc, pow-suc, zero-add, div-one, zero-div, zero-mod, le_of_lt}
use native.Mathlib.Numerals.{add-one, one-add}
use native.Mathlib.Omega.{arith}
use lib.Dec.{lit≤, leb}
use lib.ListN.{length, get_or, get_or-eq_default}
use lib.Pow.{pow-add, shr-shr, shl-shr, shl_lt, low, high}
use Rattle.bits.specs.Bits.{bit_at, bits_at, be32}
use Rattle.bits.specs.Inside.{top_bits, word_at}

-- a bit is 0 or 1
pub bit_at_lt : (s : List ℕ) (i : ℕ) → bit_at s i < 2
unfolding bit_at
bit_at_lt s i = omega arith

-- n bits make a number of n digits
pub bits_at_lt : (s : List ℕ) (p n : ℕ) → bits_at s p n < 2 ^ n
unfolding bits_at
bits_at_lt s p zero = omega arith
bits_at_lt s p (suc n) = rw pow-suc (omega (arith, bits_at_lt s p n, bit_at_lt s (p + n)))

-- the first a bits, then the b that follow
pub bits_at_split : (s : List ℕ) (p a b : ℕ) → bits_at s p (a + b) ≡ bits_at s p a * 2 ^ b + bits_at s (p + a) b
unfolding bits_at
bits_at_split s p a zero = rw (add-zero a, mul-one, add-zero (bits_at s p a))
bits_at_split s p a (suc b) =
    rw (add-suc, bits_at_split s p a b, ← add_assoc p a b, pow-suc, ← mul_assoc (bits_at s p a) (2 ^ b) 2)
    (omega arith)

-- no bits make 0
pub bits_at_none : (s : List ℕ) (p : ℕ) → bits_at s p 0 ≡ 0
unfolding bits_at
bits_at_none s p = refl

-- one bit
pub bits_at_one : (s : List ℕ) (p : ℕ) → bits_at s p 1 ≡ bit_at s p
unfolding bits_at
bits_at_one s p = rw (add-zero p, zero-add)

-- the first bit, then the n that follow
pub bits_at_first : (s : List ℕ) (p n : ℕ) → bits_at s p (suc n) ≡ bit_at s p * 2 ^ n + bits_at s (suc p) n
bits_at_first s p n = rw (← one-add n, bits_at_split s p 1 n, bits_at_one, add-one p)

-- past the end a bit is 0
pub bit_at_past : (s : List ℕ) (i : ℕ) → 8 * length s ≤ i → bit_at s i ≡ 0
unfolding bit_at
bit_at_past s i h = rw (get_or-eq_default s 0 {n = i / 8} (omega arith)) (rw (zero-div, zero-mod))

-- past the end all bits are 0
pub bits_at_past : (s : List ℕ) (p n : ℕ) → 8 * length s ≤ p → bits_at s p n ≡ 0
unfolding bits_at
bits_at_past s p zero h = refl
bits_at_past s p (suc n) h = omega (arith, bits_at_past s p n h, bit_at_past s (p + n) (omega arith))

-- bit j of byte i
bit_at_byte : (s : List ℕ) (i j : ℕ) → j < 8 → bit_at s (8 * i + j) ≡ get_or s i 0 / 2 ^ (7 - j) % 2
unfolding bit_at
bit_at_byte s i j h =
    let d : (8 * i + j) / 8 ≡ i = omega arith in
    let m : (8 * i + j) % 8 ≡ j = omega arith in
    rw (d, m)

-- the first j bits of byte i
byte_top : (s : List ℕ) (i j : ℕ) → get_or s i 0 < 256 → j ≤ 8 → bits_at s (8 * i) j ≡ get_or s i 0 / 2 ^ (8 - j)
unfolding bits_at
byte_top s i zero h le = omega arith
byte_top s i (suc j) h le =
    let e : 8 - j ≡ (7 - j) + 1 = omega arith in
    let f : get_or s i 0 / 2 ^ (8 - j) ≡ get_or s i 0 / 2 ^ (7 - j) / 2 = rw (e, ← shr-shr (get_or s i 0) (7 - j) 1) in
    let g : 8 - suc j ≡ 7 - j = omega arith in
    rw g (omega (arith, byte_top s i j h (le_of_lt le), bit_at_byte s i j le))

-- the eight bits of a byte
pub bits_at_byte : (s : List ℕ) (i : ℕ) → get_or s i 0 < 256 → bits_at s (8 * i) 8 ≡ get_or s i 0
bits_at_byte s i h = byte_top s i 8 h (lit≤ tt) ∙ div-one (get_or s i 0)

-- one byte more
pub bits_at_more : (s : List ℕ) (i k : ℕ) → get_or s (i + k) 0 < 256 → bits_at s (8 * i) (8 * k + 8) ≡ bits_at s (8 * i) (8 * k) * 256 + get_or s (i + k) 0
bits_at_more s i k h =
    let e : 8 * i + 8 * k ≡ 8 * (i + k) = omega arith in
    rw (bits_at_split s (8 * i) (8 * k) 8, e, bits_at_byte s (i + k) h)

-- four bytes are 32 bits
pub be32_bits : (s : List ℕ) (i : ℕ) → ((k : ℕ) → get_or s k 0 < 256) → be32 s i ≡ bits_at s (8 * i) 32
be32_bits s i h =
    let e : get_or s (i + 0) 0 ≡ get_or s i 0 = rw add-zero in
    omega (
      arith,
      bits_at_more s i 0 (h _),
      bits_at_more s i 1 (h _),
      bits_at_more s i 2 (h _),
      bits_at_more s i 3 (h _),
      bits_at_lt s (8 * i) 0,
    )

-- eight bytes are 64 bits
pub be64_bits : (s : List ℕ) (i : ℕ) → ((k : ℕ) → get_or s k 0 < 256) → be32 s i * 2 ^ 32 + be32 s (i + 4) ≡ bits_at s (8 * i) 64
be64_bits s i h =
    let e : 8 * i + 32 ≡ 8 * (i + 4) = omega arith in
    rw (be32_bits s i h, be32_bits s (i + 4) h, bits_at_split s (8 * i) 32 32, e)

-- r + n bits shifted up by r places: the first r leave the word
pub bits_at_shl : (s : List ℕ) (q r n : ℕ) → (bits_at s q (r + n) * 2 ^ r) % 2 ^ (r + n) ≡ bits_at s (q + r) n * 2 ^ r
bits_at_shl s q r n =
    rw (bits_at_split s q r n, add_comm r n, add-mul (bits_at s q r * 2 ^ n) (bits_at s (q + r) n) (2 ^ r), mul_assoc (bits_at s q r) (2 ^ n) (2 ^ r), ← pow-add 2 n r)
    (low (bits_at s q r) (n + r) (shl_lt n r (bits_at_lt s (q + r) n)))

-- the window of 64 bits that starts at p's byte, shifted so that the bit at p stands at the top
pub shifted_window : (s : List ℕ) (p : ℕ) → (bits_at s (8 * (p / 8)) 64 * 2 ^ (p % 8)) % 2 ^ 64 ≡ top_bits s p
shifted_window s p =
    let all : p % 8 + (64 - p % 8) ≡ 64 = omega arith in
    let at : 8 * (p / 8) + p % 8 ≡ p = omega arith in
    rw (all, at) at (bits_at_shl s (8 * (p / 8)) (p % 8) (64 - p % 8))

-- the first n of n + m bits that stand r places up in a word
pub bits_at_high : (s : List ℕ) (p n m r : ℕ) → bits_at s p (n + m) * 2 ^ r / 2 ^ (r + m) ≡ bits_at s p n
bits_at_high s p n m r =
    rw (← shr-shr (bits_at s p (n + m) * 2 ^ r) r m, shl-shr (bits_at s p (n + m)) r, bits_at_split s p n m)
    (high (bits_at s p n) m (bits_at_lt s (p + n) m))

-- the first n of the bits that a word has
pub bits_at_top : (s : List ℕ) (p n : ℕ) → n ≤ 57 → top_bits s p / 2 ^ (64 - n) ≡ bits_at s p n
bits_at_top s p n h =
    let m : ℕ = 64 - p % 8 - n in
    let all : n + m ≡ 64 - p % 8 = omega arith in
    let out : p % 8 + m ≡ 64 - n = omega arith in
    rw (all, out) at (bits_at_high s p n m (p % 8))

-- n bits at p, out of the window of 64 bits that starts at p's byte
pub bits_at_window : (s : List ℕ) (p n : ℕ) → n ≤ 32 → (bits_at s (8 * (p / 8)) 64 * 2 ^ (p % 8)) % 2 ^ 64 / 2 ^ 32 / 2 ^ (32 - n) ≡ bits_at s p n
bits_at_window s p n h =
    let out : 32 + (32 - n) ≡ 64 - n = omega arith in
    rw (shifted_window s p, shr-shr (top_bits s p) 32 (32 - n), out)
    (bits_at_top s p n (omega arith))

-- a word that is not 0 has the bits
pub word_bits : (s : List ℕ) (p w : ℕ) → w ≡ word_at s p → 0 < w → w ≡ top_bits s p
unfolding word_at
word_bits s p w e h = picked (leb (p / 8 + 8) (length s)) e
  where
    picked : (b : Bool) → w ≡ cond b (top_bits s p) 0 → w ≡ top_bits s p
    picked true e = e
    picked false e = let no : 0 < 0 = rw e at h in omega arith
