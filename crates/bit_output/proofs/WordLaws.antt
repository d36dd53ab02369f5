-- Bits that are put into four bytes at once: what `merged` makes of them and `store32` stores is what `put_bits` says. Assumes nothing.
use mathlib.Core.Bool.{Bool, false}
use mathlib.Core.List.{List, [], ◌∷◌, ◌++◌, append_assoc, append-nil}
use mathlib.Core.Path.{◌≡◌, refl, sym, ap, ◌∙◌}
use Prim.Native.Nat.{ℕ, zero, suc, ◌+◌, ◌-◌, ◌*◌, ◌/◌, ◌%◌, ◌^◌, ◌≤◌, ◌<◌}
use native.Mathlib.Nat.{zero-mul, zero-add, add_assoc, mod-lt, lt_of_lt_of_le}
use native.Mathlib.Omega.{arith}
use lib.Arith.{digits_lt}
use lib.ListN.{length, get_or, set, take, drop, replicate, length-append, take-append-drop}
use lib.Pow.{pow_pos, pow-add, pow_mono, shr_lt, high, low}
use lib.Seq.{take_at, drop_at, take-add, get_or-drop, length-take-le, sets-eq}
use Rattle.bits.specs.Bits.{bits_at, be32}
use Rattle.bits.specs.BitLists.{binary, bits_of, packed}
use Rattle.bits.specs.Inside.{bytes_for}
use Rattle.bits.proofs.BitLaws.{bits_at_lt, bits_at_split, be32_bits}
use Rattle.bits.proofs.ListLaws.{length_binary, length_bits, binary_zero, bits_binary, bits_next}
use Rattle.bits.proofs.PackLaws.{number_binary, bits_packed, packed_bits, bytes_packed}
use Rattle.bit_output.specs.Output.{put_bits}
use Rattle.bit_output.proofs.PutLaws.{binary_low, binary_split, bits_append, put_some}

-- ---- the digits of four bytes

-- a number and b digits after it
binary_sum : (a b x y : ℕ) → y < 2 ^ b → binary (a + b) (x * 2 ^ b + y) ≡ binary a x ++ binary b y
binary_sum a b x y h = rw (binary_split a b (x * 2 ^ b + y), high x b h, low x b h) refl

-- what is made of a word x: u bits of it stay, n digits of v follow, then zeros to the end of a byte, and the bytes of x after that
abbrev pub merged_word : ℕ → ℕ → ℕ → ℕ → ℕ
merged_word x u n v = x / 2 ^ (32 - u) * 2 ^ (32 - u) + v % 2 ^ n * 2 ^ (32 - u - n) + x % 2 ^ (32 - 8 * bytes_for (u + n))

-- n digits and what stands below them
pub new_lt : (n q v b : ℕ) → b < 2 ^ q → v % 2 ^ n * 2 ^ q + b < 2 ^ (n + q)
new_lt n q v b h = rw (pow-add 2 n q) (digits_lt (mod-lt v (pow_pos n)) h)

-- u digits, n digits, z zeros and r digits
word_digits : (u n z r a v b : ℕ) → b < 2 ^ r
    → binary (u + (n + (z + r))) (a * 2 ^ (n + (z + r)) + (v % 2 ^ n * 2 ^ (z + r) + b)) ≡ binary u a ++ (binary n v ++ (replicate z false ++ binary r b))
word_digits u n z r a v b h =
    let k : b < 2 ^ (z + r) = lt_of_lt_of_le h (pow_mono {i = r} {j = z + r} (omega arith)) in
    let last : binary (z + r) b ≡ binary z 0 ++ binary r b = rw (zero-mul, zero-add) at (binary_sum z r 0 b h) in
    rw (binary_sum u (n + (z + r)) a (v % 2 ^ n * 2 ^ (z + r) + b) (new_lt n (z + r) v b k), binary_sum n (z + r) (v % 2 ^ n) b k, last, binary_zero z, ← binary_low n v)
    refl

-- ---- bytes and their bits

-- bytes go by their bits
same_bytes : (s t : List ℕ) → ((j : ℕ) → get_or s j 0 < 256) → ((j : ℕ) → get_or t j 0 < 256) → bits_of s ≡ bits_of t → s ≡ t
same_bytes s t hs ht e =
    let long : length s ≡ length t = omega (arith, length_bits s, length_bits t, ap length e) in
    sym (packed_bits s hs) ∙ rw (long, e) (packed_bits t ht)

-- two lists of bytes are one
bytes_append : (s t : List ℕ) → ((j : ℕ) → get_or s j 0 < 256) → ((j : ℕ) → get_or t j 0 < 256) → (j : ℕ) → get_or (s ++ t) j 0 < 256
bytes_append [] t hs ht j = ht j
bytes_append (x ∷ s) t hs ht zero = hs 0
bytes_append (x ∷ s) t hs ht (suc j) = bytes_append s t (λ k. hs (suc k)) ht j

-- the bits of the first m bytes, and of the others
module _ (s : List ℕ) (m : ℕ) (h : m ≤ length s) where
  parts : bits_of (take m s) ++ bits_of (drop m s) ≡ bits_of s
  parts = sym (bits_append (take m s) (drop m s)) ∙ rw (take-append-drop m s) refl

  long : length (bits_of (take m s)) ≡ 8 * m
  long = length_bits (take m s) ∙ rw (length-take-le m s h) refl

  bits_take : bits_of (take m s) ≡ take (8 * m) (bits_of s)
  bits_take = rw (← parts) (sym (take_at (bits_of (take m s)) (bits_of (drop m s)) (8 * m) long))

  bits_drop : bits_of (drop m s) ≡ drop (8 * m) (bits_of s)
  bits_drop = rw (← parts) (sym (drop_at (bits_of (take m s)) (bits_of (drop m s)) (8 * m) long))

-- ---- the word in its place

-- i bytes stand before the four; of these u bits stay, n digits are put, z zeros follow, and r bits stay
module _ (out : List ℕ) (i u n z r v w : ℕ) (all : u + (n + (z + r)) ≡ 32) (h : i + 4 ≤ length out) where
  -- the parts of the word that stay
  first_bits : bits_at out (8 * i) 32 / 2 ^ (n + (z + r)) ≡ bits_at out (8 * i) u
  first_bits =
      rw (← all, bits_at_split out (8 * i) u (n + (z + r)))
      (high (bits_at out (8 * i) u) (n + (z + r)) (bits_at_lt out (8 * i + u) (n + (z + r))))

  last_bits : bits_at out (8 * i) 32 % 2 ^ r ≡ bits_at out (8 * i + (u + n + z)) r
  last_bits =
      let e : 32 ≡ u + n + z + r = omega arith in
      rw (e, bits_at_split out (8 * i) (u + n + z) r)
      (low (bits_at out (8 * i) (u + n + z)) r (bits_at_lt out (8 * i + (u + n + z)) r))

  -- the digits of the merged word
  merged_digits : (x : ℕ) → x ≡ bits_at out (8 * i) 32 → w ≡ x / 2 ^ (n + (z + r)) * 2 ^ (n + (z + r)) + v % 2 ^ n * 2 ^ (z + r) + x % 2 ^ r
      → binary 32 w ≡ binary u (bits_at out (8 * i) u) ++ (binary n v ++ (replicate z false ++ binary r (bits_at out (8 * i + (u + n + z)) r)))
  merged_digits x ex ew =
      let a : ℕ = bits_at out (8 * i) u in
      let b : ℕ = bits_at out (8 * i + (u + n + z)) r in
      let e : w ≡ a * 2 ^ (n + (z + r)) + (v % 2 ^ n * 2 ^ (z + r) + b) = ew ∙ rw (ex, first_bits, last_bits) (add_assoc (a * 2 ^ (n + (z + r))) (v % 2 ^ n * 2 ^ (z + r)) b) in
      rw e (rw all at (word_digits u n z r a v b (bits_at_lt out (8 * i + (u + n + z)) r)))

  -- the bits of the output where it is stored
  stored_bits : binary 32 w ≡ binary u (bits_at out (8 * i) u) ++ (binary n v ++ (replicate z false ++ binary r (bits_at out (8 * i + (u + n + z)) r)))
      → bits_of (take i out ++ packed 4 (binary 32 w) ++ drop (i + 4) out)
      ≡ take (8 * i + u) (bits_of out) ++ (binary n v ++ (replicate z false ++ drop (8 * i + (u + n + z)) (bits_of out)))
  stored_bits digits =
      let four : bits_of (packed 4 (binary 32 w)) ≡ binary 32 w = rw (length_binary 32 w, append-nil) at (bits_packed 4 (binary 32 w) (omega (arith, length_binary 32 w))) in
      let before : take (8 * i + u) (bits_of out) ≡ take (8 * i) (bits_of out) ++ binary u (bits_at out (8 * i) u) =
      take-add (8 * i) u (bits_of out) ∙ rw (bits_binary out (8 * i) u (omega arith)) refl in
      let e : 8 * i + (u + n + z) + r ≡ 8 * (i + 4) = omega arith in
      let behind : drop (8 * i + (u + n + z)) (bits_of out) ≡ binary r (bits_at out (8 * i + (u + n + z)) r) ++ drop (8 * (i + 4)) (bits_of out) =
      rw e at (bits_next out (8 * i + (u + n + z)) r (omega arith)) in
      bits_append (take i out ++ packed 4 (binary 32 w)) (drop (i + 4) out)
      ∙ rw (bits_append (take i out) (packed 4 (binary 32 w)), bits_take out i (omega arith), four, bits_drop out (i + 4) h, digits, before, behind) (simp append_assoc)

-- ---- four bytes

-- the first byte of a word, and the others
next_byte : (m k w : ℕ) → w < 2 ^ (8 + k) → packed (suc m) (binary (8 + k) w) ≡ w / 2 ^ k ∷ packed m (binary k (w % 2 ^ k))
unfolding packed
next_byte m k w h =
    rw (binary_split 8 k w, number_binary 8 (w / 2 ^ k) (binary k (w % 2 ^ k)) (shr_lt 8 k h), drop_at (binary 8 (w / 2 ^ k)) (binary k (w % 2 ^ k)) 8 (length_binary 8 (w / 2 ^ k)))
    refl

no_byte : (l : List Bool) → packed 0 l ≡ []
unfolding packed
no_byte l = refl

-- its four bytes
word_bytes : (w : ℕ) → w < 2 ^ 32 → packed 4 (binary 32 w) ≡ w / 2 ^ 24 ∷ w / 2 ^ 16 % 256 ∷ w / 2 ^ 8 % 256 ∷ w % 256 ∷ []
word_bytes w h =
    let b : w % 2 ^ 24 / 2 ^ 16 ≡ w / 2 ^ 16 % 256 = omega arith in
    let c : w % 2 ^ 24 % 2 ^ 16 / 2 ^ 8 ≡ w / 2 ^ 8 % 256 = omega arith in
    let d : w % 2 ^ 24 % 2 ^ 16 % 2 ^ 8 / 2 ^ 0 ≡ w % 256 = omega arith in
    rw (next_byte 3 24 w h, next_byte 2 16 (w % 2 ^ 24) (omega arith), next_byte 1 8 (w % 2 ^ 24 % 2 ^ 16) (omega arith), next_byte 0 0 (w % 2 ^ 24 % 2 ^ 16 % 2 ^ 8) (omega arith), no_byte, b, c, d)
    refl

-- these four, stored one after the other
pub word_stored : (s : List ℕ) (i w : ℕ) → i + 4 ≤ length s → w < 2 ^ 32
    → set (set (set (set s i (w / 2 ^ 24)) (i + 1) (w / 2 ^ 16 % 256)) (i + 2) (w / 2 ^ 8 % 256)) (i + 3)
    (w % 256) ≡ take i s ++ packed 4 (binary 32 w) ++ drop (i + 4) s
word_stored s i w h hw =
    let a : i + 1 ≡ suc i = omega arith in
    let b : i + 2 ≡ suc (suc i) = omega arith in
    let c : i + 3 ≡ suc (suc (suc i)) = omega arith in
    rw (word_bytes w hw, a, b, c) (sets-eq (w / 2 ^ 24 ∷ w / 2 ^ 16 % 256 ∷ w / 2 ^ 8 % 256 ∷ w % 256 ∷ []) s i h)

-- ---- the output

module _ (out : List ℕ) (at n v : ℕ) (bytes : (j : ℕ) → get_or out j 0 < 256) (hn : 1 ≤ n) (h : bytes_for (at + n) ≤ length out) where
  -- what is put is bytes
  put_bytes : (j : ℕ) → get_or (put_bits out at (binary n v)) j 0 < 256
  put_bytes =
      let m : ℕ = bytes_for (at + n) in
      rw (put_some out at (binary n v) (rw length_binary hn), length_binary)
      (bytes_append (packed m (take at (bits_of out) ++ binary n v)) (drop m out) (bytes_packed m (take at (bits_of out) ++ binary n v)) (λ k. rw get_or-drop (bytes (m + k))))

  -- its bits, z zeros among them
  put_digits : (z : ℕ) → at + n + z ≡ 8 * bytes_for (at + n)
      → bits_of (put_bits out at (binary n v)) ≡ take at (bits_of out) ++ (binary n v ++ (replicate z false ++ drop (at + n + z) (bits_of out)))
  put_digits z e =
      let m : ℕ = bytes_for (at + n) in
      let x : List Bool = take at (bits_of out) ++ binary n v in
      let long : length x ≡ at + n = rw (length-append, length_binary, length-take-le at (bits_of out) (omega (arith, length_bits out))) in
      let zeros : 8 * m - length x ≡ z = omega arith in
      rw (put_some out at (binary n v) (rw length_binary hn), length_binary, bits_append (packed m x) (drop m out), bits_packed m x (omega arith), zeros, bits_drop out m h, e)
      (simp append_assoc)

  module _ (out' : List ℕ) (x w : ℕ) (hu : at % 8 + n ≤ 24) (hi : at / 8 + 4 ≤ length out) (bytes' : (j : ℕ) → get_or out' j 0 < 256) (ex : x ≡ be32 out (at / 8))
      (ew : w ≡ merged_word x (at % 8) n v) (eo : out' ≡ take (at / 8) out ++ packed 4 (binary 32 w) ++ drop (at / 8 + 4) out) where
    put_parts : (z r : ℕ) → at % 8 + (n + (z + r)) ≡ 32 → 32 - 8 * bytes_for (at % 8 + n) ≡ r → out' ≡ put_bits out at (binary n v)
    put_parts z r all er =
        let p : 32 - at % 8 ≡ n + (z + r) = omega arith in
        let q : 32 - at % 8 - n ≡ z + r = omega arith in
        let digits = merged_digits out (at / 8) (at % 8) n z r v w all hi x (ex ∙ be32_bits out (at / 8) bytes) (rw (q, p, er) at ew) in
        let here : 8 * (at / 8) + at % 8 ≡ at = omega arith in
        let end : 8 * (at / 8) + (at % 8 + n + z) ≡ at + n + z = omega arith in
        same_bytes out' (put_bits out at (binary n v)) bytes' put_bytes
        (ap bits_of eo ∙ rw (end, here) at (stored_bits out (at / 8) (at % 8) n z r v w all hi digits) ∙ sym (put_digits z (omega arith)))

    -- the word at a position, merged and stored, is the output after these digits were put
    pub put_word : out' ≡ put_bits out at (binary n v)
    put_word = put_parts (8 * bytes_for (at % 8 + n) - (at % 8 + n)) (32 - 8 * bytes_for (at % 8 + n)) (omega arith) refl
