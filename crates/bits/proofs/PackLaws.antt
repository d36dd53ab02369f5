-- Bits and bytes: the bytes of bits end in zeros, and nothing is lost. Assumes nothing.
use mathlib.Core.Path.{◌≡◌, refl, sym, ap, ◌∙◌}
use mathlib.Core.Bool.{Bool, true, false, cond}
use mathlib.Core.List.{List, [], ◌∷◌, ◌++◌, append-nil}
use Prim.Native.Nat.{ℕ, zero, suc, ◌+◌, ◌-◌, ◌*◌, ◌/◌, ◌%◌, ◌^◌, ◌≤◌, ◌<◌}
use native.Mathlib.Nat.{zero-div, zero-mod, zero-add, one-mul, zero-mul, suc-add, pow-suc, mod-lt}
use native.Mathlib.Nat.{div-lt_iff_lt-mul, sub-zero, suc-sub-suc, le_of_suc-le-suc, not-suc-le-zero}
use native.Mathlib.Omega.{arith}
use lib.Dec.{eqb, lit<}
use lib.ListN.{length, get_or, take, drop, replicate, length-drop, drop_of_length-le}
use lib.Pow.{pow_pos, split, high, low}
use lib.Seq.{drop_at, drop-nil, drop-drop, drop-append-le}
use Rattle.bits.specs.Bits.{bits_at}
use Rattle.bits.specs.BitLists.{binary, bits_of, number_of, packed, block_bytes, bytes_of}
use Rattle.bits.proofs.ListLaws.{length_binary, length_bits, binary_zero, bits_next, bits_there}

-- ---- the number of k bits

-- a bit as a number
abbrev bit : Bool → ℕ
bit true = 1
bit false = 0

-- the first bit, then the others
number_first : (k : ℕ) (b : Bool) (l : List Bool) → number_of (suc k) (b ∷ l) ≡ bit b * 2 ^ k + number_of k l
unfolding number_of
number_first k true l = rw one-mul
number_first k false l = rw zero-mul

pub number_nil : (k : ℕ) → number_of k [] ≡ 0
unfolding number_of
number_nil zero = refl
number_nil (suc k) = refl

pub number_lt : (k : ℕ) (l : List Bool) → number_of k l < 2 ^ k
unfolding number_of
number_lt zero l = lit< tt
number_lt (suc k) [] = pow_pos (suc k)
number_lt (suc k) (true ∷ l) = omega (arith, number_lt k l, pow-suc 2 k)
number_lt (suc k) (false ∷ l) = omega (arith, number_lt k l, pow-suc 2 k)

pub digit : (d : ℕ) (k : ℕ) → d < 2 → cond (eqb (d % 2) 1) (2 ^ k) 0 ≡ d * 2 ^ k
digit zero k h = rw zero-mul
digit (suc zero) k h = rw one-mul
digit (suc (suc d)) k h = absurd (omega arith)

-- the k digits of n make n
pub number_binary : (k n : ℕ) (l : List Bool) → n < 2 ^ k → number_of k (binary k n ++ l) ≡ n
unfolding number_of binary
number_binary zero n l h = omega arith
number_binary (suc k) n l h =
    let q : n / 2 ^ k < 2 = (div-lt_iff_lt-mul (pow_pos k)).1 (omega (arith, pow-suc 2 k)) in
    rw (digit (n / 2 ^ k) k q, number_binary k (n % 2 ^ k) l (mod-lt n (pow_pos k))) (split n k)

-- only the first k bits count
pub number_app : (k : ℕ) (l r : List Bool) → k ≤ length l → number_of k (l ++ r) ≡ number_of k l
unfolding number_of
number_app zero l r h = refl
number_app (suc k) [] r h = absurd (not-suc-le-zero h)
number_app (suc k) (b ∷ l) r h = rw (number_app k l r (le_of_suc-le-suc h))

-- ---- bits with zeros after their end

-- the first k bits, zeros after the end
padded : ℕ → List Bool → List Bool
padded zero l = []
padded (suc k) [] = false ∷ padded k []
padded (suc k) (b ∷ l) = b ∷ padded k l

bit_back : (b : Bool) → eqb (bit b % 2) 1 ≡ b
bit_back true = refl
bit_back false = refl

-- the digits of the number of k bits are those bits
binary_number : (k : ℕ) (l : List Bool) → binary k (number_of k l) ≡ padded k l
unfolding binary padded
binary_number zero l = refl
binary_number (suc k) [] = rw (number_nil (suc k), zero-div, zero-mod, ← number_nil k, binary_number k [])
binary_number (suc k) (b ∷ l) =
    let h = number_lt k l in
    rw (number_first k b l, high (bit b) k h, low (bit b) k h, bit_back b, binary_number k l)

padded_add : (m n : ℕ) (l : List Bool) → padded (m + n) l ≡ padded m l ++ padded n (drop m l)
unfolding padded
padded_add zero n l = rw (zero-add n)
padded_add (suc m) n [] = rw (suc-add m n, padded_add m n [], drop-nil {A = Bool} m)
padded_add (suc m) n (b ∷ l) = rw (suc-add m n, padded_add m n l)

padded_nil : (n : ℕ) → padded n [] ≡ replicate n false
unfolding padded
padded_nil zero = refl
padded_nil (suc n) = rw (padded_nil n)

padded_is : (n : ℕ) (l : List Bool) → length l ≤ n → padded n l ≡ l ++ replicate (n - length l) false
unfolding padded
padded_is n [] h = padded_nil n ∙ rw (sub-zero n)
padded_is zero (b ∷ l) h = absurd (not-suc-le-zero h)
padded_is (suc n) (b ∷ l) h = rw (suc-sub-suc n (length l), padded_is n l (le_of_suc-le-suc h))

packed_padded : (n : ℕ) (l : List Bool) → bits_of (packed n l) ≡ padded (8 * n) l
unfolding bits_of packed padded
packed_padded zero l = refl
packed_padded (suc n) l =
    let e : 8 * suc n ≡ 8 + 8 * n = omega arith in
    rw (binary_number 8 l, packed_padded n (drop 8 l), e) (sym (padded_add 8 (8 * n) l))

-- ---- bytes

-- the bits of the bytes of bits are these, with zeros after them
pub bits_packed : (n : ℕ) (l : List Bool) → length l ≤ 8 * n → bits_of (packed n l) ≡ l ++ replicate (8 * n - length l) false
bits_packed n l h = packed_padded n l ∙ padded_is (8 * n) l h

-- the bytes of the bits of bytes are these bytes
pub packed_bits : (s : List ℕ) → ((i : ℕ) → get_or s i 0 < 256) → packed (length s) (bits_of s) ≡ s
unfolding packed bits_of
packed_bits [] h = refl
packed_bits (x ∷ s) h =
    rw (number_binary 8 x (bits_of s) (h 0), drop_at (binary 8 x) (bits_of s) 8 (length_binary 8 x), packed_bits s (λ i. h (suc i)))

pub length_packed : (n : ℕ) (l : List Bool) → length (packed n l) ≡ n
unfolding packed
length_packed zero l = refl
length_packed (suc n) l = ap suc (length_packed n (drop 8 l))

pub bytes_packed : (n : ℕ) (l : List Bool) (i : ℕ) → get_or (packed n l) i 0 < 256
unfolding packed
bytes_packed zero l i = lit< tt
bytes_packed (suc n) l zero = number_lt 8 l
bytes_packed (suc n) l (suc i) = bytes_packed n (drop 8 l) i

-- byte i goes by the eight bits from 8·i on
pub packed_get_d : (n : ℕ) (l : List Bool) (i : ℕ) → i < n → get_or (packed n l) i 0 ≡ number_of 8 (drop (8 * i) l)
unfolding packed
packed_get_d zero l i h = absurd (not-suc-le-zero h)
packed_get_d (suc n) l zero h = refl
packed_get_d (suc n) l (suc i) h =
    let e : 8 * suc i ≡ 8 + 8 * i = omega arith in
    packed_get_d n (drop 8 l) i (le_of_suc-le-suc h) ∙ rw (e, drop-drop (8 * i) 8 l)

-- the first bytes go by the first bits alone
pub take_packed : (i n : ℕ) (l : List Bool) → i ≤ n → take i (packed n l) ≡ packed i l
unfolding packed
take_packed zero n l h = refl
take_packed (suc i) zero l h = absurd (not-suc-le-zero h)
take_packed (suc i) (suc n) l h = rw (take_packed i n (drop 8 l) (le_of_suc-le-suc h))

pub packed_app : (n : ℕ) (l r : List Bool) → 8 * n ≤ length l → packed n (l ++ r) ≡ packed n l
unfolding packed
packed_app zero l r h = refl
packed_app (suc n) l r h =
    rw (number_app 8 l r (omega arith), drop-append-le 8 l r (omega arith), packed_app n (drop 8 l) r (omega (arith, length-drop 8 l)))

-- ---- the bytes of a tight block

-- bytes after the bits are 0
packed_nil : (k : ℕ) → packed k [] ≡ replicate k 0
unfolding packed number_of
packed_nil zero = refl
packed_nil (suc k) = ap (λ (s : List ℕ). 0 ∷ s) (packed_nil k)

pub packed_more : (m k : ℕ) (l : List Bool) → length l ≤ 8 * m → packed (m + k) l ≡ packed m l ++ replicate k 0
unfolding packed
packed_more zero k [] h = rw zero-add (packed_nil k)
packed_more zero k (b ∷ l) h = absurd (omega arith)
packed_more (suc m) k l h =
    let e : suc m + k ≡ suc (m + k) = omega arith in
    rw e (ap (λ (s : List ℕ). number_of 8 l ∷ s) (packed_more m k (drop 8 l) (omega (arith, length-drop 8 l))))

-- they have room for the bits
pub room : (n : ℕ) → n ≤ 8 * block_bytes n
room n = omega arith

pub length_bytes_of : (l : List Bool) → length (bytes_of l) ≡ block_bytes (length l)
unfolding bytes_of
length_bytes_of l = length_packed (block_bytes (length l)) l

pub bytes_bytes_of : (l : List Bool) (i : ℕ) → get_or (bytes_of l) i 0 < 256
unfolding bytes_of
bytes_bytes_of l i = bytes_packed (block_bytes (length l)) l i

pub bits_bytes_of : (l : List Bool) → bits_of (bytes_of l) ≡ l ++ replicate (8 * block_bytes (length l) - length l) false
unfolding bytes_of
bits_bytes_of l = bits_packed (block_bytes (length l)) l (room (length l))

-- bytes whose bits are l and zeros, as many as l needs, are the bytes of l
pub bytes_of_bits : (s : List ℕ) (l : List Bool) → ((i : ℕ) → get_or s i 0 < 256) → length s ≡ block_bytes (length l)
    → bits_of s ≡ l ++ replicate (8 * length s - length l) false → bytes_of l ≡ s
bytes_of_bits s l h e b =
    let same : bits_of (bytes_of l) ≡ bits_of s = bits_bytes_of l ∙ (rw (← e) (sym b)) in
    let long : length (bytes_of l) ≡ length s = length_bytes_of l ∙ sym e in
    sym (packed_bits (bytes_of l) (bytes_bytes_of l)) ∙ rw (same, long) (packed_bits s h)

-- ---- spare bits

-- the bits from p to the end are 0 exactly where zeros stand there
module _ (s : List ℕ) (p : ℕ) (h : p ≤ 8 * length s) where
  pub spare_zeros : bits_at s p (8 * length s - p) ≡ 0 → drop p (bits_of s) ≡ replicate (8 * length s - p) false
  spare_zeros e =
      let n : ℕ = 8 * length s - p in
      let end : drop (p + n) (bits_of s) ≡ [] = drop_of_length-le (bits_of s) {i = p + n} (omega (arith, length_bits s)) in
      bits_next s p n (omega arith) ∙ rw (e, end, binary_zero n) (append-nil (replicate n false))

  pub zeros_spare : drop p (bits_of s) ≡ replicate (8 * length s - p) false → bits_at s p (8 * length s - p) ≡ 0
  zeros_spare e =
      let n : ℕ = 8 * length s - p in
      bits_there s p n 0 [] (pow_pos n) (e ∙ rw (binary_zero n) (sym (append-nil (replicate n false))))
