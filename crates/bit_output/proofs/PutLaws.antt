-- Bits that are put into an output: byte after byte, and one part after the other. Assumes nothing.
use mathlib.Core.Bool.{Bool, false}
use mathlib.Core.List.{List, [], ◌∷◌, ◌++◌, append_assoc, append-nil}
use mathlib.Core.Path.{◌≡◌, refl, sym, ◌∙◌}
use Prim.Native.Nat.{ℕ, zero, suc, ◌+◌, ◌-◌, ◌*◌, ◌/◌, ◌%◌, ◌^◌, ◌≤◌, ◌<◌}
use native.Mathlib.Nat.{add-zero, add_comm, zero-add, suc-add, zero-mul, add_assoc, add-mul, mul_assoc, pow-suc, mod-lt, div-lt_iff_lt-mul, div-one}
use native.Mathlib.Numerals.{one-add}
use native.Mathlib.Omega.{arith}
use lib.ListN.{length, get_or, set, take, drop, replicate, length-append, length-drop}
use lib.Pow.{pow_pos, pow-add, shr-shr, shr_lt, field, mod-mod-pow, split as digits}
use lib.Seq.{drop_at, take_at, take-append-add, drop-append-add, drop-drop, length-take-le}
use Rattle.bits.specs.BitLists.{binary, bits_of, number_of, packed}
use Rattle.bits.specs.Inside.{bytes_for}
use Rattle.bits.proofs.ListLaws.{length_binary, length_bits}
use Rattle.bits.proofs.PackLaws.{number_nil, digit, number_binary, bits_packed, length_packed}
use Rattle.bit_output.specs.Output.{put_bits}

-- ---- digits

mod_two : (n : ℕ) → n % 2 ^ 1 % 2 ≡ n % 2
mod_two n = omega arith

-- the b digits of a number go by its rest
pub binary_low : (b v : ℕ) → binary b v ≡ binary b (v % 2 ^ b)
unfolding binary
binary_low zero v = refl
binary_low (suc b) v =
    rw (← one-add b, field v 1 b, mod-mod-pow v 1 b, mod_two (v / 2 ^ b)) refl

-- the first a digits, then the other b
pub binary_split : (a b v : ℕ) → binary (a + b) v ≡ binary a (v / 2 ^ b) ++ binary b (v % 2 ^ b)
unfolding binary
binary_split zero b v = rw zero-add (binary_low b v)
binary_split (suc a) b v =
    rw (suc-add a b, binary_split a b (v % 2 ^ (a + b)), field v a b, mod-mod-pow v a b, shr-shr v b a, add_comm b a)
    refl

-- ---- the number of two parts

-- a digits of v, and then other bits
number_part : (a k v : ℕ) (l : List Bool) → v < 2 ^ a → number_of (a + k) (binary a v ++ l) ≡ v * 2 ^ k + number_of k l
unfolding number_of binary
number_part zero k v l h =
    let e : v ≡ 0 = omega arith in
    rw (zero-add, e, zero-mul, zero-add)
number_part (suc a) k v l h =
    let q : v / 2 ^ a < 2 = (div-lt_iff_lt-mul (pow_pos a)).1 (omega (arith, pow-suc 2 a)) in
    rw (suc-add a k, digit (v / 2 ^ a) (a + k) q, number_part a k (v % 2 ^ a) l (mod-lt v (pow_pos a)), pow-add 2 a k, ← mul_assoc (v / 2 ^ a) (2 ^ a) (2 ^ k), ← add_assoc, ← add-mul (v / 2 ^ a * 2 ^ a) (v % 2 ^ a) (2 ^ k), digits v a)
    refl

-- ---- bytes

pub bits_append : (s t : List ℕ) → bits_of (s ++ t) ≡ bits_of s ++ bits_of t
unfolding bits_of
bits_append [] t = refl
bits_append (x ∷ s) t = rw (bits_append s t) (sym (append_assoc (binary 8 x) (bits_of s) (bits_of t)))

-- where at least one bit is put
pub put_some : (out : List ℕ) (at : ℕ) (l : List Bool) → 1 ≤ length l
    → put_bits out at l ≡ packed (bytes_for (at + length l)) (take at (bits_of out) ++ l) ++ drop (bytes_for (at + length l)) out
unfolding put_bits
put_some out at [] h = absurd (omega arith)
put_some out at (b ∷ l) h = refl

pub put_none : (out : List ℕ) (at : ℕ) → put_bits out at [] ≡ out
unfolding put_bits
put_none out at = refl

pub length_put : (out : List ℕ) (at : ℕ) (l : List Bool) → bytes_for (at + length l) ≤ length out → length (put_bits out at l) ≡ length out
unfolding put_bits
length_put out at [] h = refl
length_put out at (b ∷ l) h =
    rw (length-append, length_packed, length-drop) (omega arith)

-- the second part follows the first
put_more_some : (out : List ℕ) (at : ℕ) (l m : List Bool) → 1 ≤ length l → 1 ≤ length m → bytes_for (at + (length l + length m)) ≤ length out
    → put_bits (put_bits out at l) (at + length l) m ≡ put_bits out at (l ++ m)
put_more_some out at l m hl hm h =
    let n : ℕ = bytes_for (at + length l) in
    let k : ℕ = bytes_for (at + length l + length m) in
    let x : List Bool = take at (bits_of out) ++ l in
    let long : length x ≡ at + length l = rw (length-append, length-take-le at (bits_of out) (omega (arith, length_bits out))) in
    let zeros : List Bool = replicate (8 * n - length x) false ++ bits_of (drop n out) in
    let bits : bits_of (packed n x ++ drop n out) ≡ x ++ zeros =
    bits_append (packed n x) (drop n out) ∙ rw (bits_packed n x (omega (arith, long))) (append_assoc x _ _) in
    let all : at + length l + length m ≡ at + length (l ++ m) = rw (length-append, add_assoc at (length l) (length m)) in
    let front : take (at + length l) (bits_of (packed n x ++ drop n out)) ≡ x = rw bits (take_at x zeros (at + length l) long) in
    let le : n ≤ k = omega arith in
    let back : drop k (packed n x ++ drop n out) ≡ drop k out =
    let e : k ≡ length (packed n x) + (k - n) = omega (arith, length_packed n x) in
    let f : n + (k - n) ≡ k = omega arith in
    rw (e, drop-append-add (packed n x) (drop n out) (k - n), drop-drop (k - n) n out, length_packed n x) refl in
    rw (put_some out at l hl, put_some (packed n x ++ drop n out) (at + length l) m hm, front, back, append_assoc (take at (bits_of out)) l m, put_some out at (l ++ m) (rw length-append (omega arith)), all) refl

pub put_more : (out : List ℕ) (at : ℕ) (l m : List Bool) → bytes_for (at + (length l + length m)) ≤ length out
    → put_bits (put_bits out at l) (at + length l) m ≡ put_bits out at (l ++ m)
put_more out at [] m h = rw (put_none, add-zero) refl
put_more out at (b ∷ l) [] h = rw (append-nil) (put_none _ _)
put_more out at (b ∷ l) (d ∷ m) h = put_more_some out at (b ∷ l) (d ∷ m) (omega arith) (omega arith) h

-- ---- one byte

-- the first byte stays where the bits come after it
skip : (x : ℕ) (s : List ℕ) (n q : ℕ) (l : List Bool) → x < 256 → packed (suc n) (take (8 + q) (bits_of (x ∷ s)) ++ l) ≡ x ∷ packed n (take q (bits_of s) ++ l)
unfolding bits_of packed
skip x s n q l h =
    let e : take (8 + q) (binary 8 x ++ bits_of s) ≡ binary 8 x ++ take q (bits_of s) = rw length_binary at (take-append-add (binary 8 x) (bits_of s) q) in
    let f : (binary 8 x ++ take q (bits_of s)) ++ l ≡ binary 8 x ++ (take q (bits_of s) ++ l) = append_assoc (binary 8 x) (take q (bits_of s)) l in
    rw (e, f, number_binary 8 x (take q (bits_of s) ++ l) h, drop_at (binary 8 x) (take q (bits_of s) ++ l) 8 (length_binary 8 x)) refl

-- what is made of a byte x, of which u bits stay
abbrev pub filled_byte : ℕ → ℕ → ℕ → ℕ → ℕ
filled_byte x u t part = x / 2 ^ (8 - u) * 2 ^ (8 - u) + part * 2 ^ (8 - u - t)

first_part : (x : ℕ) (s : List ℕ) (u j k t part : ℕ) → x < 256 → 8 ≡ u + j → j ≡ t + k → part < 2 ^ t
    → number_of 8 (take u (bits_of (x ∷ s)) ++ binary t part) ≡ x / 2 ^ j * 2 ^ j + part * 2 ^ k
unfolding bits_of
first_part x s u j k t part hx e f hp =
    let b : binary 8 x ++ bits_of s ≡ binary u (x / 2 ^ j) ++ (binary j (x % 2 ^ j) ++ bits_of s) =
    rw (e, binary_split u j x) (append_assoc (binary u (x / 2 ^ j)) (binary j (x % 2 ^ j)) (bits_of s)) in
    let lt : x / 2 ^ j < 2 ^ u = shr_lt u j (rw (← e) hx) in
    let g : number_of (t + k) (binary t part) ≡ part * 2 ^ k = rw (append-nil, number_nil k, add-zero) at (number_part t k part [] hp) in
    let i : number_of j (binary t part) ≡ part * 2 ^ k = rw (← f) at g in
    rw (b, take_at (binary u (x / 2 ^ j)) (binary j (x % 2 ^ j) ++ bits_of s) u (length_binary u (x / 2 ^ j)), e, number_part u j (x / 2 ^ j) (binary t part) lt, i) refl

first_byte : (x : ℕ) (s : List ℕ) (u t part : ℕ) → x < 256 → u + t ≤ 8 → part < 2 ^ t
    → number_of 8 (take u (bits_of (x ∷ s)) ++ binary t part) ≡ filled_byte x u t part
unfolding bits_of
first_byte x s u t part hx hu hp = first_part x s u (8 - u) (8 - u - t) t part hx (omega arith) (omega arith) hp

put_first : (x : ℕ) (s : List ℕ) (u t part : ℕ) → x < 256 → u + t ≤ 8 → part < 2 ^ t
    → filled_byte x u t part ∷ s ≡ packed 1 (take (0 + u) (bits_of (x ∷ s)) ++ binary t part) ++ s
unfolding packed
put_first x s u t part hx hu hp = rw (zero-add u, first_byte x s u t part hx hu hp) refl

-- t bits after the first u of byte i
put_at_lem : (out : List ℕ) (i u t part : ℕ) → ((j : ℕ) → get_or out j 0 < 256) → u + t ≤ 8 → i < length out → part < 2 ^ t
    → set out i (filled_byte (get_or out i 0) u t part) ≡ packed (suc i) (take (8 * i + u) (bits_of out) ++ binary t part) ++ drop (suc i) out
put_at_lem [] i u t part hb hu hi hp = absurd (omega arith)
put_at_lem (x ∷ s) zero u t part hb hu hi hp = put_first x s u t part (hb 0) hu hp
put_at_lem (x ∷ s) (suc i) u t part hb hu hi hp =
    let e : 8 * suc i + u ≡ 8 + (8 * i + u) = omega arith in
    rw (e, skip x s (suc i) (8 * i + u) (binary t part) (hb 0), put_at_lem s i u t part (λ j. hb (suc j)) hu (omega arith) hp) refl

pub put_byte : (out : List ℕ) (p t part : ℕ) → ((j : ℕ) → get_or out j 0 < 256) → 1 ≤ t → p % 8 + t ≤ 8 → p / 8 < length out → part < 2 ^ t
    → set out (p / 8) (filled_byte (get_or out (p / 8) 0) (p % 8) t part) ≡ put_bits out p (binary t part)
put_byte out p t part hb ht hu hi hp =
    let e : 8 * (p / 8) + p % 8 ≡ p = omega arith in
    let f : bytes_for (p + t) ≡ suc (p / 8) = omega arith in
    rw (put_some out p (binary t part) (rw length_binary ht), length_binary, f) (rw e at (put_at_lem out (p / 8) (p % 8) t part hb hu hi hp))

-- ---- a number, part after part

-- t digits more
digits_more : (a d t v : ℕ) → binary a (v / 2 ^ (d + t)) ++ binary t (v / 2 ^ d % 2 ^ t) ≡ binary (a + t) (v / 2 ^ d)
digits_more a d t v = rw (← shr-shr v d t) (sym (binary_split a t (v / 2 ^ d)))

-- the first digits of n, all but the last `left`
abbrev pub first_digits : ℕ → ℕ → ℕ → List Bool
first_digits n left v = binary (n - left) (v / 2 ^ left)

module _ (s out : List ℕ) (at n v left t p : ℕ) (same : out ≡ put_bits s at (first_digits n left v)) (bytes : (j : ℕ) → get_or out j 0 < 256)
    (ht : 1 ≤ t) (hl : t ≤ left) (hn : left ≤ n) (hp : p ≡ at + (n - left)) (hu : p % 8 + t ≤ 8) (long : length out ≡ length s)
    (h : bytes_for (at + n) ≤ length s) where
  part_lt : v / 2 ^ (left - t) % 2 ^ t < 2 ^ t
  part_lt = mod-lt (v / 2 ^ (left - t)) (pow_pos t)

  next_digits : first_digits n left v ++ binary t (v / 2 ^ (left - t) % 2 ^ t) ≡ first_digits n (left - t) v
  next_digits =
      let e : left ≡ left - t + t = omega arith in
      let f : n - left + t ≡ n - (left - t) = omega arith in
      rw (← e, f) at (digits_more (n - left) (left - t) t v)

  pub put_turn : set out (p / 8) (filled_byte (get_or out (p / 8) 0) (p % 8) t (v / 2 ^ (left - t) % 2 ^ t)) ≡ put_bits s at (first_digits n (left - t) v)
  put_turn =
      let more = put_more s at (first_digits n left v) (binary t (v / 2 ^ (left - t) % 2 ^ t)) (omega (arith, length_binary (n - left) (v / 2 ^ left), length_binary t (v / 2 ^ (left - t) % 2 ^ t))) in
      put_byte out p t (v / 2 ^ (left - t) % 2 ^ t) bytes ht hu (omega arith) part_lt
      ∙ rw (same, hp, ← next_digits) (rw length_binary at more)

-- none yet, and all of them
pub no_digits : (s : List ℕ) (at n v : ℕ) → s ≡ put_bits s at (first_digits n n v)
unfolding binary
no_digits s at n v = let e : n - n ≡ 0 = omega arith in rw (e, put_none s at)

pub all_digits : (s out : List ℕ) (at n v left : ℕ) → left ≡ 0 → out ≡ put_bits s at (first_digits n left v) → out ≡ put_bits s at (binary n v)
all_digits s out at n v left z e =
    let f : n - 0 ≡ n = omega arith in
    rw (z, f, div-one v) at e
