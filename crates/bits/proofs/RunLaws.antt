-- Laws about runs of zero bits: what a search through windows finds, and what a run says of the bits. Assumes nothing.
use mathlib.Core.Path.{◌≡◌, refl, sym, ◌∙◌}
use mathlib.Core.Bool.{Bool, true, false, cond}
use mathlib.Core.List.{List}
use Prim.Native.Nat.{ℕ, zero, suc, ◌+◌, ◌-◌, ◌*◌, ◌/◌, ◌%◌, ◌^◌, ◌≤◌, ◌<◌}
use native.Mathlib.Nat.{add-zero, add-suc, suc-add, zero-mul, one-mul, zero-add, not-suc-le-zero, le-mul_of_pos_right}
use native.Mathlib.Nat.{pos_of_ne-zero, lt_of_not-le, not-le_of_lt, lt_of_le_of_lt, lt_of_lt_of_le, lt_of_mul-lt-mul_right}
use native.Mathlib.Nat.{le_of_mul-le-mul_right, mul-le-mul_right, mul-pos, le_refl, le_of_suc-le-suc}
use native.Mathlib.Numerals.{add-one, one-add}
use native.Mathlib.Omega.{arith}
use lib.Count.{under, count_leading_zeros, leading_top}
use lib.Dec.{ltb}
use lib.ListN.{length}
use lib.Pow.{pow_pos, pow-add, pow_mono, shl_lt}
use borrow.Author.Tests.{lt-ltb, le-ltb, ltb-true, ltb-false}
use Rattle.bits.specs.Bits.{bit_at, bits_at, zeros, zero_run}
use Rattle.bits.specs.Inside.{top_bits}
use Rattle.bits.proofs.BitLaws.{bit_at_lt, bits_at_lt, bits_at_split, bits_at_none, bits_at_one, bits_at_first, bit_at_past}
use Rattle.std.specs.Prelude.{None, Some}

no_factor : (x k : ℕ) → 0 < k → x * k ≡ 0 → x ≡ 0
no_factor x k h e = omega (arith, le-mul_of_pos_right {m = k} x h)

-- where a + b bits are all 0, both parts are
pub zero_split : (s : List ℕ) (p a b : ℕ) → bits_at s p (a + b) ≡ 0 → (bits_at s p a ≡ 0) × (bits_at s (p + a) b ≡ 0)
zero_split s p a b h =
    let e = bits_at_split s p a b in
    (no_factor (bits_at s p a) (2 ^ b) (pow_pos b) (omega arith), omega arith)

-- where both parts are all 0, a + b bits are
pub zero_join : (s : List ℕ) (p a b : ℕ) → bits_at s p a ≡ 0 → bits_at s (p + a) b ≡ 0 → bits_at s p (a + b) ≡ 0
zero_join s p a b h k = rw (bits_at_split s p a b, h, k, zero-mul)

zero_first : (s : List ℕ) (p n : ℕ) → bits_at s p (suc n) ≡ 0 → (bit_at s p ≡ 0) × (bits_at s (suc p) n ≡ 0)
zero_first s p n h =
    let e = zero_split s p 1 n (rw one-add h) in
    (rw bits_at_one at e.0, rw add-one at e.1)

-- n bits that are all 0
pub zeros_none : (s : List ℕ) (p n : ℕ) → bits_at s p n ≡ 0 → zeros s p n ≡ n
unfolding zeros
zeros_none s p zero h = refl
zeros_none s p (suc n) h =
    let e = zero_first s p n h in
    rw (e.0, zeros_none s (suc p) n e.1)

-- z zeros and a one
pub zeros_one : (s : List ℕ) (p n z : ℕ) → z < n → bits_at s p z ≡ 0 → bit_at s (p + z) ≡ 1 → zeros s p n ≡ z
unfolding zeros
zeros_one s p zero z lt h b = absurd (not-suc-le-zero lt)
zeros_one s p (suc n) zero lt h b = rw (rw add-zero at b)
zeros_one s p (suc n) (suc z) lt h b =
    let e = zero_first s p z h in
    rw (e.0, zeros_one s (suc p) n z (omega arith) e.1 (rw (suc-add, ← add-suc) b))

found : (s : List ℕ) (p m b : ℕ) → bit_at s p ≡ b → b < 2 → (b ≡ 0 → (bits_at s (suc p) m ≡ 0) × (bit_at s (suc p + m) ≡ 1))
    → (bits_at s p (under b m) ≡ 0) × (bit_at s (p + under b m) ≡ 1)
found s p m zero e lt rest =
    let r = rest refl in
    (bits_at_first s p m ∙ rw (e, r.0, zero-mul), rw (add-suc, ← suc-add) r.1)
found s p m (suc zero) e lt rest = (bits_at_none s p, rw add-zero e)
found s p m (suc (suc b)) e lt rest = absurd (omega arith)

-- where a one bit is found, zeros stand before it
pub zeros_found : (s : List ℕ) (p n : ℕ) → zeros s p n < n → (bits_at s p (zeros s p n) ≡ 0) × (bit_at s (p + zeros s p n) ≡ 1)
unfolding zeros
zeros_found s p zero h = absurd (not-suc-le-zero h)
zeros_found s p (suc n) h =
    found s p (zeros s (suc p) n) (bit_at s p) refl (bit_at_lt s p)
    (λ e. zeros_found s (suc p) n (le_of_suc-le-suc (rw e at h)))

pow_lt_cancel : {a b : ℕ} → 2 ^ a < 2 ^ b → a < b
pow_lt_cancel h = lt_of_not-le (λ g. not-le_of_lt h (pow_mono g))

-- z + 1 + d bits whose number has d + 1 digits: z zeros and a one
top_bit : (s : List ℕ) (q z d : ℕ) → bits_at s q (z + (1 + d)) < 2 ^ (1 + d) → 2 ^ d ≤ bits_at s q (z + (1 + d)) → (bits_at s q z ≡ 0) × (bit_at s (q + z) ≡ 1)
top_bit s q z d hi lo =
    let e = bits_at_split s q z (1 + d) in
    let f = bits_at_split s (q + z) 1 d in
    let g = bits_at_one s (q + z) in
    let l = bits_at_lt s (q + z + 1) d in
    let a : bits_at s q z < 1 = lt_of_mul-lt-mul_right (2 ^ (1 + d)) (rw one-mul (omega arith)) in
    let a0 : bits_at s q z ≡ 0 = omega arith in
    let v : bits_at s q (z + (1 + d)) ≡ bit_at s (q + z) * 2 ^ d + bits_at s (q + z + 1) d = e ∙ rw (a0, zero-mul, f, g) (zero-add _) in
    let no : bit_at s (q + z) ≡ 0 → ⊥ = λ b. let w : bits_at s q (z + (1 + d)) ≡ bits_at s (q + z + 1) d = v ∙ rw (b, zero-mul) (zero-add _) in omega arith in
    (a0, omega (arith, bit_at_lt s (q + z), pos_of_ne-zero no))

leading_at : (s : List ℕ) (q n r z j : ℕ) → 0 < bits_at s q n → z + suc j ≡ n + r → 2 ^ j ≤ bits_at s q n * 2 ^ r → bits_at s q n * 2 ^ r < 2 ^ suc j
    → (bits_at s q z ≡ 0) × (bit_at s (q + z) ≡ 1)
leading_at s q n r z j pos sum le lt =
    let rj : r < suc j = pow_lt_cancel (lt_of_le_of_lt (rw one-mul at (mul-le-mul_right {m = 1} (2 ^ r) pos)) lt) in
    let ej : j ≡ (j - r) + r = omega arith in
    let es : suc j ≡ (1 + (j - r)) + r = omega arith in
    let en : n ≡ z + (1 + (j - r)) = omega arith in
    let hi : bits_at s q n < 2 ^ (1 + (j - r)) = lt_of_mul-lt-mul_right (2 ^ r) (rw (← pow-add 2 (1 + (j - r)) r, ← es) lt) in
    let lo : 2 ^ (j - r) ≤ bits_at s q n = le_of_mul-le-mul_right {k = 2 ^ r} (rw (← pow-add 2 (j - r) r, ← ej) le) (pow_pos r) in
    top_bit s q z (j - r) (rw (← en) hi) (rw (← en) lo)

-- a number that reaches 2 ^ j has few leading zeros
pub leading_few : (k j a : ℕ) → 2 ^ j ≤ a → a < 2 ^ k → count_leading_zeros k a + j < k
leading_few k j a le lt =
    let t = leading_top k a (lt_of_lt_of_le (pow_pos j) le) lt in
    omega (arith, t.1, pow_lt_cancel (lt_of_le_of_lt le t.3))

-- what a count of leading zeros says of the n bits at q, which stand r places up in a word
pub leading_bits : (s : List ℕ) (q n r : ℕ) → 0 < bits_at s q n
    → (bits_at s q (count_leading_zeros (n + r) (bits_at s q n * 2 ^ r)) ≡ 0) × (bit_at s (q + count_leading_zeros (n + r) (bits_at s q n * 2 ^ r)) ≡ 1)
leading_bits s q n r pos =
    let t = leading_top (n + r) (bits_at s q n * 2 ^ r) (mul-pos pos (pow_pos r)) (shl_lt n r (bits_at_lt s q n)) in
    leading_at s q n r (count_leading_zeros (n + r) (bits_at s q n * 2 ^ r)) t.0 pos t.1 t.2 t.3

-- the word at q is not 0: its leading zeros are the zeros before a one bit
pub window_one : (s : List ℕ) (q w : ℕ) → w ≡ top_bits s q → (w ≡ 0 → ⊥) → (bits_at s q (count_leading_zeros 64 w) ≡ 0) × (bit_at s (q + count_leading_zeros 64 w) ≡ 1)
window_one s q w e ne =
    let all : (64 - q % 8) + q % 8 ≡ 64 = omega arith in
    let pos : 0 < bits_at s q (64 - q % 8) = pos_of_ne-zero (λ z. ne (e ∙ rw (z, zero-mul))) in
    let b = leading_bits s q (64 - q % 8) (q % 8) pos in
    rw e (rw all at b)

-- it is 0: there is no one bit up to the window's end
pub window_none : (s : List ℕ) (q w : ℕ) → w ≡ top_bits s q → w ≡ 0 → bits_at s q ((q / 8 + 8) * 8 - q) ≡ 0
window_none s q w e z =
    let n : (q / 8 + 8) * 8 - q ≡ 64 - q % 8 = omega arith in
    rw n (no_factor (bits_at s q (64 - q % 8)) (2 ^ (q % 8)) (pow_pos (q % 8)) (sym e ∙ z))

-- z zeros and a one are a run of z
pub run_at : (s : List ℕ) (p z : ℕ) → bits_at s p z ≡ 0 → bit_at s (p + z) ≡ 1 → zero_run s p ≡ Some z
unfolding zero_run
run_at s p z h b =
    let inside : z < 8 * length s - p = lt_of_not-le (λ out. let o = bit_at_past s (p + z) (omega arith) in omega arith) in
    rw (zeros_one s p (8 * length s - p) z inside h b, lt-ltb _ _ inside)

-- the leading zeros of the word at p are the run, where it is not 0: after the block's end it has no one bit
pub window_run : (s : List ℕ) (p w : ℕ) → w ≡ top_bits s p → (w ≡ 0 → ⊥) → zero_run s p ≡ Some (count_leading_zeros 64 w)
window_run s p w e ne =
    let b = window_one s p w e ne in
    run_at s p (count_leading_zeros 64 w) b.0 b.1

-- a search from p has passed q - p zeros and finds z more, and a one
pub run_one : (s : List ℕ) (p q z : ℕ) → p ≤ q → bits_at s p (q - p) ≡ 0 → bits_at s q z ≡ 0 → bit_at s (q + z) ≡ 1 → Some (q - p + z) ≡ zero_run s p
run_one s p q z le h k b =
    let e : p + (q - p) ≡ q = omega arith in
    let f : p + (q - p + z) ≡ q + z = omega arith in
    sym (run_at s p (q - p + z) (zero_join s p (q - p) z h (rw e k)) (rw f b))

-- it has passed zeros up to the block's end
pub run_none : (s : List ℕ) (p q : ℕ) → length s ≤ q / 8 → bits_at s p (q - p) ≡ 0 → None ≡ zero_run s p
unfolding zero_run
run_none s p q out h =
    let e : q - p ≡ (8 * length s - p) + (q - p - (8 * length s - p)) = omega arith in
    let is : zeros s p (8 * length s - p) ≡ 8 * length s - p = zeros_none s p (8 * length s - p) (zero_split s p _ _ (rw e at h)).0 in
    rw (is, le-ltb (8 * length s - p) (8 * length s - p) (le_refl _))

picked : (t : Bool) (a n z : ℕ) → ltb a n ≡ t → cond t (Some a) None ≡ Some z → (a ≡ z) × (z < n)
picked true a n z e h =
    let s : a ≡ z = cc in
    (s, omega (arith, ltb-true a n e))
picked false a n z e h =
    let no : ◌≡◌ {A = ℕ} 0 1 = cc in
    absurd (omega arith)

counted : (s : List ℕ) (p z : ℕ) → zero_run s p ≡ Some z → (zeros s p (8 * length s - p) ≡ z) × (z < 8 * length s - p)
unfolding zero_run
counted s p z h = picked (ltb (zeros s p (8 * length s - p)) (8 * length s - p)) _ _ z refl h

-- a run of z is z zeros and a one
pub run_is : (s : List ℕ) (p z : ℕ) → zero_run s p ≡ Some z → (bits_at s p z ≡ 0) × (bit_at s (p + z) ≡ 1)
run_is s p z h =
    let c = counted s p z h in
    rw c.0 at (zeros_found s p (8 * length s - p) (rw c.0 c.1))

-- the one bit of a run stands inside the block
pub run_inside : (s : List ℕ) (p z : ℕ) → zero_run s p ≡ Some z → p + z < 8 * length s
run_inside s p z h = omega (arith, (counted s p z h).1)

-- a run of z and the k bits behind its one, as one number
pub run_then_lem : (s : List ℕ) (p z k : ℕ) → zero_run s p ≡ Some z → bits_at s p (z + 1 + k) ≡ 2 ^ k + bits_at s (p + z + 1) k
run_then_lem s p z k h =
    let r = run_is s p z h in
    let one : bits_at s p (z + 1) ≡ 1 = bits_at_split s p z 1 ∙ rw (r.0, bits_at_one, r.1) in
    let at : p + (z + 1) ≡ p + z + 1 = omega arith in
    bits_at_split s p (z + 1) k ∙ rw (one, one-mul, at)

-- no run: all bits up to the block's end are 0
all_zeros : (s : List ℕ) (p n : ℕ) → n ≤ zeros s p n → bits_at s p n ≡ 0
unfolding zeros
all_zeros s p zero h = bits_at_none s p
all_zeros s p (suc n) h = go (bit_at s p) refl (bit_at_lt s p) (λ k. all_zeros s (suc p) n k) h
  where
    go : (b : ℕ) → bit_at s p ≡ b → b < 2 → (n ≤ zeros s (suc p) n → bits_at s (suc p) n ≡ 0) → suc n ≤ under b (zeros s (suc p) n) → bits_at s p (suc n) ≡ 0
    go zero e lt rest k = bits_at_first s p n ∙ rw (e, rest (le_of_suc-le-suc k), zero-mul)
    go (suc zero) e lt rest k = absurd (not-suc-le-zero k)
    go (suc (suc b)) e lt rest k = absurd (omega arith)

pub none_is : (s : List ℕ) (p : ℕ) → zero_run s p ≡ None → bits_at s p (8 * length s - p) ≡ 0
unfolding zero_run
none_is s p e = go (ltb (zeros s p (8 * length s - p)) (8 * length s - p)) refl e
  where
    go : (t : Bool) → ltb (zeros s p (8 * length s - p)) (8 * length s - p) ≡ t → cond t (Some (zeros s p (8 * length s - p))) None ≡ None
        → bits_at s p (8 * length s - p) ≡ 0
    go true f g = let no : ◌≡◌ {A = ℕ} 0 1 = cc in absurd (omega arith)
    go false f g = all_zeros s p (8 * length s - p) (ltb-false _ _ f)

-- a run: they are not
pub one_is : (s : List ℕ) (p z : ℕ) → zero_run s p ≡ Some z → bits_at s p (8 * length s - p) ≡ 0 → ⊥
one_is s p z e h =
    let i = counted s p z e in
    let n : ℕ = 8 * length s - p in
    let f : n ≡ (z + 1) + (n - (z + 1)) = omega arith in
    let b : bits_at s p (z + 1) ≡ 0 = (zero_split s p (z + 1) (n - (z + 1)) (rw (← f) h)).0 in
    omega (arith, (zero_split s p z 1 b).1, bits_at_one s (p + z), (run_is s p z e).1)
