-- What raw is, and how large total is. Assumes nothing.
use mathlib.Core.Path.{◌≡◌, sym, ◌∙◌}
use Prim.Native.Nat.{ℕ, suc, ◌+◌, ◌-◌, ◌*◌, ◌/◌, ◌^◌, ◌≤◌, ◌<◌, zero-le}
use native.Mathlib.Nat.{div-add-mod', mod-lt, add-mul, div-lt_iff_lt-mul, le-mul_of_pos_right, lt_of_not-le}
use native.Mathlib.Omega.{arith}
use lib.Count.{count_leading_zeros, leading_length}
use lib.Dec.{leb}
use lib.Pow.{pow_pos, pow_mono}
use borrow.Author.Tests.{le-leb, lt-leb, leb-true}
use Rattle.numbers.specs.Numbers.{least_from}
use Rattle.numbers.proofs.LeastLaws.{least, least_is}
use Rattle.numbers.proofs.OrderLaws.{split}
use Rattle.quantiser.specs.Quantisers.{largest, total_of, raw_of}

-- total is at most 2^bits, and not 0
pub total_le : (bits q : ℕ) → total_of bits q ≤ 2 ^ bits
unfolding total_of
total_le bits q =
    let p = pow_pos bits in
    let m : ℕ = largest bits in
    let w : m ≤ m * (2 * q + 1) = le-mul_of_pos_right {m = 2 * q + 1} m (omega arith) in
    let e : suc m * (2 * q + 1) ≡ m * (2 * q + 1) + (2 * q + 1) = omega arith in
    let d : (m + 2 * q) / (2 * q + 1) < suc m = (div-lt_iff_lt-mul {k = 2 * q + 1} (omega arith)).1 (omega arith) in
    omega arith

pub total_pos : (bits q : ℕ) → 1 ≤ total_of bits q
unfolding total_of
total_pos bits q = omega arith

-- so many steps of 2q + 1 reach over all samples and q to either side
pub total_wide : (bits q : ℕ) → largest bits + 2 * q < total_of bits q * (2 * q + 1)
unfolding total_of
total_wide bits q =
    let n : ℕ = largest bits + 2 * q in
    let d = div-add-mod' n (2 * q + 1) in
    let m = mod-lt n {m = 2 * q + 1} (omega arith) in
    let e = add-mul (n / (2 * q + 1)) 1 (2 * q + 1) in
    omega arith

-- the least number whose power of 2 reaches v, by the length of v - 1
log2_by_length : (v m : ℕ) → 1 ≤ v → v - 1 < 2 ^ m → 2 ^ m ≤ 2 * (v - 1) + 1 → m ≤ 16 → least_from 16 (λ j. leb v (2 ^ j)) 0 ≡ m
log2_by_length v m one lt le small =
    least_is 16 (λ j. leb v (2 ^ j)) 0 m zero-le small
    (λ j a b. let h : 2 ^ suc j ≤ 2 ^ m = pow_mono b in lt-leb v (2 ^ j) (omega arith))
    (le-leb v (2 ^ m) (omega arith))

-- no more than 16 digits
length_le : (v m : ℕ) → v ≤ 2 ^ 16 → 1 ≤ v → 2 ^ m ≤ 2 * (v - 1) + 1 → m ≤ 16
length_le v m le one h =
    let lt : m < 17 = lt_of_not-le (λ (g : 17 ≤ m). let p : 2 ^ 17 ≤ 2 ^ m = pow_mono g in omega arith) in
    omega arith

pub log2_is : (v : ℕ) → 1 ≤ v → v ≤ 2 ^ 16 → (count_leading_zeros 32 (v - 1) ≤ 32) × (32 - count_leading_zeros 32 (v - 1) ≡ least_from 16 (λ j. leb v (2 ^ j)) 0)
log2_is v one le =
    let L = leading_length 32 (v - 1) (omega arith) in
    go (count_leading_zeros 32 (v - 1)) L.0 L.1 L.2 L.3
  where
    go : (z m : ℕ) → z + m ≡ 32 → v - 1 < 2 ^ m → 2 ^ m ≤ 2 * (v - 1) + 1 → (z ≤ 32) × (32 - z ≡ least_from 16 (λ j. leb v (2 ^ j)) 0)
    go z m sum lt ge =
        let e : 32 - z ≡ m = omega arith in
        (omega arith, e ∙ sym (log2_by_length v m one lt ge (length_le v m le one ge)))

pub log2_le : (v : ℕ) → least_from 16 (λ j. leb v (2 ^ j)) 0 ≤ 16
log2_le v = (least 16 (λ j. leb v (2 ^ j)) 0).high

-- the codes below total fit the long form
pub raw_fits : (bits q : ℕ) → bits ≤ 16 → total_of bits q ≤ 2 ^ raw_of bits q
unfolding raw_of
raw_fits bits q h =
    let p : 2 ^ bits ≤ 2 ^ 16 = pow_mono h in
    let v : ℕ = total_of bits q in
    let r : ℕ = least_from 16 (λ j. leb v (2 ^ j)) 0 in
    let L = least 16 (λ j. leb v (2 ^ j)) 0 in
    split 16 r
    (λ g. let e : r ≡ 16 = omega (arith, L.high) in rw e (omega (arith, total_le bits q)))
    (λ g. leb-true v (2 ^ r) (L.holds g))
