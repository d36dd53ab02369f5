-- The quantiser of a lossless block, and the numbers of any other. Assumes nothing.
use mathlib.Core.Path.{◌≡◌}
use Prim.Native.Nat.{ℕ, suc, ◌+◌, ◌^◌, ◌≤◌, ◌<◌, zero-le}
use native.Mathlib.Omega.{arith}
use lib.Dec.{leb}
use lib.Pow.{pow_pos, pow_mono}
use borrow.Author.Tests.{le-leb, lt-leb}
use Rattle.numbers.proofs.LeastLaws.{least_is}
use Rattle.quantiser.specs.Quantisers.{largest, total_of, raw_of, quantiser_of}
use Rattle.quantiser.proofs.QuantiserLaws.{total_le, raw_fits, log2_le}
use Rattle.pass_steps.specs.Contexts.{used_quantiser}

-- total is M + 1, and the codes of all samples fit the long form
pub record Lossless (bits : ℕ) : Type 0 where
  pub low : 1 ≤ bits
  pub high : bits ≤ 16
  pub total : (used_quantiser bits 0 0).total ≡ suc (largest bits)
  pub raw : largest bits ≤ 2 ^ (used_quantiser bits 0 0).raw
  pub limit : 0 < (used_quantiser bits 0 0).limit

pub total_is : (bits : ℕ) → total_of bits 0 ≡ 2 ^ bits
unfolding total_of
total_is bits = omega (arith, pow_pos bits)

raw_is : (bits : ℕ) → bits ≤ 16 → raw_of bits 0 ≡ bits
unfolding raw_of
raw_is bits h =
    least_is 16 (λ j. leb (total_of bits 0) (2 ^ j)) 0 bits zero-le h
    (λ j a b. rw (total_is bits) (let p : 2 ^ suc j ≤ 2 ^ bits = pow_mono b in lt-leb (2 ^ bits) (2 ^ j) (omega (arith, pow_pos j))))
    (rw (total_is bits) (le-leb (2 ^ bits) (2 ^ bits) (omega arith)))

raw_le : (bits q : ℕ) → raw_of bits q ≤ 16
unfolding raw_of
raw_le bits q = log2_le (total_of bits q)

-- the numbers by which any quantiser's codes are put
pub code_numbers : (bits q weight : ℕ) → 12 ≤ bits → bits ≤ 16 → let Q = quantiser_of bits q weight in
    (1 ≤ Q.limit) × (Q.limit + Q.raw < 64) × (Q.raw ≤ 16) × (Q.total ≤ 2 ^ Q.raw) × (Q.total ≤ 2 ^ 16)
unfolding quantiser_of
code_numbers bits q weight low high =
    let n = raw_le bits q in
    let p : 2 ^ bits ≤ 2 ^ 16 = pow_mono high in
    (omega arith, omega arith, n, raw_fits bits q high, omega (arith, total_le bits q))

pub lossless : (bits : ℕ) → 1 ≤ bits → bits ≤ 16 → Lossless bits
unfolding quantiser_of
lossless bits low high =
    record {
      low = low;
      high = high;
      total = rw (total_is bits) (omega (arith, pow_pos bits));
      raw = rw (raw_is bits high) (omega arith);
      limit = rw (raw_is bits high) (omega arith);
    }
