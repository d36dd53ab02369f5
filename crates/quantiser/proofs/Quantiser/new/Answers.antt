-- `quantiser::Quantiser::new` meets its contract: total is at most 2^bits, so that its log2 is at most 16. Assumes nothing.
use mathlib.Core.Path.{◌≡◌}
use Prim.Native.Nat.{ℕ, ◌+◌, ◌-◌, ◌*◌, ◌/◌, ◌^◌, ◌≤◌}
use native.Mathlib.Omega.{arith}
use lib.Dec.{leb}
use lib.Pow.{pow_mono}
use Rattle.numbers.specs.Numbers.{least_from}
use Rattle.quantiser.specs.Quantisers.{largest, total_of, raw_of, quantiser_of}
use Rattle.quantiser.specs.declared.Quantiser.{Quantiser}
use Rattle.quantiser.proofs.QuantiserLaws.{total_le}
use Rattle.quantiser.proofs.Quantiser.new.Goals as goal

-- what the machine computes as the total
abbrev computed : ℕ → ℕ → ℕ
computed m q = (m + 2 * q) / (2 * q + 1) + 1

is_total : (bits q m : ℕ) → m ≡ largest bits → computed m q ≡ total_of bits q
unfolding total_of
is_total bits q m e = rw e

total_range : (bits q m : ℕ) → bits ≤ 16 → m ≡ largest bits → (1 ≤ computed m q) × (computed m q ≤ 2 ^ 16)
total_range bits q m h e =
    let t = is_total bits q m e in
    (omega arith, omega (arith, total_le bits q, pow_mono h))

made : (bits q weight t r : ℕ) → t ≡ total_of bits q → r ≡ least_from 16 (λ j. leb t (2 ^ j)) 0
    → ◌≡◌ {A = Quantiser} (record { base = q; weight = weight; total = t; raw = r; limit = 4 * bits - r - 1 }) (quantiser_of bits q weight)
unfolding quantiser_of raw_of
made bits q weight t r et er = rw (er, et)

pub returns : goal.returns
returns c =
    let t = total_range c.args.bits c.args.base c.largest.result c.requires.1.0 c.largest.ensures.0 in (
      made c.args.bits c.args.base c.args.weight (computed c.largest.result c.args.base) c.log2ceil-raw.result
          (is_total c.args.bits c.args.base c.largest.result c.largest.ensures.0) c.log2ceil-raw.ensures.0,
      record { base = c.requires.1.1.0; weight = c.requires.1.1.1; total = t.1; raw = c.log2ceil-raw.ensures.1; limit = omega arith },
    )
