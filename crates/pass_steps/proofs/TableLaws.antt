-- The quantisers of a line, as an array for each of their numbers. Assumes nothing.
use mathlib.Core.List.{List}
use mathlib.Core.Path.{◌≡◌, refl, ap}
use Prim.Native.Nat.{ℕ, zero, suc, ◌^◌, ◌≤◌, ◌<◌}
use native.Mathlib.Omega.{arith}
use lib.ListN.{get_or}
use lib.Pow.{pow_mono}
use Rattle.quantiser.specs.Quantisers.{total_of, raw_of, quantiser_of}
use Rattle.quantiser.proofs.QuantiserLaws.{total_le, log2_le}
use Rattle.pass_steps.specs.Contexts.{used_base, used_weight, used_quantiser}
use Rattle.pass_steps.specs.Values.{quantisers_of, AreQuantisers}
use Rattle.pass_steps.specs.declared.Quantisers.{Quantisers}

pub total_at : (bits q i : ℕ) → i ≤ 3 → get_or (quantisers_of bits q).totals i 0 ≡ (used_quantiser bits q i).total
unfolding quantisers_of
total_at bits q zero h = refl
total_at bits q (suc zero) h = refl
total_at bits q (suc (suc zero)) h = refl
total_at bits q (suc (suc (suc zero))) h = refl
total_at bits q (suc (suc (suc (suc i)))) h = absurd (omega arith)

pub raw_at : (bits q i : ℕ) → i ≤ 3 → get_or (quantisers_of bits q).raws i 0 ≡ (used_quantiser bits q i).raw
unfolding quantisers_of
raw_at bits q zero h = refl
raw_at bits q (suc zero) h = refl
raw_at bits q (suc (suc zero)) h = refl
raw_at bits q (suc (suc (suc zero))) h = refl
raw_at bits q (suc (suc (suc (suc i)))) h = absurd (omega arith)

pub limit_at : (bits q i : ℕ) → i ≤ 3 → get_or (quantisers_of bits q).limits i 0 ≡ (used_quantiser bits q i).limit
unfolding quantisers_of
limit_at bits q zero h = refl
limit_at bits q (suc zero) h = refl
limit_at bits q (suc (suc zero)) h = refl
limit_at bits q (suc (suc (suc zero))) h = refl
limit_at bits q (suc (suc (suc (suc i)))) h = absurd (omega arith)

-- how large a quantiser's numbers are
pub numbers_le : (bits q weight : ℕ) → bits ≤ 16
    → ((quantiser_of bits q weight).total ≤ 2 ^ 16) × ((quantiser_of bits q weight).raw ≤ 16) × ((quantiser_of bits q weight).limit < 64)
unfolding quantiser_of raw_of
numbers_le bits q weight h =
    let p : 2 ^ bits ≤ 2 ^ 16 = pow_mono h in
    (omega (arith, total_le bits q), log2_le (total_of bits q), omega arith)

-- entry i of each array
module _ (bits q : ℕ) (totals raws limits : List ℕ) (e : AreQuantisers bits q totals raws limits) (i : ℕ) (h : i ≤ 3) where
  pub total_is : get_or totals i 0 ≡ (used_quantiser bits q i).total
  total_is = rw e.total (total_at bits q i h)

  pub raw_is : get_or raws i 0 ≡ (used_quantiser bits q i).raw
  raw_is = rw e.raw (raw_at bits q i h)

  pub limit_is : get_or limits i 0 ≡ (used_quantiser bits q i).limit
  limit_is = rw e.limit (limit_at bits q i h)

  -- it is in range
  pub total_small : bits ≤ 16 → get_or totals i 0 ≤ 2 ^ 16
  total_small b = rw total_is (numbers_le bits (used_base q i) (used_weight i) b).0

  pub reader_small : bits ≤ 16 → (get_or limits i 0 < 64) × (get_or raws i 0 ≤ 16)
  reader_small b =
      let n = numbers_le bits (used_base q i) (used_weight i) b in
      rw (limit_is, raw_is) (n.2, n.1)

-- the arrays of a line's quantisers
pub are_quantisers : (bits : ℕ) (qs : Quantisers) → qs ≡ quantisers_of bits qs.base → AreQuantisers bits qs.base qs.totals qs.raws qs.limits
are_quantisers bits qs e =
    record {
      total = ap (λ (x : Quantisers). x.totals) e;
      raw = ap (λ (x : Quantisers). x.raws) e;
      limit = ap (λ (x : Quantisers). x.limits) e;
    }
