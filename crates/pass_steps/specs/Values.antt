-- Inside. What the program's values stand for, and the ranges that its functions ask for.
use Rattle.std.specs.Prelude.{cond, List, [], ◌∷◌, ◌≡◌, ℕ, ◌+◌, ◌-◌, ◌*◌, ◌%◌, ◌<◌, eqb, length, get_or}
use Rattle.statistics.specs.Statistics.{k_of}
use Rattle.statistics.specs.Inside.{InRange}
use Rattle.statistics.specs.declared.Record.{Record}
use Rattle.prediction.specs.Predictions.{even_context, odd_context}
use Rattle.prediction.specs.declared.Context.{Context}
use Rattle.pass_steps.specs.Contexts.{used_quantiser, no_record}
use Rattle.pass_steps.specs.declared.Set.{Set}
use Rattle.pass_steps.specs.declared.Quantisers.{Quantisers}

-- the records of a set that is held as two lists
unfoldable pub zip_records : List ℕ → List ℕ → List Record
zip_records [] ns = []
zip_records (a ∷ sums) [] = []
zip_records (a ∷ sums) (b ∷ ns) = record { sum = a; n = b } ∷ zip_records sums ns

abbrev pub records_of : Set → List Record
records_of t = zip_records t.sums t.ns

-- every record of a set is in range
abbrev pub SetInRange : List Record → Type 0
SetInRange l = (j : ℕ) → j < 112 → InRange (get_or l j no_record)

-- the k of each record of a set, as a pass keeps them beside it
pub record AreKs (l : List Record) (ks : List ℕ) : Type 0 where
  pub all : length ks ≡ 112
  pub each : (j : ℕ) → j < 112 → get_or ks j 0 ≡ k_of (get_or l j no_record)

-- the quantisers of a line with base q: the main one, then the flat ones
unfoldable pub quantisers_of : ℕ → ℕ → Quantisers
quantisers_of bits q =
    let m = used_quantiser bits q 0 in
    let a = used_quantiser bits q 1 in
    let b = used_quantiser bits q 2 in
    let c = used_quantiser bits q 3 in
    record {
      base = q;
      totals = m.total ∷ a.total ∷ b.total ∷ c.total ∷ [];
      raws = m.raw ∷ a.raw ∷ b.raw ∷ c.raw ∷ [];
      limits = m.limit ∷ a.limit ∷ b.limit ∷ c.limit ∷ [];
    }

-- these are their arrays
pub record AreQuantisers (bits q : ℕ) (totals raws limits : List ℕ) : Type 0 where
  pub total : totals ≡ (quantisers_of bits q).totals
  pub raw : raws ≡ (quantisers_of bits q).raws
  pub limit : limits ≡ (quantisers_of bits q).limits

-- the context of the sample after place i, at position p, as the program finds it: in lines that are S apart
unfoldable pub even_at : List ℕ → ℕ → ℕ → Context
even_at lines S i =
    even_context (get_or lines (i + 1 - 2 * S) 0) (get_or lines (i - S) 0) (get_or lines (i + 1 - S) 0) (get_or lines (i + 2 - S) 0)

unfoldable pub odd_at : List ℕ → ℕ → ℕ → Context
odd_at lines S i =
    odd_context (get_or lines i 0) (get_or lines (i + 2) 0) (get_or lines (i + 1 - S) 0) (get_or lines (i - S) 0) (get_or lines (i + 2 - S) 0)

unfoldable pub context_at : List ℕ → ℕ → ℕ → ℕ → Context
context_at lines S i p = cond (eqb (p % 2) 0) (even_at lines S i) (odd_at lines S i)
