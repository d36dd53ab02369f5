-- Inside. How a sample of a pass is coded, and what its code is read by.
use Rattle.std.specs.Prelude.{List, ◌≡◌, ℕ, ◌+◌, ◌*◌, ◌%◌, ◌^◌, ◌≤◌, ◌<◌, eqb, length, get_or}
use Rattle.numbers.specs.Numbers.{flag}
use Rattle.statistics.specs.Statistics.{k_of}
use Rattle.statistics.specs.declared.Record.{Record}
use Rattle.quantiser.specs.Quantisers.{largest}
use Rattle.prediction.specs.declared.Context.{Context}
use Rattle.pass_steps.specs.Contexts.{context_in, used_base, used_quantiser, look_of, slot_of, no_record}
use Rattle.pass_steps.specs.Values.{quantisers_of}
use Rattle.pass_ahead.specs.Tables.{choice_at}
use Rattle.read_pass.specs.declared.one_sample.Coding.{Coding}

-- once the place of its record is known
abbrev pub coding_by : ℕ → ℕ → ℕ → ℕ → ℕ → List ℕ → List ℕ → Coding
coding_by bits place prediction slot flip limits ks =
    record { place = place; prediction = prediction; slot = slot; flip = flip; k = get_or ks slot 0; m = largest bits; limit = get_or limits slot 0 }

-- the sample after place i, at an odd position with context x
pub record OddCoding (bits q : ℕ) (x : Context) (i : ℕ) (limits ks : List ℕ) (c : Coding) : Type 0 where
  pub is : c ≡ coding_by bits i x.prediction ((look_of q x).place + 56) (flag (look_of q x).negative) limits ks
  pub small : c.prediction < 2 ^ 16

-- c is the coding of the sample at position p of a line, in a line with base q, by the records of its set
pub record IsCoding (bits q W : ℕ) (lines : List ℕ) (line p : ℕ) (l : List Record) (c : Coding) : Type 0 where
  pub place : c.place ≡ line * (W + 2) + p
  pub prediction : c.prediction ≡ (context_in W lines line p).prediction
  pub slot : c.slot ≡ slot_of p (look_of q (context_in W lines line p)).place
  pub sign : eqb (c.flip % 2) 1 ≡ (look_of q (context_in W lines line p)).negative
  pub k : c.k ≡ k_of (get_or l c.slot no_record)
  pub m : c.m ≡ largest bits
  pub limit : c.limit ≡ (used_quantiser bits q (look_of q (context_in W lines line p)).choice).limit

-- its sample is inside of the lines, and its numbers fit
pub record CodingFits (lines : List ℕ) (c : Coding) : Type 0 where
  pub inside : c.place + 1 < length lines
  pub small : c.place + 1 < 2 ^ 14
  pub prediction : c.prediction < 2 ^ 16
  pub slot : c.slot < 112
  pub flip : c.flip < 2 ^ 16
  pub m : c.m < 2 ^ 16

-- what a line with base q keeps by the places of records, and its totals
pub record LineTables (bits q : ℕ) (steps limits totals : List ℕ) : Type 0 where
  pub step : (j : ℕ) → j < 112 → get_or steps j 0 ≡ 2 * used_base q (choice_at j) + 1
  pub limit : (j : ℕ) → j < 112 → get_or limits j 0 ≡ (used_quantiser bits q (choice_at j)).limit
  pub summed : totals ≡ (quantisers_of bits q).totals

abbrev pub LimitsFit : List ℕ → Type 0
LimitsFit l = (get_or l 0 0 < 64) × (get_or l 1 0 < 64) × (get_or l 2 0 < 64) × (get_or l 3 0 < 64)

-- the raw bits of a quantiser are known by its limit: 4·bits − 1 − limit, and there are at most 16
pub record RawFits (bits limit : ℕ) : Type 0 where
  pub depth : bits ≤ 16
  pub low : limit + 1 ≤ 4 * bits
  pub high : 4 * bits ≤ limit + 17
