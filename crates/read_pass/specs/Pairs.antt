-- Inside. What the functions of a pass ask for, and what they hand back.
use Rattle.std.specs.Prelude.{List, ◌≡◌, ℕ, ◌+◌, ◌*◌, ◌/◌, ◌%◌, ◌^◌, ◌≤◌, ◌<◌, length, None, Some, Option, IsSomeAnd, IfSome}
use Rattle.statistics.specs.declared.Record.{Record}
use Rattle.code.specs.declared.Place.{Place}
use Rattle.pass_schedule.specs.Steps.{Step, turn_steps, upto}
use Rattle.pass_schedule.specs.Inside.{PlanInRange}
use Rattle.pass_steps.specs.Values.{zip_records, records_of, SetInRange, AreKs, quantisers_of}
use Rattle.pass_steps.specs.Contexts.{Depth}
use Rattle.pass_schedule.specs.declared.Plan.{Plan}
use Rattle.pass_steps.specs.declared.Quantisers.{Quantisers}
use Rattle.pass_steps.specs.declared.Set.{Set}
use Rattle.pass_steps.specs.declared.Spot.{Spot}
use Rattle.pass_ahead.specs.Odds.{ByFlatness}
use Rattle.pass_ahead.specs.Arrays.{EvenHere, OddHere}
use Rattle.pass_ahead.specs.Tables.{AreNext, AreDigits}
use Rattle.read_pass.specs.Readings.{Reading, reads, read_pass}
use Rattle.read_pass.specs.Sites.{LineTables}
use Rattle.read_pass.specs.declared.Passed.{Passed}
use Rattle.read_pass.specs.declared.Turn.{Turn}

-- the reading that a program holds: colour lines, the records of a set, and where it is
abbrev pub reading_at : List ℕ → List Record → Place → Reading
reading_at lines records from = record { lines = lines; set = records; at = from.at; tight = from.tight; long = from.long }

-- the same where the set is two lists, and where it is one value
abbrev pub held : List ℕ → List ℕ → List ℕ → Place → Reading
held lines sums ns from = reading_at lines (zip_records sums ns) from

abbrev pub begun : List ℕ → Set → Place → Reading
begun lines t from = reading_at lines (records_of t) from

-- where a reading is
abbrev pub place_of : Reading → Place
place_of z = record { at = z.at; tight = z.tight; long = z.long }

-- the lines of a pass are all there, however many there are
abbrev pub PlanFits : ℕ → Plan → List ℕ → Type 0
PlanFits W P lines = ((P.first + 1) * (W + 2) ≤ length lines) × ((P.second + 1) * (W + 2) ≤ length lines)

-- the lines of a pass are so far apart that neither is one of the two above the other
abbrev pub Apart : Plan → Type 0
Apart P = P.first + 3 ≤ P.second

-- ---- the two samples of a position

-- what a pass holds, at the place `from`
pub record Holds (bits W : ℕ) (P : Plan) (q : ℕ) (from : Place) (s lines sums ns ks steps limits totals next digits : List ℕ) : Type 0 where
  pub bytes : length s < 2 ^ 32
  pub width : W ≤ 512
  pub room : PlanFits W P lines
  pub plan : PlanInRange P
  pub apart : Apart P
  pub depth : Depth bits
  pub base : q < 256
  pub tables : LineTables bits q steps limits totals
  pub becomes : AreNext next
  pub lengths : AreDigits digits
  pub records : SetInRange (zip_records sums ns)
  pub ks_kept : AreKs (zip_records sums ns) ks
  pub counted : from.long ≤ from.at.0

pub record PairAsks (spot : Spot) (q : ℕ) (from : Place) (s lines sums ns ks steps limits totals next digits : List ℕ) : Type 0 where
  pub holds : Holds spot.bits spot.w spot.plan q from s lines sums ns ks steps limits totals next digits
  pub inside : spot.p < spot.w

-- the entries of both samples, at an even and at an odd position
pub record BothEven (t : Turn) (lines first second : List ℕ) : Type 0 where
  pub even : t.spot.p % 2 ≡ 0
  pub entry : t.entry < 48
  pub one : EvenHere t.base t.spot.w lines t.spot.plan.first t.spot.p t.entry first
  pub two : EvenHere t.base t.spot.w lines t.spot.plan.second t.spot.p t.entry second

pub record BothOdd (t : Turn) (lines first second : List ℕ) : Type 0 where
  pub odd : t.spot.p % 2 ≡ 1
  pub entry : t.entry < 48
  pub one : OddHere t.base t.spot.w lines t.spot.plan.first t.spot.p t.entry first
  pub two : OddHere t.base t.spot.w lines t.spot.plan.second t.spot.p t.entry second

-- the answer, the colour lines and the set, by what their steps read. Where they are cut off the lists are left free
abbrev pub IsPair : Option Reading → List ℕ → List ℕ → List ℕ → Option Place → Type 0
IsPair None lines sums ns r = r ≡ None
IsPair (Some z) lines sums ns r =
    (r ≡ Some (place_of z)) × (lines ≡ z.lines) × (zip_records sums ns ≡ z.set)

pub record PairGives (spot : Spot) (q : ℕ) (s : List ℕ) (l : List Step) (from : Reading) (lines sums ns ks : List ℕ) (r : Option Place) : Type 0 where
  pub answer : IsPair (reads spot.bits q spot.w s l from) lines sums ns r
  pub records : SetInRange (zip_records sums ns)
  pub ks_kept : AreKs (zip_records sums ns) ks

-- ---- n turns of a pass, from the even position `spot.p` on

abbrev pub chunk_steps : ℕ → Plan → ℕ → ℕ → List Step
chunk_steps W P c n = upto (λ t. turn_steps W P (c / 2 + t)) n

pub record ChunkAsks (spot : Spot) (q n : ℕ) (from : Place) (s lines sums ns ks steps limits totals next digits flatness : List ℕ) : Type 0 where
  pub holds : Holds spot.bits spot.w spot.plan q from s lines sums ns ks steps limits totals next digits
  pub flats : ByFlatness q flatness
  pub low : 8 ≤ spot.w
  pub begins : spot.p % 2 ≡ 0
  pub ends : spot.p + 2 * n ≤ spot.w + 8
  pub most : n ≤ 48

-- ---- a pass

pub record PassAsks (bits W : ℕ) (P : Plan) (qs : Quantisers) (from : Place) (s lines : List ℕ) (t : Set) : Type 0 where
  pub bytes : length s < 2 ^ 32
  pub low : 8 ≤ W
  pub high : W ≤ 512
  pub even : W % 2 ≡ 0
  pub room : PlanFits W P lines
  pub plan : PlanInRange P
  pub apart : Apart P
  pub depth : Depth bits
  pub base : qs.base < 256
  pub quantisers : qs ≡ quantisers_of bits qs.base
  pub records : SetInRange (records_of t)
  pub counted : from.long ≤ from.at.0

-- where a pass is read to its end, by the reading z
pub record IsRead (z : Reading) (l : List ℕ) (p : Passed) : Type 0 where
  pub lines : l ≡ z.lines
  pub records : records_of p.set ≡ z.set
  pub place : p.place ≡ place_of z

-- where it is cut off the colour lines are left free
abbrev pub IsPassed : Option Reading → List ℕ → Option Passed → Type 0
IsPassed None lines r = r ≡ None
IsPassed (Some z) lines r = IsSomeAnd r (λ p. IsRead z lines p)

pub record PassGives (bits W : ℕ) (P : Plan) (qs : Quantisers) (s : List ℕ) (from : Reading) (lines : List ℕ) (r : Option Passed) : Type 0 where
  pub answer : IsPassed (read_pass bits qs.base W s P from) lines r
  pub records : IfSome r (λ p. SetInRange (records_of p.set))
