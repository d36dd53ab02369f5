-- Promises. Item 7, from the answer of one call: each byte comes from the one record that holds its line, and a refusal leaves the bytes as they were.
use Rattle.std.specs.Prelude.{false, List, ◌≡◌, ℕ, ◌<◌, length, get_or, Err, Ok, Result}
use Rattle.stream.specs.Headers.{parse_of}
use Rattle.stream.specs.declared.header.FujiHeader.{FujiHeader}
use Rattle.stream.specs.declared.header.Refusal.{Refusal}
use Rattle.base_plan.specs.Records.{start_of, base_at}
use Rattle.base_plan.specs.OneRecord.{AllGood, OneHolder}
use Rattle.base_plan.specs.Plans.{planned_answer, BasesAfter}

-- what a call of `plan_bases` promises: its answer, and the lent bytes afterwards
pub record PlanCall (header plan bases bases' : List ℕ) (answer : Result Unit Refusal) : Type 0 where
  pub answered : answer ≡ planned_answer header plan (length bases)
  pub left : BasesAfter plan bases bases' answer

-- the header is lossy and has as many lines as there are bytes; the text is good records, exactly one holds each line, and the line's byte is its base
pub record FromRecords (header plan bases bases' : List ℕ) : Type 0 where
  pub head : FujiHeader
  pub parses : parse_of header ≡ Ok head
  pub lossy : head.lossless ≡ false
  pub size : length bases ≡ head.lines
  pub records : ℕ
  pub all_good : AllGood plan (length bases) records
  pub holder : (n : ℕ) → n < length bases → OneHolder plan records n
  pub byte : (n : ℕ) (h : n < length bases) → get_or bases' n 0 ≡ base_at plan (start_of plan (holder n h).index)

-- so it is after every call that is accepted
abbrev pub PlannedBytes : Type 0
PlannedBytes = (header plan bases bases' : List ℕ) → PlanCall header plan bases bases' (Ok tt) → FromRecords header plan bases bases'

-- and a call that is refused leaves every byte as it was
abbrev pub RefusedPlan : Type 0
RefusedPlan = (header plan bases bases' : List ℕ) (x : Refusal) → PlanCall header plan bases bases' (Err x) → bases' ≡ bases
