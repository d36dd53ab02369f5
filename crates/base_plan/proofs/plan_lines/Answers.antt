-- `base_plan::plan_lines` meets its contract, refusal after refusal. Assumes nothing.
use mathlib.Core.Bool.{true, false}
use mathlib.Core.Path.{◌≡◌, ◌∙◌}
use mathlib.Core.List.{List}
use Prim.Native.Nat.{ℕ, ◌≤◌, ◌<◌, ◌^◌}
use native.Mathlib.Omega.{arith}
use lib.ListN.{length}
use Rattle.base_plan.specs.Records.{start_of}
use Rattle.base_plan.specs.Plans.{first_amiss}
use Rattle.base_plan.specs.Inside.{IsRead, Marked, Balanced, amiss_in}
use Rattle.base_plan.specs.declared.counts.Read.{Read}
use Rattle.base_plan.proofs.CountLaws.{marked_none, balanced}
use Rattle.base_plan.proofs.AnswerLaws.{forward, amiss_is, bad_record_lem, held_twice, not_held, accepted}
use Rattle.base_plan.proofs.plan_lines.Goals as goal
use Rattle.base_plan.proofs.plan_lines.Goals.{After-read_records-read}

-- what was read is balanced
in_balance : (d : List ℕ) (lines : ℕ) (r : Read) (begins ends : List ℕ) → length d < 2 ^ 64 → IsRead d lines r → Marked d r.records begins ends
    → Balanced begins ends
in_balance d lines r begins ends h i k =
    balanced d r.records begins ends (forward d lines r.records i.records) k (omega (arith, i.few, i.inside))

-- where it ends
ends_before : (d : List ℕ) (lines : ℕ) (r : Read) → IsRead d lines r → r.end < length d → start_of d r.records < length d
ends_before d lines r i h = rw i.end at h

ends_after : (d : List ℕ) (lines : ℕ) (r : Read) → IsRead d lines r → length d ≤ r.end → length d ≤ start_of d r.records
ends_after d lines r i h = rw i.end at h

balance : (c : After-read_records-read) → Balanced c.read_records-read.new.begins c.read_records-read.new.ends
balance c = in_balance _ _ _ _ _ (omega arith) c.read_records-read.ensures.0 c.read_records-read.ensures.1

-- the lowest line that is amiss, by the counts
is_first : (twice : _) (c : After-read_records-read) → amiss_in twice c.read_records-read.new.begins c.read_records-read.new.ends (length c.args.bases.now) ≡ first_amiss twice c.args.d.now (length c.args.bases.now) c.read_records-read.result.records
is_first twice c = amiss_is twice c.args.d.now (length c.args.bases.now) c.read_records-read.result.records _ _ c.read_records-read.ensures.0.records c.read_records-read.ensures.1

pub read_records-read-requires : goal.read_records-read-requires
read_records-read-requires c = (c.requires, marked_none _)

pub returns-then-read-d-clause-answer : goal.returns-then-read-d-clause-answer
returns-then-read-d-clause-answer c =
    (bad_record_lem c.args.d.now c.args.bases.now c.read_records-read.result.records c.read_records-read.ensures.0.records (ends_before _ _ _ c.read_records-read.ensures.0 c.if-read-d.true)).0

pub first_amiss-requires : goal.first_amiss-requires
first_amiss-requires c = (c.requires, balance (goal.at.first_amiss-requires c).After-read_records-read)

pub first_amiss-requires-2 : goal.first_amiss-requires-2
first_amiss-requires-2 c = (c.requires, balance (goal.at.first_amiss-requires-2 c).After-read_records-read)

pub returns-in-Some-clause-answer : goal.returns-in-Some-clause-answer
returns-in-Some-clause-answer c =
    (held_twice c.args.d.now c.args.bases.now c.read_records-read.result.records c.read_records-read.ensures.0.records (ends_after _ _ _ c.read_records-read.ensures.0 c.if-read-d.false) _
    (c.in-Some.ensures.0 ∙ is_first true (goal.at.returns-in-Some-clause-answer c).After-read_records-read) c.in-Some.ensures.1).0

pub returns-in-Some-first_amiss-clause-answer : goal.returns-in-Some-first_amiss-clause-answer
returns-in-Some-first_amiss-clause-answer c =
    let read = (goal.at.returns-in-Some-first_amiss-clause-answer c).After-read_records-read in
    (not_held c.args.d.now c.args.bases.now c.read_records-read.result.records c.read_records-read.ensures.0.records (ends_after _ _ _ c.read_records-read.ensures.0 c.if-read-d.false) _
    (is_first true read) c.in_default.ensures _ (c.in-Some-first_amiss.ensures.0 ∙ is_first false read) c.in-Some-first_amiss.ensures.1).0

pub returns : goal.returns
returns c =
    let read = (goal.at.returns c).After-read_records-read in
    let all = accepted c.args.d.now c.args.bases.now c.read_records-read.result.records c.read_records-read.ensures.0.records (ends_after _ _ _ c.read_records-read.ensures.0 c.if-read-d.false) _
    (is_first true read) c.in_default.ensures _ (is_first false read) c.in_default-first_amiss.ensures _ c.write_bases.ensures in
    record { answer = all.0; bases = all.1 }
