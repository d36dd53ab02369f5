-- `base_plan::counts::read_records` meets its contract. The invariant: the records before `at` are good and counted, and the search from there on gives what the
-- search from the start on gives; the measure: the text that is left. Assumes nothing.
use borrow.Author.Rules.{rules}
use mathlib.Core.List.{List}
use mathlib.Core.Path.{◌≡◌, ◌∙◌}
use Prim.Native.Nat.{ℕ, ◌+◌, ◌^◌, ◌≤◌, ◌<◌}
use native.Mathlib.Omega.{arith}
use lib.ListN.{length, get_or, set}
use Rattle.base_plan.specs.Records.{first_line, last_line, start_of}
use Rattle.base_plan.specs.Inside.{Marked}
use Rattle.base_plan.proofs.RecordLaws.{IsRow, row_bad, row_good, none_past, good_start, good_next, start_next, start_none}
use Rattle.base_plan.proofs.CountLaws.{is_read_lem, marked_more}
use Rattle.base_plan.proofs.counts.read_records.Goals as goal
use Rattle.base_plan.proofs.counts.read_records.Goals.{In-Some}

-- first and last line of the record at a place
abbrev IsFirstLast : List ℕ → ℕ → ℕ → ℕ → Type 0
IsFirstLast d at first last = (first ≡ first_line d at) × (last ≡ last_line d at)

-- both counts
counted : (d : List ℕ) (m at first last : ℕ) (begins ends begins' ends' : List ℕ) → at ≡ start_of d m → IsFirstLast d at first last → last < 2731
    → first ≤ last → Marked d m begins ends
    → begins' ≡ set begins first (get_or begins first 0 + 1) → ends' ≡ set ends (last + 1) (get_or ends (last + 1) 0 + 1) → Marked d (m + 1) begins' ends'
counted d m at first last begins ends begins' ends' e is h order k b g = rw (b, g) (marked_more d m at first last begins ends e is.0 is.1 h order k)

-- the record that was read
this : (c : In-Some) → IsRow
    c.args.d.now
    c.args.lines
    c.loop-at.at
    c.in-Some.row.first
    c.in-Some.row.last
    c.in-Some.row.base
    c.in-Some.row.next
this c =
    row_good c.args.d.now c.args.lines c.loop-at.at c.read_row.result c.read_row.ensures.0 _ _ _ _ c.in-Some.is c.read_row.ensures.1

-- fewer records than bytes
few : (c : In-Some) → c.loop-at.records < length c.args.d.now
few c = omega (arith, c.loop-at.invariant.2, (this c).further, (this c).inside)

text_fits : (c : In-Some) → length c.args.d.now < 2 ^ 64
text_fits c = omega arith

pub loop-at-init : goal.loop-at-init
loop-at-init c =
    (start_none c.args.d.now, search rules, search rules, good_start c.args.d.now c.args.lines, c.requires.1)

pub returns-in_default : goal.returns-in_default
returns-in_default c =
    let bad = row_bad c.args.d.now c.args.lines c.loop-at.at c.read_row.result c.read_row.ensures.0 c.in_default.is in
    (is_read_lem c.args.d.now c.args.lines c.loop-at.records c.loop-at.at c.loop-at.invariant.0 c.loop-at.invariant.3 bad c.loop-at.invariant.2 c.loop-at.invariant.1, c.loop-at.invariant.4)

pub count-requires : goal.count-requires
count-requires c =
    (omega (arith, (this (goal.at.count-requires c).In-Some).order, (this (goal.at.count-requires c).In-Some).below, c.requires.0), omega (arith, c.loop-at.invariant.4.begin_low c.in-Some.row.first, few (goal.at.count-requires c).In-Some, text_fits (goal.at.count-requires c).In-Some))

pub overflow_add-row : goal.overflow_add-row
overflow_add-row c =
    omega (arith, (this (goal.at.overflow_add-row c).In-Some).below, c.requires.0)

pub count-requires-in-loop-at : goal.count-requires-in-loop-at
count-requires-in-loop-at c =
    (omega (arith, (this (goal.at.count-requires-in-loop-at c).In-Some).below, c.requires.0), omega (arith, c.loop-at.invariant.4.end_low (c.in-Some.row.last + 1), few (goal.at.count-requires-in-loop-at c).In-Some, text_fits (goal.at.count-requires-in-loop-at c).In-Some))

pub overflow_add-records : goal.overflow_add-records
overflow_add-records c = omega (arith, few (goal.at.overflow_add-records c).In-Some, text_fits (goal.at.overflow_add-records c).In-Some)

pub loop-at-smaller : goal.loop-at-smaller
loop-at-smaller c = omega (arith, (this (goal.at.loop-at-smaller c).In-Some).further, (this (goal.at.loop-at-smaller c).In-Some).inside)

pub loop-at-preserved : goal.loop-at-preserved
loop-at-preserved c =
    let t = this (goal.at.loop-at-preserved c).In-Some in (
      start_next c.args.d.now c.loop-at.records c.loop-at.at _ c.loop-at.invariant.0 t.next_is,
      t.inside,
      omega (arith, c.loop-at.invariant.2, t.further),
      c.loop-at.invariant.3 ∙ good_next c.args.d.now c.args.lines c.loop-at.records c.loop-at.at c.loop-at.invariant.0 (few (goal.at.loop-at-preserved c).In-Some) t.good,
      counted c.args.d.now c.loop-at.records c.loop-at.at _ _ c.loop-at.begins c.loop-at.ends _ _ c.loop-at.invariant.0 (t.first_is, t.last_is) (omega (arith, t.below, c.requires.0)) t.order c.loop-at.invariant.4 c.count.ensures c.count-in-loop-at.ensures,
    )

pub returns : goal.returns
returns c =
    (is_read_lem c.args.d.now c.args.lines c.loop-at.records c.loop-at.at c.loop-at.invariant.0 c.loop-at.invariant.3 (none_past c.args.d.now c.args.lines c.loop-at.at c.loop-at-test.false) c.loop-at.invariant.2 c.loop-at.invariant.1, c.loop-at.invariant.4)
