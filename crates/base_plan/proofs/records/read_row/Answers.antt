-- `base_plan::records::read_row` meets its contract, field after field. Assumes nothing.
use mathlib.Core.List.{List}
use mathlib.Core.Path.{sym, ◌∙◌}
use Prim.Native.Nat.{ℕ}
use lib.Dec.{lit≤}
use Rattle.base_plan.specs.Records.{tab, newline}
use Rattle.base_plan.proofs.RowLaws.{IsField, field_bad, field_good, first_bad_lem, second_bad, third_bad, not_allowed, allowed}
use Rattle.base_plan.proofs.records.read_row.Goals as goal
use Rattle.base_plan.proofs.records.read_row.Goals.{In_ok-a, In_ok-b, In_ok-c}

-- the three fields
abbrev text : (c : In_ok-a) → List ℕ
text c = c.args.d.now

field_a : (c : In_ok-a) → IsField (text c) c.args.i tab c.in_ok-a.a.number c.in_ok-a.a.next
field_a c =
    field_good (text c) c.args.i tab c.read_field.result c.read_field.ensures.0 _ _ c.in_ok-a.was c.read_field.ensures.1

field_b : (c : In_ok-b) → IsField ((let text : List ℕ = c.args.d.now in text)) c.in_ok-a.a.next tab c.in_ok-b.b.number
    c.in_ok-b.b.next
field_b c =
    field_good ((let text : List ℕ = c.args.d.now in text)) c.in_ok-a.a.next tab c.read_field-2.result c.read_field-2.ensures.0 _ _ c.in_ok-b.was c.read_field-2.ensures.1

field_c : (c : In_ok-c) → IsField ((let text : List ℕ = c.args.d.now in text))
    c.in_ok-b.b.next newline c.in_ok-c.c.number c.in_ok-c.c.next
field_c c =
    field_good ((let text : List ℕ = c.args.d.now in text)) c.in_ok-b.b.next newline c.read_field-3.result c.read_field-3.ensures.0 _ _ c.in_ok-c.was c.read_field-3.ensures.1

pub returns-in_err-a : goal.returns-in_err-a
returns-in_err-a c = rw c.from_residual.ensures (
    first_bad_lem c.args.d.now c.args.lines c.args.i (field_bad c.args.d.now c.args.i tab c.read_field.result c.read_field.ensures.0 c.in_err-a.was))

pub read_field-requires-2 : goal.read_field-requires-2
read_field-requires-2 c = ((field_a c).inside, lit≤ tt)

pub returns-in_err-b : goal.returns-in_err-b
returns-in_err-b c = rw c.from_residual-in_err-b.ensures (
    second_bad c.args.d.now c.args.lines c.args.i _ _ (field_a (goal.at.returns-in_err-b c).In_ok-a)
    (field_bad c.args.d.now c.in_ok-a.a.next tab c.read_field-2.result c.read_field-2.ensures.0 c.in_err-b.was))

pub read_field-requires-3 : goal.read_field-requires-3
read_field-requires-3 c = ((field_b c).inside, lit≤ tt)

pub returns-in_err-c : goal.returns-in_err-c
returns-in_err-c c = rw c.from_residual-in_err-c.ensures (
    third_bad c.args.d.now c.args.lines c.args.i _ _ (field_a (goal.at.returns-in_err-c c).In_ok-a) _ _ (field_b (goal.at.returns-in_err-c c).In_ok-b)
    (field_bad c.args.d.now c.in_ok-b.b.next newline c.read_field-3.result c.read_field-3.ensures.0 c.in_err-c.was))

pub returns-then-is_allowed : goal.returns-then-is_allowed
returns-then-is_allowed c =
    allowed c.args.d.now c.args.lines c.args.i _ _ (field_a (goal.at.returns-then-is_allowed c).In_ok-a) _ _ (field_b (goal.at.returns-then-is_allowed c).In_ok-b) _ _ (field_c (goal.at.returns-then-is_allowed c).In_ok-c) (sym c.is_allowed.ensures ∙ c.if-is_allowed.true)

pub returns : goal.returns
returns c =
    not_allowed c.args.d.now c.args.lines c.args.i _ _ (field_a (goal.at.returns c).In_ok-a) _ _ (field_b (goal.at.returns c).In_ok-b) _ _ (field_c (goal.at.returns c).In_ok-c) (sym c.is_allowed.ensures ∙ c.if-is_allowed.false)
