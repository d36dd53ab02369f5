-- Item 7 from the answer of one call. Assumes nothing.
use mathlib.Core.Bool.{Bool, true, false, cond}
use mathlib.Core.List.{List}
use mathlib.Core.Path.{◌≡◌, refl, sym}
use Prim.Native.Nat.{ℕ}
use native.Mathlib.Omega.{arith}
use lib.Dec.{eqb}
use lib.ListN.{length}
use lib.Seq.{ext_get_or}
use borrow.Author.Tests.{eqb-true}
use Rattle.stream.specs.Headers.{parse_of}
use Rattle.stream.specs.declared.header.FujiHeader.{FujiHeader}
use Rattle.stream.specs.declared.header.Refusal.{Refusal}
use Rattle.stream.specs.declared.header.Refusal.TheVariants.{Lossless, WrongBases}
use Rattle.base_plan.specs.OneRecord.{InOrder}
use Rattle.base_plan.specs.Plans.{plan_answer, answer_in, planned_answer}
use Rattle.base_plan.specs.PlannedBytes.{PlannedBytes, RefusedPlan}
use Rattle.base_plan.proofs.OneRecordLaws.{accepted_in_order, one_record}
use Rattle.std.specs.Prelude.{Err, Ok, Result}

-- what an answer Done says of the header
record Begun (header plan : List ℕ) (room : ℕ) : Type 0 where
  head : FujiHeader
  parses : parse_of header ≡ Ok head
  lossy : head.lossless ≡ false
  size : room ≡ head.lines
  planned : plan_answer plan head.lines ≡ (Ok tt)

clash : {X : Type 0} (x : Refusal) → ◌≡◌ {A = Result Unit Refusal} (Err x) (Ok tt) → X
clash x e = let no : ◌≡◌ {A = ℕ} 0 1 = cc in absurd (omega arith)

begun : (header plan : List ℕ) (room : ℕ) → planned_answer header plan room ≡ (Ok tt) → Begun header plan room
unfolding planned_answer
begun header plan room = from (parse_of header) refl
  where
    sized : (h : FujiHeader) → parse_of header ≡ Ok h → (l s : Bool) → h.lossless ≡ l → eqb room h.lines ≡ s
        → cond l (Err Lossless) (cond s (plan_answer plan h.lines) (Err WrongBases)) ≡ (Ok tt) → Begun header plan room
    sized h p true s el es e = clash Lossless e
    sized h p false false el es e = clash WrongBases e
    sized h p false true el es e = record { head = h; parses = p; lossy = el; size = eqb-true room h.lines es; planned = e }

    from : (p : Result FujiHeader Refusal) → parse_of header ≡ p → answer_in plan room p ≡ (Ok tt) → Begun header plan room
    from (Err x) p e = clash x e
    from (Ok h) p e = sized h p h.lossless (eqb room h.lines) refl refl e

pub planned_bytes : PlannedBytes
planned_bytes header plan bases bases' C =
    let B = begun header plan (length bases) (sym C.answered) in
    let done : plan_answer plan (length bases) ≡ (Ok tt) = rw B.size B.planned in
    let O : InOrder plan (length bases) = (accepted_in_order plan (length bases)).in_order done in
    record {
      head = B.head;
      parses = B.parses;
      lossy = B.lossy;
      size = B.size;
      records = O.records;
      all_good = O.all_good;
      holder = O.one;
      byte = one_record plan bases bases' O C.left;
    }

pub refused_plan : RefusedPlan
refused_plan header plan bases bases' x C =
    let L = C.left in ext_get_or 0 bases' bases L.as_long (λ n h. L.bytes n (omega (arith, L.as_long)))
