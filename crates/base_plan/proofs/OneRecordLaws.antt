-- A plan is accepted exactly if every record is good and every line lies in exactly one; then each byte is that record's base. Assumes nothing.
use mathlib.Core.Bool.{Bool, true, false, cond, not, ◌&&◌}
use mathlib.Core.List.{List}
use mathlib.Core.Path.{◌≡◌, refl, sym, ◌∙◌}
use Prim.Native.Nat.{ℕ, zero, suc, ◌+◌, ◌≤◌, ◌<◌}
use native.Mathlib.Omega.{arith}
use lib.Dec.{leb, ltb, eqb, lit≤}
use lib.ListN.{length, get_or, get_or-eq_default}
use borrow.Author.Tests.{le-ltb, ltb-true, ltb-false, leb-false, eqb-true, eqb-false}
use Rattle.numbers.specs.Numbers.{least_from}
use Rattle.numbers.proofs.BoolLaws.{both}
use Rattle.numbers.proofs.LeastLaws.{least, least_is}
use Rattle.numbers.proofs.OrderLaws.{split}
use Rattle.stream.specs.declared.header.Refusal.TheVariants.{BadRecord, HeldTwice, NotHeld}
use Rattle.base_plan.specs.Records.{tab, newline, end_of, is_field, second_at, third_at, next_at, first_line, last_line, base_at, is_good, start_of, holds}
use Rattle.base_plan.specs.Records.{good_records, holders, base_for}
use Rattle.base_plan.specs.Counts.{is_amiss}
use Rattle.base_plan.specs.Plans.{first_amiss, first_twice, first_none, plan_answer}
use Rattle.base_plan.specs.OneRecord.{OneHolder, InOrder, AcceptedInOrder, OneRecord}
use Rattle.base_plan.proofs.RecordLaws.{none_past, good_below}
use Rattle.std.specs.Prelude.{Err, Ok, Result}
use Rattle.stream.specs.declared.header.Refusal.{Refusal}

pub clash : (t : Bool) → t ≡ true → t ≡ false → ⊥
clash t e g = let no : ◌≡◌ {A = ℕ} 0 1 = cc in omega arith

-- a test holds or does not
pub decide {ℓ} : {X : Type ℓ} (t : Bool) → (t ≡ true → X) → (t ≡ false → X) → X
decide true f g = f refl
decide false f g = g refl

-- ---- good records lie in the text

field_inside : (d : List ℕ) (i mark : ℕ) → 1 ≤ mark → is_field d i mark ≡ true → (i < end_of d i) × (end_of d i < length d)
unfolding is_field
field_inside d i mark h e =
    let t = both (ltb i (end_of d i)) (eqb (get_or d (end_of d i) 0) mark) e in
    let is : get_or d (end_of d i) 0 ≡ mark = eqb-true (get_or d (end_of d i) 0) mark t.1 in
    (ltb-true i (end_of d i) t.0, split (length d) (end_of d i) (λ l. absurd (omega (arith, get_or-eq_default d 0 l))) (λ l. l))

good_inside : (d : List ℕ) (lines i : ℕ) → is_good d lines i ≡ true → (i < next_at d i) × (next_at d i ≤ length d)
unfolding is_good
good_inside d lines i e =
    let w : Bool = is_field d i tab && is_field d (second_at d i) tab && is_field d (third_at d i) newline in
    let z = both (w && leb (first_line d i) (last_line d i) && ltb (last_line d i) lines) (leb (base_at d i) 255) e in
    let y = both (w && leb (first_line d i) (last_line d i)) (ltb (last_line d i) lines) z.0 in
    let x = (both w (leb (first_line d i) (last_line d i)) y.0).0 in
    let v = both (is_field d i tab && is_field d (second_at d i) tab) (is_field d (third_at d i) newline) x in
    let u = both (is_field d i tab) (is_field d (second_at d i) tab) v.0 in
    let a = field_inside d i tab (lit≤ tt) u.0 in
    let b = field_inside d (second_at d i) tab (lit≤ tt) u.1 in
    let c = field_inside d (third_at d i) newline (lit≤ tt) v.1 in
    (omega arith, omega arith)

-- so do their starts, which are no fewer than they
pub starts_inside : (d : List ℕ) (lines m : ℕ) → ((k : ℕ) → k < m → is_good d lines (start_of d k) ≡ true) → (m ≤ start_of d m) × (start_of d m ≤ length d)
unfolding start_of
starts_inside d lines zero g = (omega arith, omega arith)
starts_inside d lines (suc m) g =
    let a = starts_inside d lines m (λ k h. g k (omega arith)) in
    let b = good_inside d lines (start_of d m) (g m (omega arith)) in
    (omega arith, b.1)

-- ---- one holder

module _ (d : List ℕ) (n : ℕ) where
  none_count : (m : ℕ) → ((k : ℕ) → k < m → holds d n k ≡ false) → holders d n m ≡ 0
  unfolding holders
  none_count zero g = refl
  none_count (suc m) g = rw (none_count m (λ k h. g k (omega arith)), g m (omega arith))

  pub none_holds : (m : ℕ) → holders d n m ≡ 0 → (k : ℕ) → k < m → holds d n k ≡ false
  unfolding holders
  none_holds zero e k h = absurd (omega arith)
  none_holds (suc m) e k h =
      decide (holds d n m)
      (λ t. absurd (let f : holders d n m + 1 ≡ 0 = rw t at e in omega arith))
      (λ t. let f : holders d n m + 0 ≡ 0 = rw t at e in split m k (λ a. let q : k ≡ m = omega arith in rw q t) (λ a. none_holds m (omega arith) k a))

  pub one_holder : (m : ℕ) → holders d n m ≡ 1 → OneHolder d m n
  unfolding holders
  one_holder zero e = absurd (omega arith)
  one_holder (suc m) e =
      decide (holds d n m)
      (λ t.
      let f : holders d n m + 1 ≡ 1 = rw t at e in
      record {
        index = m;
        inside = omega arith;
        held = t;
        only = λ k h g. split m k (λ a. omega arith) (λ a. absurd (clash (holds d n k) g (none_holds m (omega arith) k a)));
      })
      (λ t.
      let f : holders d n m + 0 ≡ 1 = rw t at e in
      let o = one_holder m (omega arith) in
      record {
        index = o.index;
        inside = omega (arith, o.inside);
        held = o.held;
        only = λ k h g. split m k (λ a. absurd (let q : k ≡ m = omega arith in clash (holds d n m) (rw q at g) t)) (λ a. o.only k a g);
      })

  -- the holder among fewer records, where the last one does not hold the line
  fewer : (m : ℕ) (o : OneHolder d (suc m) n) → holds d n m ≡ false → OneHolder d m n
  fewer m o t =
      record {
        index = o.index;
        inside = split m o.index (λ a. absurd (let q : o.index ≡ m = omega (arith, o.inside) in clash (holds d n m) (rw q at o.held) t)) (λ a. a);
        held = o.held;
        only = λ k h g. o.only k (omega arith) g;
      }

  count_one : (m : ℕ) → OneHolder d m n → holders d n m ≡ 1
  unfolding holders
  count_one zero o = absurd (omega (arith, o.inside))
  count_one (suc m) o =
      decide (holds d n m)
      (λ t.
      let last : m ≡ o.index = o.only m (omega arith) t in
      let z : holders d n m ≡ 0 = none_count m (λ k h. decide (holds d n k) (λ g. absurd (omega (arith, last, o.only k (omega arith) g))) (λ g. g)) in
      rw (t, z))
      (λ t. rw (t, count_one m (fewer m o t)))

  base_of_lem : (m old : ℕ) (o : OneHolder d m n) → base_for d n old m ≡ base_at d (start_of d o.index)
  unfolding base_for fewer
  base_of_lem zero old o = absurd (omega (arith, o.inside))
  base_of_lem (suc m) old o =
      decide (holds d n m)
      (λ t. rw (t, ← o.only m (omega arith) t))
      (λ t. rw t (base_of_lem m old (fewer m o t)))

-- ---- lines that are amiss

module _ (twice : Bool) (d : List ℕ) (lines m : ℕ) where
  -- where there is none, no line is
  pub all_well : lines ≤ first_amiss twice d lines m → (n : ℕ) → n < lines → is_amiss twice (holders d n m) ≡ false
  unfolding first_amiss
  all_well h n l = (least lines (λ i. is_amiss twice (holders d i m)) 0).before n (omega arith) (omega arith)

  none_amiss : ((n : ℕ) → n < lines → is_amiss twice (holders d n m) ≡ false) → lines ≤ first_amiss twice d lines m
  unfolding first_amiss
  none_amiss g =
      let L = least lines (λ i. is_amiss twice (holders d i m)) 0 in
      let r : ℕ = least_from lines (λ i. is_amiss twice (holders d i m)) 0 in
      split lines r (λ a. a) (λ a. absurd (clash (is_amiss twice (holders d r m)) (L.holds (omega arith)) (g r a)))

-- not two, and not none
pub well_one : (count : ℕ) → is_amiss true count ≡ false → is_amiss false count ≡ false → count ≡ 1
well_one count a b = let h = leb-false 2 count a in split 1 count (λ l. omega arith) (λ l. absurd (eqb-false count 0 b (omega arith)))

-- ---- what an answer says

module _ (d : List ℕ) (lines : ℕ) where
  abbrev m : ℕ
  m = good_records d lines

  record Accepted : Type 0 where
    whole : length d ≤ start_of d m
    not_twice : lines ≤ first_twice d lines m
    not_none : lines ≤ first_none d lines m

  done_means : plan_answer d lines ≡ (Ok tt) → Accepted
  unfolding plan_answer
  done_means = go (ltb (start_of d m) (length d)) (ltb (first_twice d lines m) lines) (ltb (first_none d lines m) lines) refl refl refl
    where
      go : (a b c : Bool) → ltb (start_of d m) (length d) ≡ a → ltb (first_twice d lines m) lines ≡ b → ltb (first_none d lines m) lines ≡ c
          → cond {A = Result Unit Refusal} a (Err (BadRecord (m + 1)))
          (cond b (Err (HeldTwice (first_twice d lines m))) (cond c (Err (NotHeld (first_none d lines m))) (Ok tt))) ≡ (Ok tt) → Accepted
      go true b c ea eb ec e = absurd (let no : ◌≡◌ {A = ℕ} 0 1 = cc in omega arith)
      go false true c ea eb ec e = absurd (let no : ◌≡◌ {A = ℕ} 0 1 = cc in omega arith)
      go false false true ea eb ec e = absurd (let no : ◌≡◌ {A = ℕ} 0 1 = cc in omega arith)
      go false false false ea eb ec e =
          record {
            whole = ltb-false (start_of d m) (length d) ea;
            not_twice = ltb-false (first_twice d lines m) lines eb;
            not_none = ltb-false (first_none d lines m) lines ec;
          }

  means_done : Accepted → plan_answer d lines ≡ (Ok tt)
  unfolding plan_answer
  means_done a =
      rw (le-ltb (start_of d m) (length d) a.whole, le-ltb (first_twice d lines m) lines a.not_twice, le-ltb (first_none d lines m) lines a.not_none)

  in_order : plan_answer d lines ≡ (Ok tt) → InOrder d lines
  in_order e =
      let a = done_means e in
      let s = starts_inside d lines m (good_below d lines) in
      record {
        records = m;
        all_good = record { good = good_below d lines; whole = omega (arith, a.whole, s.1) };
        one = λ n h. one_holder d n m (well_one (holders d n m) (all_well true d lines m a.not_twice n h) (all_well false d lines m a.not_none n h));
      }

  -- the good records are all that there are
  all_records : (o : InOrder d lines) → o.records ≡ m
  unfolding good_records
  all_records o =
      let r : ℕ = o.records in
      let g = o.all_good in
      let s = starts_inside d lines r g.good in
      sym
      (least_is (length d) (λ k. not (is_good d lines (start_of d k))) 0 r (omega arith) (omega arith)
      (λ k a h. rw (g.good k h))
      (rw (none_past d lines (start_of d r) (omega (arith, g.whole)))))

  accepted : InOrder d lines → plan_answer d lines ≡ (Ok tt)
  accepted o =
      let e = all_records o in
      let one : (n : ℕ) → n < lines → holders d n m ≡ 1 = λ n h. rw (← e) (count_one d n o.records (o.one n h)) in
      means_done
      (record {
        whole = rw (← e) (omega (arith, o.all_good.whole));
        not_twice = none_amiss true d lines m (λ n h. rw (one n h));
        not_none = none_amiss false d lines m (λ n h. rw (one n h));
      })

pub accepted_in_order : (d : List ℕ) (lines : ℕ) → AcceptedInOrder d lines
accepted_in_order d lines = record { in_order = in_order d lines; accepted = accepted d lines }

pub one_record : OneRecord
one_record d bases bases' o after n h =
    after.bytes n h ∙ rw (← all_records d (length bases) o) (base_of_lem d n o.records (get_or bases n 0) (o.one n h))
