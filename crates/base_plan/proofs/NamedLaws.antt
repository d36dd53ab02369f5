-- Each refusal of a plan names the lowest record or line of its kind. Assumes nothing.
use mathlib.Core.Bool.{Bool, true, false, not}
use mathlib.Core.List.{List}
use mathlib.Core.Path.{◌≡◌, refl}
use Prim.Native.Nat.{ℕ, zero, suc, ◌+◌, ◌≤◌, ◌<◌}
use native.Mathlib.Omega.{arith}
use lib.Dec.{ltb}
use lib.ListN.{length}
use borrow.Author.Tests.{ltb-true, ltb-false, leb-true, leb-false, eqb-true, not-true}
use Rattle.numbers.specs.Numbers.{flag}
use Rattle.numbers.proofs.LeastLaws.{least}
use Rattle.numbers.proofs.OrderLaws.{split}
use Rattle.stream.specs.declared.header.Refusal.TheVariants.{BadRecord, HeldTwice, NotHeld}
use Rattle.base_plan.specs.Records.{is_good, start_of, holds, good_records, holders}
use Rattle.base_plan.specs.Counts.{is_amiss}
use Rattle.base_plan.specs.Plans.{first_amiss, first_twice, first_none, plan_answer}
use Rattle.base_plan.specs.OneRecord.{AllGood, LowestBad, TwoHolders, LowestTwice, LowestNone, Named}
use Rattle.base_plan.proofs.RecordLaws.{good_below}
use Rattle.base_plan.proofs.OneRecordLaws.{decide, starts_inside, none_holds, one_holder, all_well, well_one}
use Rattle.std.specs.Prelude.{Err}

-- ---- two holders

module _ (d : List ℕ) (n : ℕ) where
  flag_le : (t : Bool) → flag t ≤ 1
  flag_le true = omega arith
  flag_le false = omega arith

  -- where one of m records holds the line, at least one does
  holder_counts : (m k : ℕ) → k < m → holds d n k ≡ true → 1 ≤ holders d n m
  unfolding holders
  holder_counts zero k h t = absurd (omega arith)
  holder_counts (suc m) k h t =
      split m k
      (λ a. let q : k ≡ m = omega arith in let f : holds d n m ≡ true = rw q at t in rw f (omega arith))
      (λ a. omega (arith, holder_counts m k a t))

  two_count : (m : ℕ) → TwoHolders d m n → 2 ≤ holders d n m
  unfolding holders
  two_count zero w = absurd (omega (arith, w.inside))
  two_count (suc m) w =
      split m w.other
      (λ a.
      let q : w.other ≡ m = omega (arith, w.inside) in
      let f : holds d n m ≡ true = rw q at w.other_holds in
      rw f (omega (arith, holder_counts m w.one (omega (arith, w.apart)) w.one_holds)))
      (λ a.
      omega
      (arith, two_count m (record { one = w.one; other = w.other; apart = w.apart; inside = a; one_holds = w.one_holds; other_holds = w.other_holds })))

  -- one of them, where there is one
  record Holder (m : ℕ) : Type 0 where
    index : ℕ
    inside : index < m
    held : holds d n index ≡ true

  a_holder : (m : ℕ) → 1 ≤ holders d n m → Holder m
  unfolding holders
  a_holder zero h = absurd (omega arith)
  a_holder (suc m) h =
      decide (holds d n m)
      (λ t. record { index = m; inside = omega arith; held = t })
      (λ t.
      let f : 1 ≤ holders d n m + 0 = rw t at h in
      let o = a_holder m (omega arith) in
      record { index = o.index; inside = omega (arith, o.inside); held = o.held })

  two_holders : (m : ℕ) → 2 ≤ holders d n m → TwoHolders d m n
  unfolding holders
  two_holders zero h = absurd (omega arith)
  two_holders (suc m) h =
      decide (holds d n m)
      (λ t.
      let f : 2 ≤ holders d n m + 1 = rw t at h in
      let o = a_holder m (omega arith) in
      record { one = o.index; other = m; apart = o.inside; inside = omega arith; one_holds = o.held; other_holds = t })
      (λ t.
      let f : 2 ≤ holders d n m + 0 = rw t at h in
      let w = two_holders m (omega arith) in
      record { one = w.one; other = w.other; apart = w.apart; inside = omega (arith, w.inside); one_holds = w.one_holds; other_holds = w.other_holds })

-- ---- the answers

module _ (d : List ℕ) (lines : ℕ) where
  abbrev m : ℕ
  m = good_records d lines

  -- which test led to an answer
  record Cases : Type 0 where
    bad : (r : ℕ) → plan_answer d lines ≡ Err (BadRecord r) → (r ≡ m + 1) × (start_of d m < length d)
    twice : (n : ℕ) → plan_answer d lines ≡ Err (HeldTwice n) → (n ≡ first_twice d lines m) × (length d ≤ start_of d m) × (first_twice d lines m < lines)
    none : (n : ℕ) → plan_answer d lines ≡ Err (NotHeld n)
        → (n ≡ first_none d lines m) × (length d ≤ start_of d m) × (lines ≤ first_twice d lines m) × (first_none d lines m < lines)

  cases : Cases
  unfolding plan_answer
  cases = go (ltb (start_of d m) (length d)) (ltb (first_twice d lines m) lines) (ltb (first_none d lines m) lines) refl refl refl
    where
      no : {X : Type 0} → ◌≡◌ {A = ℕ} 0 1 → X
      no e = absurd (omega arith)

      go : (a b c : Bool) → ltb (start_of d m) (length d) ≡ a → ltb (first_twice d lines m) lines ≡ b → ltb (first_none d lines m) lines ≡ c → Cases
      go true b c ea eb ec =
          record {
            bad = λ r e. let f = rw ea at e in (cc, ltb-true (start_of d m) (length d) ea);
            twice = λ n e. let f = rw ea at e in no (cc);
            none = λ n e. let f = rw ea at e in no (cc);
          }
      go false true c ea eb ec =
          record {
            bad = λ r e. let f = rw (ea, eb) at e in no (cc);
            twice = λ n e. let f = rw (ea, eb) at e in (cc, ltb-false (start_of d m) (length d) ea, ltb-true (first_twice d lines m) lines eb);
            none = λ n e. let f = rw (ea, eb) at e in no (cc);
          }
      go false false true ea eb ec =
          record {
            bad = λ r e. let f = rw (ea, eb, ec) at e in no (cc);
            twice = λ n e. let f = rw (ea, eb, ec) at e in no (cc);
            none = λ n e.
                let f = rw (ea, eb, ec) at e in
                (cc, ltb-false (start_of d m) (length d) ea, ltb-false (first_twice d lines m) lines eb, ltb-true (first_none d lines m) lines ec);
          }
      go false false false ea eb ec =
          record {
            bad = λ r e. let f = rw (ea, eb, ec) at e in no (cc);
            twice = λ n e. let f = rw (ea, eb, ec) at e in no (cc);
            none = λ n e. let f = rw (ea, eb, ec) at e in no (cc);
          }

  all_good : length d ≤ start_of d m → AllGood d lines m
  all_good h = record { good = good_below d lines; whole = omega (arith, h, starts_inside d lines m (good_below d lines)) }

  -- the first record that is not good is not good
  not_good_lem : start_of d m < length d → is_good d lines (start_of d m) ≡ false
  unfolding good_records
  not_good_lem h =
      let L = least (length d) (λ k. not (is_good d lines (start_of d k))) 0 in
      not-true (is_good d lines (start_of d m)) (L.holds (omega (arith, h, starts_inside d lines m (good_below d lines))))

  -- the lowest line that is amiss
  amiss_there : (t : Bool) → first_amiss t d lines m < lines → is_amiss t (holders d (first_amiss t d lines m) m) ≡ true
  unfolding first_amiss
  amiss_there t h = (least lines (λ i. is_amiss t (holders d i m)) 0).holds (omega arith)

  amiss_lower : (t : Bool) (i : ℕ) → i < first_amiss t d lines m → is_amiss t (holders d i m) ≡ false
  unfolding first_amiss
  amiss_lower t i h = (least lines (λ i. is_amiss t (holders d i m)) 0).before i (omega arith) h

  not_two : (i : ℕ) → is_amiss true (holders d i m) ≡ false → TwoHolders d m i → ⊥
  not_two i e w = omega (arith, leb-false 2 (holders d i m) e, two_count d i m w)

  bad_named : (r : ℕ) → plan_answer d lines ≡ Err (BadRecord r) → LowestBad d lines r
  bad_named r e =
      let c = cases.bad r e in
      record { before = m; number = c.0; good = good_below d lines; there = c.1; bad = not_good_lem c.1 }

  twice_named : (n : ℕ) → plan_answer d lines ≡ Err (HeldTwice n) → LowestTwice d lines n
  twice_named n e =
      let c = cases.twice n e in
      let f : ℕ = first_twice d lines m in
      rw c.0
      (record {
        records = m;
        all_good = all_good c.1;
        line = c.2;
        twice = two_holders d f m (leb-true 2 (holders d f m) (amiss_there true c.2));
        lower = λ i h. not_two i (amiss_lower true i h);
      })

  none_named : (n : ℕ) → plan_answer d lines ≡ Err (NotHeld n) → LowestNone d lines n
  none_named n e =
      let c = cases.none n e in
      let f : ℕ = first_none d lines m in
      let well = all_well true d lines m c.2 in
      rw c.0
      (record {
        records = m;
        all_good = all_good c.1;
        line = c.3;
        none = none_holds d f m (eqb-true (holders d f m) 0 (amiss_there false c.3));
        not_twice = λ i h. not_two i (well i h);
        lower = λ i h. one_holder d i m (well_one (holders d i m) (well i (omega arith)) (amiss_lower false i h));
      })

pub named : (d : List ℕ) (lines : ℕ) → Named d lines
named d lines = record { bad = bad_named d lines; twice = twice_named d lines; none = none_named d lines }
