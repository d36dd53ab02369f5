-- The records of a plan, one after the other: how many good ones there are, and where they end. Assumes nothing.
use mathlib.Core.Bool.{Bool, true, false, not, ◌&&◌}
use mathlib.Core.List.{List}
use mathlib.Core.Path.{◌≡◌, refl, sym, ap, ◌∙◌}
use Prim.Native.Nat.{ℕ, ◌+◌, ◌-◌, ◌≤◌, ◌<◌}
use native.Mathlib.Nat.{add-zero}
use native.Mathlib.Numerals.{add-one}
use native.Mathlib.Omega.{arith}
use lib.Dec.{leb, ltb}
use lib.ListN.{length, get_or, get_or-eq_default}
use borrow.Author.Tests.{le-ltb, leb-true, not-false}
use Rattle.numbers.specs.Numbers.{least_from}
use Rattle.numbers.proofs.BoolLaws.{both}
use Rattle.numbers.proofs.LeastLaws.{least_here, least_next, least}
use Rattle.base_plan.specs.Records.{tab, newline, is_digit, end_of, is_field, second_at, third_at, next_at, first_line, last_line, base_at, is_good, start_of, good_records}
use Rattle.base_plan.specs.Readings.{row_of, RowInside}
use Rattle.base_plan.specs.declared.records.Row.{Row}
use Rattle.base_plan.proofs.DigitLaws.{from_start, from_here}
use Rattle.std.specs.Prelude.{None, Some, Option}
use Rattle.std.proofs.lemmas.Option.{same_Some}

-- ---- what a record that was read says

pub record IsRow (d : List ℕ) (lines i first last base next : ℕ) : Type 0 where
  pub good : is_good d lines i ≡ true
  pub first_is : first ≡ first_line d i
  pub last_is : last ≡ last_line d i
  pub base_is : base ≡ base_at d i
  pub next_is : next ≡ next_at d i
  pub order : first ≤ last
  pub below : last < lines
  pub small : base ≤ 255
  pub further : i < next
  pub inside : next ≤ length d

module _ (d : List ℕ) (lines i : ℕ) (r : Option Row) (is : r ≡ row_of d lines i) where
  pub row_bad : r ≡ None → is_good d lines i ≡ false
  unfolding row_of
  row_bad e = go (is_good d lines i) refl
    where
      go : (t : Bool) → is_good d lines i ≡ t → is_good d lines i ≡ false
      go true g =
          let f : Some (record { first = (first_line d i); last = (last_line d i); base = (base_at d i); next = (next_at d i) }) ≡ None = rw g at (sym is ∙ e) in
          absurd (let no : ◌≡◌ {A = ℕ} 0 1 = cc in omega arith)
      go false g = g

  pub row_good : (first last base next : ℕ) → r ≡ Some (record { first = first; last = last; base = base; next = next }) → RowInside d lines i r → IsRow d lines i first last base next
  unfolding row_of
  row_good first last base next e h = go (is_good d lines i) refl
    where
      in_text : (first ≤ last) × (last < lines) × (base ≤ 255) × (i < next) × (next ≤ length d)
      in_text = rw e at h

      go : (t : Bool) → is_good d lines i ≡ t → IsRow d lines i first last base next
      go true g =
          let f : Some (record { first = (first_line d i); last = (last_line d i); base = (base_at d i); next = (next_at d i) }) ≡ Some (record { first = first; last = last; base = base; next = next }) = rw g at (sym is ∙ e) in
          let same : record { first = first_line d i; last = last_line d i; base = base_at d i; next = next_at d i }
          ≡ record { first = first; last = last; base = base; next = next } = same_Some _ _ f in
          record {
            good = g;
            first_is = sym (ap (λ (x : Row). x.first) same);
            last_is = sym (ap (λ (x : Row). x.last) same);
            base_is = sym (ap (λ (x : Row). x.base) same);
            next_is = sym (ap (λ (x : Row). x.next) same);
            order = in_text.0;
            below = in_text.1;
            small = in_text.2;
            further = in_text.3;
            inside = in_text.4;
          }
      go false g =
          let f : None ≡ Some (record { first = first; last = last; base = base; next = next }) = rw g at (sym is ∙ e) in
          absurd (let no : ◌≡◌ {A = ℕ} 0 1 = cc in omega arith)

-- a good record does not run backwards
pub good_order : (d : List ℕ) (lines i : ℕ) → is_good d lines i ≡ true → first_line d i ≤ last_line d i
unfolding is_good
good_order d lines i e =
    let w : Bool = is_field d i tab && is_field d (second_at d i) tab && is_field d (third_at d i) newline in
    let z = both (w && leb (first_line d i) (last_line d i) && ltb (last_line d i) lines) (leb (base_at d i) 255) e in
    let y = both (w && leb (first_line d i) (last_line d i)) (ltb (last_line d i) lines) z.0 in
    leb-true (first_line d i) (last_line d i) (both w (leb (first_line d i) (last_line d i)) y.0).1

-- there is none past the end
none_there : (d : List ℕ) (i : ℕ) → length d ≤ i → end_of d i ≡ i
unfolding end_of
none_there d i h =
    let e : get_or d (i + 0) 0 ≡ 0 = rw (add-zero i) (get_or-eq_default d 0 h) in
    let f : is_digit (get_or d (i + 0) 0) ≡ false = rw e refl in
    rw (from_start d i, from_here d i 0 f) (omega arith)

pub none_past : (d : List ℕ) (lines i : ℕ) → length d ≤ i → is_good d lines i ≡ false
unfolding is_good is_field
none_past d lines i h = rw (none_there d i h, le-ltb i i (omega arith))

-- ---- good records, one after the other

module _ (d : List ℕ) (lines : ℕ) where
  abbrev not_good : ℕ → Bool
  not_good k = not (is_good d lines (start_of d k))

  -- the search for the first that is not good, from the m-th on
  abbrev pub good_from : ℕ → ℕ
  good_from m = least_from (length d - m) (λ k. not (is_good d lines (start_of d k))) m

  pub good_start : good_records d lines ≡ good_from 0
  unfolding good_records
  good_start = let e : length d - 0 ≡ length d = omega arith in rw e

  pub good_here : (m at : ℕ) → at ≡ start_of d m → is_good d lines at ≡ false → good_from m ≡ m
  good_here m at e g = least_here (length d - m) (λ k. not (is_good d lines (start_of d k))) m (rw (← e, g))

  pub good_next : (m at : ℕ) → at ≡ start_of d m → m < length d → is_good d lines at ≡ true → good_from m ≡ good_from (m + 1)
  good_next m at e h g =
      let f : length d - m - 1 ≡ length d - (m + 1) = omega arith in
      least_next (length d - m) (λ k. not (is_good d lines (start_of d k))) m (omega arith) (rw (← e, g)) ∙ rw f

  -- all before the first that is not good are good
  pub good_below : (k : ℕ) → k < good_records d lines → is_good d lines (start_of d k) ≡ true
  unfolding good_records
  good_below k h =
      let L = least (length d) (λ j. not (is_good d lines (start_of d j))) 0 in
      not-false (is_good d lines (start_of d k)) (L.before k (omega arith) h)

pub start_next : (d : List ℕ) (m at next : ℕ) → at ≡ start_of d m → next ≡ next_at d at → next ≡ start_of d (m + 1)
unfolding start_of
start_next d m at next e f = f ∙ rw (e, add-one m)

pub start_none : (d : List ℕ) → 0 ≡ start_of d 0
unfolding start_of
start_none d = refl
