-- Fields and records that are read. Assumes nothing.
use mathlib.Core.Bool.{Bool, true, false, ◌&&◌}
use mathlib.Core.List.{List}
use mathlib.Core.Path.{◌≡◌, refl, sym, ap, ◌∙◌}
use Prim.Native.Nat.{ℕ, ◌+◌, ◌≤◌, ◌<◌}
use native.Mathlib.Omega.{arith}
use lib.Dec.{leb, ltb}
use lib.ListN.{length, get_or}
use borrow.Author.Tests.{lt-ltb, le-ltb, eq-eqb, ne_eqb, leb-true, ltb-true}
use Rattle.numbers.proofs.BoolLaws.{both}
use Rattle.base_plan.specs.Records.{tab, newline, number_at, end_of, is_field, second_at, third_at, is_good}
use Rattle.base_plan.specs.Readings.{field_of, FieldInside, row_of, RowInside}
use Rattle.base_plan.specs.declared.records.Field.{Field}
use Rattle.base_plan.specs.declared.records.Row.{Row}
use Rattle.std.specs.Prelude.{None, Some, Option}
use Rattle.std.proofs.lemmas.Option.{same_Some}

-- ---- a field

module _ (d : List ℕ) (i mark number end : ℕ) (en : number ≡ number_at d i) (ee : end ≡ end_of d i) where
  pub is_field_lem : i < end → get_or d end 0 ≡ mark → Some (record { number = number; next = (end + 1) }) ≡ field_of d i mark
  unfolding field_of is_field
  is_field_lem h m = rw (← ee, lt-ltb i end h, eq-eqb (get_or d end 0) mark m, en)

  pub no_mark : i < end → (get_or d end 0 ≡ mark → ⊥) → None ≡ field_of d i mark
  unfolding field_of is_field
  no_mark h m = rw (← ee, lt-ltb i end h, ne_eqb (get_or d end 0) mark m)

  pub no_digit : end ≤ i → None ≡ field_of d i mark
  unfolding field_of is_field
  no_digit h = rw (← ee, le-ltb i end h)

-- what a field that was read says
pub record IsField (d : List ℕ) (i mark v next : ℕ) : Type 0 where
  pub holds : is_field d i mark ≡ true
  pub number : v ≡ number_at d i
  pub after : next ≡ end_of d i + 1
  pub further : i < next
  pub inside : next ≤ length d

module _ (d : List ℕ) (i mark : ℕ) (r : Option Field) (is : r ≡ field_of d i mark) where
  pub field_bad : r ≡ None → is_field d i mark ≡ false
  unfolding field_of
  field_bad e = go (is_field d i mark) refl
    where
      go : (t : Bool) → is_field d i mark ≡ t → is_field d i mark ≡ false
      go true g = let f : Some (record { number = (number_at d i); next = (end_of d i + 1) }) ≡ None = rw g at (sym is ∙ e) in absurd (let no : ◌≡◌ {A = ℕ} 0 1 = cc in omega arith)
      go false g = g

  pub field_good : (v next : ℕ) → r ≡ Some (record { number = v; next = next }) → FieldInside d i r → IsField d i mark v next
  unfolding field_of
  field_good v next e h = go (is_field d i mark) refl
    where
      in_text : (i < next) × (next ≤ length d)
      in_text = rw e at h

      go : (t : Bool) → is_field d i mark ≡ t → IsField d i mark v next
      go true g =
          let f : Some (record { number = (number_at d i); next = (end_of d i + 1) }) ≡ Some (record { number = v; next = next }) = rw g at (sym is ∙ e) in
          let same : record { number = number_at d i; next = end_of d i + 1 } ≡ record { number = v; next = next } = same_Some _ _ f in
          record { holds = g; number = sym (ap (λ (x : Field). x.number) same); after = sym (ap (λ (x : Field). x.next) same); further = in_text.0; inside = in_text.1 }
      go false g = let f : None ≡ Some (record { number = v; next = next }) = rw g at (sym is ∙ e) in absurd (let no : ◌≡◌ {A = ℕ} 0 1 = cc in omega arith)

-- ---- a record

abbrev pub is_allowed : ℕ → ℕ → ℕ → ℕ → Bool
is_allowed lines first last base = leb first last && ltb last lines && leb base 255

module _ (d : List ℕ) (lines i : ℕ) where
  -- what is promised of a row
  abbrev pub Promised : Option Row → Type 0
  Promised r = (r ≡ row_of d lines i) × RowInside d lines i r

  pub first_bad_lem : is_field d i tab ≡ false → Promised None
  unfolding row_of is_good
  first_bad_lem e = (rw e, tt)

  module _ (first second : ℕ) (a : IsField d i tab first second) where
    pub second_bad : is_field d second tab ≡ false → Promised None
    unfolding row_of is_good
    second_bad e = (rw (a.holds, ← a.after, e), tt)

    module _ (last third : ℕ) (b : IsField d second tab last third) where
      second_is : second_at d i ≡ second
      second_is = sym a.after

      third_is : third_at d i ≡ third
      third_is = rw (← a.after) (sym b.after)

      pub third_bad : is_field d third newline ≡ false → Promised None
      unfolding row_of is_good
      third_bad e = (rw (a.holds, ← a.after, b.holds, ← b.after, e), tt)

      module _ (base next : ℕ) (c : IsField d third newline base next) where
        pub not_allowed : is_allowed lines first last base ≡ false → Promised None
        unfolding row_of is_good
        not_allowed e = (rw (a.holds, ← a.after, b.holds, ← b.after, c.holds, ← a.number, ← b.number, ← c.number, e), tt)

        pub allowed : is_allowed lines first last base ≡ true → Promised (Some (record { first = first; last = last; base = base; next = next }))
        unfolding row_of is_good
        allowed e =
            let z = both (leb first last && ltb last lines) (leb base 255) e in
            let y = both (leb first last) (ltb last lines) z.0 in (
              rw (a.holds, ← a.after, b.holds, ← b.after, c.holds, ← a.number, ← b.number, ← c.number, e, ← c.after),
              (leb-true first last y.0, ltb-true last lines y.1, leb-true base 255 z.1, omega (arith, a.further, b.further, c.further), c.inside),
            )
