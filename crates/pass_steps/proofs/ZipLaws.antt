-- The records of a set that is held as two lists. Assumes nothing.
use mathlib.Core.List.{List, [], ◌∷◌}
use mathlib.Core.Path.{◌≡◌, refl, ap}
use Prim.Native.Nat.{ℕ, zero, suc, ◌≤◌, ◌<◌}
use native.Mathlib.Omega.{arith}
use lib.ListN.{length, get_or, set}
use Rattle.statistics.specs.Inside.{InRange}
use Rattle.statistics.specs.declared.Record.{Record}
use Rattle.pass_steps.specs.Contexts.{no_record}
use Rattle.pass_steps.specs.Values.{zip_records, SetInRange}

abbrev pub record_at : List ℕ → List ℕ → ℕ → Record
record_at sums ns j = record { sum = get_or sums j 0; n = get_or ns j 0 }

-- lists of one length: how many records there are, and record j
pub zip_length : (sums ns : List ℕ) → length sums ≡ length ns → length (zip_records sums ns) ≡ length sums
unfolding zip_records
zip_length [] ns e = refl
zip_length (a ∷ sums) [] e = absurd (omega arith)
zip_length (a ∷ sums) (b ∷ ns) e = ap suc (zip_length sums ns (omega arith))

pub zip_get_d : (sums ns : List ℕ) (j : ℕ) → length sums ≡ length ns → get_or (zip_records sums ns) j no_record ≡ record_at sums ns j
unfolding zip_records
zip_get_d [] [] j e = refl
zip_get_d [] (b ∷ ns) j e = absurd (omega arith)
zip_get_d (a ∷ sums) [] j e = absurd (omega arith)
zip_get_d (a ∷ sums) (b ∷ ns) zero e = refl
zip_get_d (a ∷ sums) (b ∷ ns) (suc j) e = zip_get_d sums ns j (omega arith)

-- lists of any length: record j, where its n is not 0
pub zip_known : (sums ns : List ℕ) (j : ℕ) → 1 ≤ (get_or (zip_records sums ns) j no_record).n → get_or (zip_records sums ns) j no_record ≡ record_at sums ns j
unfolding zip_records
zip_known [] ns j h = absurd (omega arith)
zip_known (a ∷ sums) [] j h = absurd (omega arith)
zip_known (a ∷ sums) (b ∷ ns) zero h = refl
zip_known (a ∷ sums) (b ∷ ns) (suc j) h = zip_known sums ns j h

-- a record that is stored
pub zip_set : (sums ns : List ℕ) (j : ℕ) (t : Record) → zip_records (set sums j t.sum) (set ns j t.n) ≡ set (zip_records sums ns) j t
unfolding zip_records
zip_set [] ns j t = refl
zip_set (a ∷ sums) [] zero t = refl
zip_set (a ∷ sums) [] (suc j) t = refl
zip_set (a ∷ sums) (b ∷ ns) zero t = refl
zip_set (a ∷ sums) (b ∷ ns) (suc j) t = ap (λ (l : List Record). record { sum = a; n = b } ∷ l) (zip_set sums ns j t)

-- what holds of an entry and of the one that is stored holds of the entry afterwards
pub set_keeps : {A : Type 0} (Q : A → Type 0) (l : List A) (d : A) (i : ℕ) (t : A) (j : ℕ) → Q (get_or l j d) → Q t → Q (get_or (set l i t) j d)
set_keeps Q [] d i t j h q = h
set_keeps Q (x ∷ l) d zero t zero h q = q
set_keeps Q (x ∷ l) d zero t (suc j) h q = h
set_keeps Q (x ∷ l) d (suc i) t zero h q = h
set_keeps Q (x ∷ l) d (suc i) t (suc j) h q = set_keeps Q l d i t j h q

module _ (sums ns : List ℕ) (ok : SetInRange (zip_records sums ns)) where
  -- in a set in range there is record j, and it is in range
  pub record_is : (j : ℕ) → j < 112 → get_or (zip_records sums ns) j no_record ≡ record_at sums ns j
  record_is j h = zip_known sums ns j (ok j h).some

  pub record_in_range : (j : ℕ) → j < 112 → InRange (record_at sums ns j)
  record_in_range j h = rw (record_is j h) at (ok j h)

  pub n_in_range : (j : ℕ) → j < 112 → (1 ≤ get_or ns j 0) × (get_or ns j 0 ≤ 64)
  n_in_range j h = let t = record_in_range j h in (t.some, t.most)

  -- a store of a record in range keeps the set in range
  pub stored_in_range : (j : ℕ) (t : Record) → InRange t → SetInRange (zip_records (set sums j t.sum) (set ns j t.n))
  stored_in_range j t g = rw (zip_set sums ns j t) (λ k h. set_keeps InRange (zip_records sums ns) no_record j t k (ok k h) g)
