-- The k of each record, kept beside a set. Assumes nothing.
use mathlib.Core.List.{List}
use mathlib.Core.Path.{◌≡◌, refl, sym, ap, ◌∙◌}
use Prim.Native.Nat.{ℕ, zero, suc, ◌+◌, ◌≤◌, ◌<◌}
use native.Mathlib.Omega.{arith}
use lib.ListN.{length, get_or, set, replicate, length-set}
use lib.Seq.{get_or-set_same, get_or-set_other}
use Rattle.numbers.proofs.OrderLaws.{split}
use Rattle.statistics.specs.Statistics.{k_of}
use Rattle.statistics.specs.declared.Record.{Record}
use Rattle.statistics.proofs.RecordLaws.{k_least}
use Rattle.pass_steps.specs.Contexts.{no_record}
use Rattle.pass_steps.specs.Values.{AreKs}

-- the k that is kept for a record
pub kept_k : {l : List Record} {ks : List ℕ} {j k : ℕ} {t : Record} → AreKs l ks → j < 112 → t ≡ get_or l j no_record → k ≡ get_or ks j 0 → (k ≡ k_of t) × (k ≤ 15)
kept_k {l} {ks} {j} {k} {t} h lt e f =
    let is : k ≡ k_of t = rw (f, e) (h.each j lt) in
    (is, omega (arith, is, (k_least t).capped))

-- the ks of the first n records; the others are 0 still
pub record KsUpto (n : ℕ) (l : List Record) (ks : List ℕ) : Type 0 where
  pub all : length ks ≡ 112
  pub each : (j : ℕ) → j < n → get_or ks j 0 ≡ k_of (get_or l j no_record)
  pub rest : (j : ℕ) → n ≤ j → get_or ks j 0 ≡ 0

pub zeros : (n j : ℕ) → ◌≡◌ {A = ℕ} (get_or (replicate n 0) j 0) 0
zeros zero j = refl
zeros (suc n) zero = refl
zeros (suc n) (suc j) = zeros n j

-- an entry, or the one that was stored
stored : (ks : List ℕ) (i k j x : ℕ) → i < length ks → (j ≡ i → k ≡ x) → ((j ≡ i → ⊥) → get_or ks j 0 ≡ x) → get_or (set ks i k) j 0 ≡ x
stored ks i k j x lt same other =
    split i j
    (λ a. split j i
    (λ b. let e : j ≡ i = omega arith in rw e (get_or-set_same ks i k 0 lt ∙ same e))
    (λ b. let ne : j ≡ i → ⊥ = λ e. omega arith in get_or-set_other ks i j k 0 ne ∙ other ne))
    (λ a. let ne : j ≡ i → ⊥ = λ e. omega arith in get_or-set_other ks i j k 0 ne ∙ other ne)

-- one more
pub one_more_k : {n k : ℕ} {l : List Record} {ks : List ℕ} → KsUpto n l ks → n < 112 → k ≡ k_of (get_or l n no_record) → KsUpto (n + 1) l (set ks n k)
one_more_k {n} {k} {l} {ks} h lt e =
    record {
      all = simp length-set h.all;
      each = λ j a. stored ks n k j (k_of (get_or l j no_record)) (omega (arith, h.all)) (λ s. rw s e) (λ ne. h.each j (omega (arith, ne)));
      rest = λ j a. stored ks n k j 0 (omega (arith, h.all)) (λ s. absurd (omega arith)) (λ ne. h.rest j (omega arith));
    }

-- the same under another name
pub ks_named : {n : ℕ} {l : List Record} {ks ks' : List ℕ} → ks' ≡ ks → KsUpto n l ks → KsUpto n l ks'
ks_named e h = rw e h

-- one more, which is 0
small_k : (t : Record) → 1 ≤ t.n → t.sum ≤ t.n → k_of t ≡ 0
small_k t one le = split 1 (k_of t) (λ a. absurd (omega (arith, (k_least t).before 0 a))) (λ a. omega arith)

pub one_more_zero : {n : ℕ} {l : List Record} {ks : List ℕ} (t : Record) → KsUpto n l ks → t ≡ get_or l n no_record → 1 ≤ t.n → t.sum ≤ t.n → KsUpto (n + 1) l ks
one_more_zero {n} {l} {ks} t h e one le =
    record {
      all = h.all;
      each = λ j a.
          split n j
          (λ b. let same : j ≡ n = omega arith in rw same (h.rest n (omega arith) ∙ sym (ap k_of (sym e) ∙ small_k t one le)))
          (λ b. h.each j b);
      rest = λ j a. h.rest j (omega arith);
    }

-- a record and its k are stored
pub stored_k : {i k : ℕ} (t : Record) {l new : List Record} {ks : List ℕ} → AreKs l ks → i < 112 → new ≡ set l i t → k ≡ k_of (get_or new i no_record)
    → AreKs new (set ks i k)
stored_k {i} {k} t {l} {new} {ks} h lt e f =
    record {
      all = simp length-set h.all;
      each = λ j a.
          stored ks i k j (k_of (get_or new j no_record)) (omega (arith, h.all)) (λ s. rw s f)
          (λ ne. h.each j a ∙ ap k_of (rw e (sym (get_or-set_other l i j t no_record ne))));
    }
