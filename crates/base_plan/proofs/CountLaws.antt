-- Lines with which records begin and after which they have ended, counted: how many records hold a line. Assumes nothing.
use mathlib.Core.Bool.{Bool, true, false, ◌&&◌}
use mathlib.Core.List.{List}
use mathlib.Core.Path.{◌≡◌, refl, sym, ◌∙◌}
use Prim.Native.Nat.{ℕ, zero, suc, ◌+◌, ◌-◌, ◌^◌, ◌≤◌, ◌<◌}
use native.Mathlib.Numerals.{add-one}
use native.Mathlib.Omega.{arith}
use lib.Dec.{leb, ltb}
use lib.ListN.{length, get_or, set, replicate, length-set, length-replicate, get_or-replicate, get_or-eq_default}
use lib.Seq.{get_or-set_same, get_or-set_other}
use borrow.Author.Tests.{lt-ltb, le-ltb, le-leb, lt-leb}
use Rattle.numbers.specs.Numbers.{flag}
use Rattle.numbers.proofs.FillLaws.{next_below}
use Rattle.numbers.proofs.OrderLaws.{split}
use Rattle.base_plan.specs.Records.{first_line, last_line, is_good, start_of, holds, good_records, holders}
use Rattle.base_plan.proofs.RecordLaws.{good_from, good_here}
use Rattle.base_plan.specs.Inside.{IsRead, begun_before, ended_before, sum_before, Marked, Balanced}

-- ---- sums

-- two numbers are equal, or not
same_or {ℓ} : {X : Type ℓ} (i j : ℕ) → (i ≡ j → X) → ((i ≡ j → ⊥) → X) → X
same_or i j f g = split i j (λ a. split j i (λ b. f (omega arith)) (λ b. g (λ q. omega arith))) (λ a. g (λ q. omega arith))

-- one more at entry i
sum_set : (l : List ℕ) (i n : ℕ) → i < length l → sum_before (set l i (get_or l i 0 + 1)) n ≡ sum_before l n + flag (ltb i n)
unfolding sum_before
sum_set l i zero h = rw (le-ltb i 0 (omega arith))
sum_set l i (suc n) h =
    same_or n i
    (λ e. rw (sum_set l i n h, e, get_or-set_same l i (get_or l i 0 + 1) 0 h, le-ltb i i (omega arith), lt-ltb i (suc i) (omega arith)) (omega arith))
    (λ ne. let same : ltb i n ≡ ltb i (suc n) = next_below n i (λ q. ne (sym q)) ∙ rw (add-one n) in rw (sum_set l i n h, get_or-set_other l i n (get_or l i 0 + 1) 0 ne, same) (omega arith))

set_low : (l : List ℕ) (i m : ℕ) → i < length l → ((j : ℕ) → get_or l j 0 ≤ m) → (j : ℕ) → get_or (set l i (get_or l i 0 + 1)) j 0 ≤ m + 1
set_low l i m h low j =
    same_or j i
    (λ e. rw (e, get_or-set_same l i (get_or l i 0 + 1) 0 h) (omega (arith, low i)))
    (λ ne. rw (get_or-set_other l i j (get_or l i 0 + 1) 0 ne) (omega (arith, low j)))

-- a list of zeros
abbrev zeros : ℕ → List ℕ
zeros k = replicate k 0

get_d_zeros : (k n : ℕ) → get_or (zeros k) n 0 ≡ 0
get_d_zeros k n =
    split k n (λ h. get_or-eq_default (zeros k) 0 (rw length-replicate h)) (λ h. get_or-replicate k n 0 0 h)

sum_zeros : (k n : ℕ) → sum_before (zeros k) n ≡ 0
unfolding sum_before
sum_zeros k zero = refl
sum_zeros k (suc n) = rw (sum_zeros k n, get_d_zeros k n)

-- ---- the marks of records

pub marked_none : (d : List ℕ) → Marked d 0 (replicate 2732 0) (replicate 2732 0)
unfolding begun_before ended_before
marked_none d =
    record {
      begin_long = length-replicate {A = ℕ} 2732 0;
      end_long = length-replicate {A = ℕ} 2732 0;
      begin_low = λ i. rw (get_d_zeros 2732 i) (omega arith);
      end_low = λ i. rw (get_d_zeros 2732 i) (omega arith);
      begun = sum_zeros 2732;
      ended = sum_zeros 2732;
    }

module _ (d : List ℕ) (m at first last : ℕ) (begins ends : List ℕ) (e : at ≡ start_of d m) (ef : first ≡ first_line d at) (el : last ≡ last_line d at)
    (h : last < 2731) (order : first ≤ last) (k : Marked d m begins ends) where
  begin_in : first < length begins
  begin_in = omega (arith, k.begin_long)

  end_in : last + 1 < length ends
  end_in = omega (arith, k.end_long)

  pub marked_more : Marked d (m + 1) (set begins first (get_or begins first 0 + 1)) (set ends (last + 1) (get_or ends (last + 1) 0 + 1))
  unfolding begun_before ended_before
  marked_more =
      record {
        begin_long = length-set begins first _ ∙ k.begin_long;
        end_long = length-set ends (last + 1) _ ∙ k.end_long;
        begin_low = set_low begins first m begin_in k.begin_low;
        end_low = set_low ends (last + 1) m end_in k.end_low;
        begun = λ n. rw (sum_set begins first n begin_in, k.begun n, add-one m, ← e, ef);
        ended = λ n. rw (sum_set ends (last + 1) n end_in, k.ended n, add-one m, ← e, el);
      }

-- ---- how many records hold a line

-- of one record: it holds n, or has ended before, or has not begun
one_holds : (first last n : ℕ) → first ≤ last → flag (leb first n && leb n last) + flag (ltb (last + 1) (n + 1)) ≡ flag (ltb first (n + 1))
one_holds first last n h =
    split first n
    (λ a. split n last
    (λ b. rw (le-leb first n a, le-leb n last b, le-ltb (last + 1) (n + 1) (omega arith), lt-ltb first (n + 1) (omega arith)))
    (λ b. rw (le-leb first n a, lt-leb n last b, lt-ltb (last + 1) (n + 1) (omega arith), lt-ltb first (n + 1) (omega arith))))
    (λ a. rw (lt-leb first n a, le-ltb (last + 1) (n + 1) (omega arith), le-ltb first (n + 1) (omega arith)))

-- records that do not run backwards
abbrev pub Forward : List ℕ → ℕ → Type 0
Forward d m = (k : ℕ) → k < m → first_line d (start_of d k) ≤ last_line d (start_of d k)

module _ (d : List ℕ) (n : ℕ) where
  pub holders_count : (m : ℕ) → Forward d m → holders d n m + ended_before d (n + 1) m ≡ begun_before d (n + 1) m
  unfolding holders ended_before begun_before holds
  holders_count zero f = refl
  holders_count (suc m) f =
      let a = holders_count m (λ k h. f k (omega arith)) in
      let b = one_holds (first_line d (start_of d m)) (last_line d (start_of d m)) n (f m (omega arith)) in
      omega arith

  flag_le : (t : Bool) → flag t ≤ 1
  flag_le true = omega arith
  flag_le false = omega arith

  pub begun_le : (m : ℕ) → begun_before d n m ≤ m
  unfolding begun_before
  begun_le zero = omega arith
  begun_le (suc m) = omega (arith, begun_le m, flag_le (ltb (first_line d (start_of d m)) n))

  one_ended : (first last : ℕ) → first ≤ last → flag (ltb (last + 1) n) ≤ flag (ltb first n)
  one_ended first last h =
      split n (last + 1) (λ a. rw (le-ltb (last + 1) n a) (omega arith)) (λ a. rw (lt-ltb (last + 1) n a, lt-ltb first n (omega arith)) (omega arith))

  pub ended_le : (m : ℕ) → Forward d m → ended_before d n m ≤ begun_before d n m
  unfolding ended_before begun_before
  ended_le zero f = omega arith
  ended_le (suc m) f =
      let a = ended_le m (λ k h. f k (omega arith)) in
      let b = one_ended (first_line d (start_of d m)) (last_line d (start_of d m)) (f m (omega arith)) in
      omega arith

module _ (d : List ℕ) (m : ℕ) (begins ends : List ℕ) (f : Forward d m) (k : Marked d m begins ends) where
  pub balanced : m < 2 ^ 64 → Balanced begins ends
  balanced h n = rw (k.begun n, k.ended n) (ended_le d n m f, omega (arith, begun_le d n m))

  pub held_is : (n : ℕ) → sum_before begins (n + 1) - sum_before ends (n + 1) ≡ holders d n m
  held_is n = rw (k.begun (n + 1), k.ended (n + 1)) (omega (arith, holders_count d n m f))

-- what is known once the search for good records ends
pub is_read_lem : (d : List ℕ) (lines m at : ℕ) → at ≡ start_of d m → good_records d lines ≡ good_from d lines m → is_good d lines at ≡ false → m ≤ at → at ≤ length d
    → IsRead d lines (record { records = m; end = at })
is_read_lem d lines m at e g b few inside = record { records = sym (g ∙ good_here d lines m at e b); end = e; few = few; inside = inside }
