-- How many holds there are after lines took theirs, and after all of a camera went back. Assumes nothing.
use borrow.Author.Tests.{ltb-true, ltb-false, not-true}
use mathlib.Core.Bool.{Bool, true, false, cond, not, ◌||◌, false≢true}
use mathlib.Core.List.{List, [], ◌∷◌, map}
use mathlib.Core.Path.{◌≡◌, refl, sym, ◌∙◌}
use Prim.Native.Nat.{ℕ, zero, suc, ◌+◌, ◌≤◌, ◌<◌}
use native.Mathlib.Omega.{arith}
use lib.Dec.{ltb}
use lib.ListN.{length, get_or, set, length-set, get_or-eq_default}
use Rattle.numbers.specs.Numbers.{flag}
use Rattle.numbers.proofs.LeastLaws.{least}
use Rattle.quantiser.specs.Quantisers.{main_of}
use Rattle.cameras.specs.Entries.{no_entry, is_held, is_pair, holds_it, held_by, free_of, new_entry, entry_at, pair_in, free_in, has_entry, with_entry, given_back, after_lines, lines_with_entry, sum_of, holds_of, holds, takes_one, taken_by}
use Rattle.cameras.specs.declared.Entry.{Entry}
use Rattle.cameras.specs.declared.Camera.{Camera}
use Rattle.cameras.specs.declared.Camera.TheVariants.{One, Two}
use Rattle.cameras.proofs.EntryLaws.{each_map, all_before}

-- ---- a sum over the entries, one of which changes

pub sum_set : (f : Entry → ℕ) (l : List Entry) (i : ℕ) (e : Entry) → i < length l → sum_of f (set l i e) + f (entry_at l i) ≡ sum_of f l + f e
sum_set f [] i e h = absurd (omega arith)
sum_set f (x ∷ l) zero e h = omega arith
sum_set f (x ∷ l) (suc i) e h = let r = sum_set f l i e (omega arith) in omega (arith, r)

-- ---- a hold more, or less

abbrev flag_of : Camera → Entry → ℕ
flag_of c e = flag (holds_it c e)

-- both holds of an entry
abbrev both_of : Entry → ℕ
both_of e = flag_of One e + flag_of Two e

held_more : (c : Camera) (e : Entry) → both_of (held_by c e) ≡ both_of e + flag (not (holds_it c e))
held_more One e = go e.one
  where
    go : (b : Bool) → 1 + flag_of Two e ≡ (flag b + flag_of Two e) + flag (not b)
    go true = omega arith
    go false = omega arith
held_more Two e = go e.two
  where
    go : (b : Bool) → flag_of One e + 1 ≡ (flag_of One e + flag b) + flag (not b)
    go true = omega arith
    go false = omega arith

free_less : (c : Camera) (e : Entry) → both_of (free_of c e) + flag_of c e ≡ both_of e
free_less One e = omega arith
free_less Two e = omega arith

-- the holds of both cameras, entry by entry
holds_sum : (l : List Entry) → holds l ≡ sum_of both_of l
holds_sum [] = refl
holds_sum (e ∷ l) = let r = holds_sum l in omega (arith, r)

-- an entry that nobody holds
unheld_none : (e : Entry) → is_held e ≡ false → both_of e ≡ 0
unheld_none e h = go e.one e.two h
  where
    go : (a b : Bool) → a || b ≡ false → flag a + flag b ≡ 0
    go true b t = absurd (false≢true (sym t))
    go false true t = absurd (false≢true (sym t))
    go false false t = refl

-- ---- a line

module _ (c : Camera) (bits q : ℕ) (l : List Entry) where
  pub length_with : length (with_entry c bits q l) ≡ length l
  unfolding with_entry
  length_with = go (ltb (pair_in bits q l) 16) (ltb (free_in l) 16)
    where
      go : (a b : Bool) → length (cond a (set l (pair_in bits q l) (held_by c (entry_at l (pair_in bits q l)))) (cond b (set l (free_in l) (new_entry c bits q)) l)) ≡ length l
      go true b = length-set l (pair_in bits q l) _
      go false true = length-set l (free_in l) _
      go false false = refl

  module _ (size : length l ≡ 16) (has : has_entry bits q l ≡ true) where
    abbrev i : ℕ
    i = pair_in bits q l

    abbrev j : ℕ
    j = free_in l

    pair_low : i ≤ 16
    unfolding pair_in
    pair_low = (least 16 (λ n. is_pair bits q (entry_at l n)) 0).high

    -- the lowest that nobody holds is held by nobody
    free_unheld : j < 16 → is_held (entry_at l j) ≡ false
    unfolding free_in
    free_unheld h = not-true _ ((least 16 (λ n. not (is_held (entry_at l n))) 0).holds h)

    no_pair : 16 ≤ i → flag (not (holds_it c (entry_at l i))) ≡ 1
    no_pair h = rw (get_or-eq_default l no_entry {n = i} (omega (arith, size))) (one c)
      where
        one : (x : Camera) → flag (not (holds_it x no_entry)) ≡ 1
        one One = refl
        one Two = refl

    abbrev after : Bool → Bool → List Entry
    after a b = cond a (set l i (held_by c (entry_at l i))) (cond b (set l j (new_entry c bits q)) l)

    new_one : both_of (new_entry c bits q) ≡ 1
    new_one = held_more c (record { bits = bits; main = main_of bits q; one = false; two = false }) ∙ one c
      where
        one : (x : Camera) → 0 + flag (not (holds_it x (record { bits = bits; main = main_of bits q; one = false; two = false }))) ≡ 1
        one One = refl
        one Two = refl

    by_test : (a b : Bool) → ltb i 16 ≡ a → ltb j 16 ≡ b → a || b ≡ true → sum_of both_of (after a b) ≡ sum_of both_of l + flag (not (holds_it c (entry_at l i)))
    by_test true b t u h =
        let low : i < 16 = ltb-true i 16 t in
        omega (arith, sum_set both_of l i (held_by c (entry_at l i)) (omega (arith, low, size)), held_more c (entry_at l i))
    by_test false true t u h =
        let low : j < 16 = ltb-true j 16 u in
        omega (arith, sum_set both_of l j (new_entry c bits q) (omega (arith, low, size)), new_one, unheld_none (entry_at l j) (free_unheld low), no_pair (ltb-false i 16 t))
    by_test false false t u h = absurd (false≢true h)

    -- it adds a hold, unless its camera holds the pair already
    pub holds_with : holds (with_entry c bits q l) ≡ holds l + takes_one c bits q l
    unfolding with_entry takes_one has_entry
    holds_with = rw (holds_sum (with_entry c bits q l), holds_sum l) (by_test (ltb i 16) (ltb j 16) refl refl has)

-- ---- the lines of a block

module _ (c : Camera) (bits : ℕ) (bases : List ℕ) (l : List Entry) (size : length l ≡ 16) where
  pub length_after : (n : ℕ) → length (after_lines c bits bases l n) ≡ length l
  unfolding after_lines
  length_after zero = refl
  length_after (suc n) = length_with c bits (get_or bases n 0) (after_lines c bits bases l n) ∙ length_after n

  pub holds_after : (n : ℕ) → lines_with_entry c bits bases l n ≡ n → holds (after_lines c bits bases l n) ≡ holds l + taken_by c bits bases l n
  unfolding after_lines taken_by
  holds_after zero h = omega arith
  holds_after (suc n) h =
      let p = all_before c bits bases l n h in
      omega
      (arith, holds_after n p.0, holds_with c bits (get_or bases n 0) (after_lines c bits bases l n) (length_after n ∙ size) p.1)

-- ---- all of a camera's holds

given_sum : (c : Camera) (l : List Entry) → sum_of both_of (map (free_of c) l) + sum_of (flag_of c) l ≡ sum_of both_of l
given_sum c [] = refl
given_sum c (e ∷ l) = omega (arith, given_sum c l, free_less c e)

-- what a camera holds is what goes back
pub holds_given : (c : Camera) (l : List Entry) → length l ≡ 16 → holds (given_back c l) + holds_of c l ≡ holds l
holds_given c l size = rw (holds_sum (given_back c l), holds_sum l, each_map (free_of c) l size) (given_sum c l)
