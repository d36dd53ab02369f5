-- The entries after some lines, or after each was changed. Assumes nothing.
use borrow.Author.Tests.{ltb-true, lt-ltb, leb-true, eqb-true, eqb-false, eq-eqb, ne_eqb}
use mathlib.Core.Bool.{Bool, true, false, cond, ◌&&◌, false≢true}
use mathlib.Core.List.{List, [], ◌∷◌, map}
use mathlib.Core.Path.{◌≡◌, refl, sym, ap, ◌∙◌}
use Prim.Native.Nat.{ℕ, zero, suc, ◌+◌, ◌-◌, ◌≤◌, ◌<◌}
use native.Mathlib.Nat.{add-zero, add-suc}
use native.Mathlib.Numerals.{add-one}
use native.Mathlib.Omega.{arith}
use lib.Dec.{leb, ltb, eqb}
use lib.ListN.{length, get_or, set, length-set, length-map, get_or-eq_default}
use lib.Seq.{get_or-set_same, get_or-set_other, ext_get_or}
use Rattle.numbers.proofs.BoolLaws.{both}
use Rattle.numbers.proofs.LeastLaws.{least}
use Rattle.numbers.proofs.OrderLaws.{split, cond_le}
use Rattle.quantiser.specs.Quantisers.{quantiser_of, main_of}
use Rattle.quantiser.specs.declared.Quantiser.{Quantiser}
use Rattle.cameras.specs.Entries.{no_entry, is_held, is_pair, held_by, new_entry, entry_at, pair_in, free_in, has_entry, with_entry, mended_entry, each, mended, after_lines, lines_with_entry, Numbered, AllNumbered}
use Rattle.cameras.specs.declared.Entry.{Entry}
use Rattle.cameras.specs.declared.Camera.{Camera}
use Rattle.cameras.specs.declared.Camera.TheVariants.{One, Two}

-- ---- each entry

pub each_start : (f : Entry → Entry) (l : List Entry) → l ≡ each f 0 l
unfolding each
each_start f l = refl

pub each_more : (f : Entry → Entry) (l l' : List Entry) (i : ℕ) (e : Entry) → l' ≡ each f i l → e ≡ f (entry_at l' i) → set l' i e ≡ each f (i + 1) l
unfolding each
each_more f l l' i e h k = rw (k, h, add-one)

pub length_each : (f : Entry → Entry) (n : ℕ) (l : List Entry) → length (each f n l) ≡ length l
unfolding each
length_each f zero l = refl
length_each f (suc n) l = rw length-set (length_each f n l)

-- those further on are as they were
each_other : (f : Entry → Entry) (n : ℕ) (l : List Entry) (i : ℕ) → n ≤ i → entry_at (each f n l) i ≡ entry_at l i
unfolding each
each_other f zero l i h = refl
each_other f (suc n) l i h = get_or-set_other (each f n l) n i (f (entry_at (each f n l) n)) no_entry (λ e. absurd (omega arith)) ∙ each_other f n l i (omega arith)

pub each_at : (f : Entry → Entry) (n : ℕ) (l : List Entry) (i : ℕ) → i < n → i < length l → entry_at (each f n l) i ≡ f (entry_at l i)
unfolding each
each_at f zero l i h k = absurd (omega arith)
each_at f (suc n) l i h k =
    split n i
    (λ z.
    let e : i ≡ n = omega arith in
    rw e
    (get_or-set_same (each f n l) n (f (entry_at (each f n l) n)) no_entry (rw (length_each f n l, ← e) k) ∙ ap f (each_other f n l n (omega arith))))
    (λ z. get_or-set_other (each f n l) n i (f (entry_at (each f n l) n)) no_entry (λ e. absurd (omega arith)) ∙ each_at f n l i z k)

-- past the end there is none
pub each_past : (f : Entry → Entry) (n : ℕ) (l : List Entry) (i : ℕ) → length l ≤ i → entry_at (each f n l) i ≡ no_entry
each_past f n l i h = get_or-eq_default (each f n l) no_entry (rw (length_each f n l) h)

-- of 16 entries all are changed
map_at : (f : Entry → Entry) (l : List Entry) (i : ℕ) → i < length l → entry_at (map f l) i ≡ f (entry_at l i)
map_at f [] i h = absurd (omega arith)
map_at f (e ∷ l) zero h = refl
map_at f (e ∷ l) (suc i) h = map_at f l i (omega arith)

pub each_map : (f : Entry → Entry) (l : List Entry) → length l ≡ 16 → each f 16 l ≡ map f l
each_map f l size =
    ext_get_or no_entry (each f 16 l) (map f l) (length_each f 16 l ∙ sym (length-map l f))
    (λ i h.
    let low : i < length l = rw (length_each f 16 l) at h in
    each_at f 16 l i (omega (arith, low, size)) low ∙ sym (map_at f l i low))

-- ---- the entry of a line

module _ (c : Camera) (bits q : ℕ) (l : List Entry) where
  pub pair_taken : (i : ℕ) (e : Entry) → i ≡ pair_in bits q l → i < 16 → e ≡ held_by c (entry_at l i) → (has_entry bits q l ≡ true) × (set l i e ≡ with_entry c bits q l)
  unfolding has_entry with_entry
  pair_taken i e at low h = (rw (← at, lt-ltb i 16 low), rw (h, ← at, lt-ltb i 16 low))

  module _ (none : pair_in bits q l ≡ 16) where
    pub free_taken : (j : ℕ) (e : Entry) → j ≡ free_in l → j < 16 → e ≡ new_entry c bits q → (has_entry bits q l ≡ true) × (set l j e ≡ with_entry c bits q l)
    unfolding has_entry with_entry
    free_taken j e from low h = (rw (none, ← from, lt-ltb j 16 low), rw (h, none, ← from, lt-ltb j 16 low))

    pub none_taken : free_in l ≡ 16 → has_entry bits q l ≡ false
    unfolding has_entry
    none_taken held = rw (none, held)

-- ---- lines

module _ (c : Camera) (bits : ℕ) (bases : List ℕ) (l : List Entry) where
  pub took_none : l ≡ after_lines c bits bases l 0
  unfolding after_lines
  took_none = refl

  few : (n : ℕ) → lines_with_entry c bits bases l n ≤ n
  unfolding lines_with_entry
  few zero = omega arith
  few (suc n) =
      let m = lines_with_entry c bits bases l n in
      cond_le (suc n) (eqb m n && has_entry bits (get_or bases n 0) (after_lines c bits bases l n)) (suc n) m (omega arith) (omega (arith, few n))

  pub lines_none : lines_with_entry c bits bases l 0 ≡ 0
  unfolding lines_with_entry
  lines_none = refl

  lines_step : (n : ℕ) (b : Bool) → lines_with_entry c bits bases l n ≡ n → has_entry bits (get_or bases n 0) (after_lines c bits bases l n) ≡ b
      → lines_with_entry c bits bases l (suc n) ≡ cond b (suc n) n
  unfolding lines_with_entry
  lines_step n b h k = rw (h, k, eq-eqb n n refl)

  -- where the first n + 1 lines have an entry, the first n have, and line n has
  pub all_before : (n : ℕ) → lines_with_entry c bits bases l (suc n) ≡ suc n
      → (lines_with_entry c bits bases l n ≡ n) × (has_entry bits (get_or bases n 0) (after_lines c bits bases l n) ≡ true)
  unfolding lines_with_entry
  all_before n h = go (eqb m n) (has_entry bits (get_or bases n 0) (after_lines c bits bases l n)) refl refl h
    where
      m : ℕ
      m = lines_with_entry c bits bases l n

      go : (a b : Bool) → eqb m n ≡ a → has_entry bits (get_or bases n 0) (after_lines c bits bases l n) ≡ b → cond (a && b) (suc n) m ≡ suc n → (m ≡ n) × (b ≡ true)
      go true true t u k = (eqb-true m n t, refl)
      go true false t u k = absurd (omega (arith, eqb-true m n t, k))
      go false b t u k = absurd (omega (arith, few n, k))

  -- so have any fewer
  pub all_below_lem : (count t : ℕ) → t ≤ lines_with_entry c bits bases l count → lines_with_entry c bits bases l t ≡ t
  unfolding lines_with_entry
  all_below_lem zero t h = let e : t ≡ 0 = omega (arith, h) in rw e refl
  all_below_lem (suc n) t h =
      go (eqb (lines_with_entry c bits bases l n) n && has_entry bits (get_or bases n 0) (after_lines c bits bases l n)) refl (all_below_lem n t) h
    where
      go : (b : Bool) → eqb (lines_with_entry c bits bases l n) n && has_entry bits (get_or bases n 0) (after_lines c bits bases l n) ≡ b
          → (t ≤ lines_with_entry c bits bases l n → lines_with_entry c bits bases l t ≡ t)
          → t ≤ cond b (suc n) (lines_with_entry c bits bases l n) → lines_with_entry c bits bases l t ≡ t
      go false e below k = below k
      go true e below k =
          split (suc n) t
          (λ z. let f : t ≡ suc n = omega arith in rw f (rw e))
          (λ z.
          let s = both (eqb (lines_with_entry c bits bases l n) n) (has_entry bits (get_or bases n 0) (after_lines c bits bases l n)) e in
          let q = eqb-true (lines_with_entry c bits bases l n) n s.0 in
          below (omega (arith, z, q)))

  -- a line without an entry is the last that is looked at
  stays : (n m k : ℕ) → m < n → lines_with_entry c bits bases l n ≡ m → lines_with_entry c bits bases l (n + k) ≡ m
  unfolding lines_with_entry
  stays n m zero lt h = rw add-zero h
  stays n m (suc k) lt h =
      let e = stays n m k lt h in
      rw (add-suc, e, ne_eqb m (n + k) (λ z. absurd (omega arith)))

  module _ (n count base : ℕ) (before : List Entry) (ok : Bool) (is : before ≡ after_lines c bits bases l n) (all : lines_with_entry c bits bases l n ≡ n)
      (at : base ≡ get_or bases n 0) (low : n < count) (has : ok ≡ has_entry bits base before) where
    has_entry_lem : has_entry bits (get_or bases n 0) (after_lines c bits bases l n) ≡ ok
    has_entry_lem = rw (← is, ← at) (sym has)

    -- with one more line
    pub line_taken : (after : List Entry) → after ≡ with_entry c bits base before → ok ≡ true
        → (n + 1 ≤ count) × (after ≡ after_lines c bits bases l (n + 1)) × (lines_with_entry c bits bases l (n + 1) ≡ n + 1)
    unfolding after_lines
    line_taken after k t = (omega arith, rw (add-one, k, is, at), rw add-one (lines_step n true all (has_entry_lem ∙ t)))

    -- or there is none
    pub line_left : ok ≡ false → n ≡ lines_with_entry c bits bases l count
    line_left t =
        let e : count ≡ suc n + (count - suc n) = omega arith in
        sym (rw e (stays (suc n) n (count - suc n) (omega arith) (lines_step n false all (has_entry_lem ∙ t))))

-- ---- the quantiser of a pair

module _ (l : List Entry) (bits q i : ℕ) (ok : AllNumbered l) (at : i ≡ pair_in bits q l) (low : i < 16) where
  is_pair_lem : is_pair bits q (entry_at l i) ≡ true
  unfolding pair_in
  is_pair_lem = rw at ((least 16 (λ j. is_pair bits q (entry_at l j)) 0).holds (rw at at low))

  pub pair_main : (entry_at l i).main ≡ main_of bits q
  pair_main =
      let a = both (is_held (entry_at l i) && eqb (entry_at l i).bits bits) (eqb (entry_at l i).main.base q) is_pair_lem in
      let b = both (is_held (entry_at l i)) (eqb (entry_at l i).bits bits) a.0 in
      let n = ok i low b.0 in
      rw (eqb-true (entry_at l i).bits bits b.1, eqb-true (entry_at l i).main.base q a.1) at n.main

-- ---- what a line takes has the numbers of its pair

held_numbered : (c : Camera) (e : Entry) → Numbered e → Numbered (held_by c e)
held_numbered One e n = record { low = n.low; high = n.high; base = n.base; main = n.main }
held_numbered Two e n = record { low = n.low; high = n.high; base = n.base; main = n.main }

pub main_base : (bits q : ℕ) → (main_of bits q).base ≡ q
unfolding quantiser_of
main_base bits q = refl

new_numbered : (c : Camera) (bits q : ℕ) → 12 ≤ bits → bits ≤ 16 → q < 256 → Numbered (new_entry c bits q)
new_numbered c bits q low high base =
    held_numbered c (record { bits = bits; main = main_of bits q; one = false; two = false })
    (record { low = low; high = high; base = rw (main_base bits q) base; main = sym (ap (main_of bits) (main_base bits q)) })

set_numbered : (l : List Entry) (j : ℕ) (e : Entry) → AllNumbered l → Numbered e → AllNumbered (set l j e)
set_numbered l j e ok n i low h = go (eqb i j) refl
  where
    go : (b : Bool) → eqb i j ≡ b → Numbered (entry_at (set l j e) i)
    go true t =
        let f : i ≡ j = eqb-true i j t in
        split (length l) j
        (λ z.
        absurd
        (false≢true
        (sym (ap is_held (get_or-eq_default (set l j e) no_entry {n = i} (rw (length-set l j e, f) z))) ∙ h)))
        (λ z. rw (f, get_or-set_same l j e no_entry z) n)
    go false t =
        let f = get_or-set_other l j i e no_entry (eqb-false i j t) in
        rw f (ok i low (rw f at h))

pub numbered_with : (c : Camera) (bits q : ℕ) (l : List Entry) → 12 ≤ bits → bits ≤ 16 → q < 256 → AllNumbered l → AllNumbered (with_entry c bits q l)
unfolding with_entry pair_in
numbered_with c bits q l low high base ok = go (ltb (pair_in bits q l) 16) (ltb (free_in l) 16) refl
  where
    go : (a b : Bool) → ltb (pair_in bits q l) 16 ≡ a
        → AllNumbered (cond a (set l (pair_in bits q l) (held_by c (entry_at l (pair_in bits q l)))) (cond b (set l (free_in l) (new_entry c bits q)) l))
    go true b t =
        let k = ltb-true (pair_in bits q l) 16 t in
        let p = (least 16 (λ j. is_pair bits q (entry_at l j)) 0).holds k in
        let h = both (is_held (entry_at l (pair_in bits q l)) && eqb (entry_at l (pair_in bits q l)).bits bits) (eqb (entry_at l (pair_in bits q l)).main.base q) p in
        let g = both (is_held (entry_at l (pair_in bits q l))) (eqb (entry_at l (pair_in bits q l)).bits bits) h.0 in
        set_numbered l (pair_in bits q l) (held_by c (entry_at l (pair_in bits q l))) ok (held_numbered c (entry_at l (pair_in bits q l)) (ok (pair_in bits q l) k g.0))
    go false true t = set_numbered l (free_in l) (new_entry c bits q) ok (new_numbered c bits q low high base)
    go false false t = ok

-- ---- mended entries

entry_numbered : (e : Entry) → is_held (mended_entry e) ≡ true → Numbered (mended_entry e)
unfolding quantiser_of
entry_numbered e = go (is_held e) (leb 12 e.bits && leb e.bits 16 && ltb e.main.base 256) refl refl
  where
    mend : Bool → Bool → Entry
    mend b g = cond b (cond g (record { bits = e.bits; main = main_of e.bits e.main.base; one = e.one; two = e.two }) no_entry) e

    go : (b g : Bool) → is_held e ≡ b → leb 12 e.bits && leb e.bits 16 && ltb e.main.base 256 ≡ g → is_held (mend b g) ≡ true → Numbered (mend b g)
    go true true s t h =
        let u = both (leb 12 e.bits && leb e.bits 16) (ltb e.main.base 256) t in
        let v = both (leb 12 e.bits) (leb e.bits 16) u.0 in
        record { low = leb-true _ _ v.0; high = leb-true _ _ v.1; base = ltb-true _ _ u.1; main = refl }
    go true false s t h = absurd (false≢true h)
    go false g s t h = absurd (false≢true (sym s ∙ h))

-- by the two tests
pub mend_unheld : (e : Entry) → is_held e ≡ false → e ≡ mended_entry e
mend_unheld e h = rw h

pub mend_good : (e : Entry) (m : Quantiser) → is_held e ≡ true → leb 12 e.bits && leb e.bits 16 && ltb e.main.base 256 ≡ true → m ≡ main_of e.bits e.main.base
    → record { bits = e.bits; main = m; one = e.one; two = e.two } ≡ mended_entry e
mend_good e m h t k = rw (h, t, k)

pub mend_bad : (e z : Entry) → is_held e ≡ true → leb 12 e.bits && leb e.bits 16 && ltb e.main.base 256 ≡ false → z ≡ no_entry → z ≡ mended_entry e
mend_bad e z h t k = rw (h, t, k)

pub mended_numbered : (l : List Entry) → AllNumbered (mended l)
mended_numbered l i low h =
    split (length l) i
    (λ k. absurd (false≢true (sym (ap is_held (each_past mended_entry 16 l i k)) ∙ h)))
    (λ k. let e = each_at mended_entry 16 l i low k in rw e (entry_numbered (entry_at l i) (rw e at h)))
