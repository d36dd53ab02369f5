-- Entries that only these functions wrote keep their form, and mending leaves them as they are. Assumes nothing.
use borrow.Author.Tests.{ltb-true, ltb-false, eqb-true, eqb-false, eq-eqb, le-leb, lt-ltb}
use mathlib.Core.Bool.{Bool, true, false, cond, ◌&&◌, ◌||◌, false≢true}
use mathlib.Core.List.{List}
use mathlib.Core.Logic.{◌≢◌}
use mathlib.Core.Path.{◌≡◌, refl, sym, ap, ◌∙◌}
use Prim.Native.Nat.{ℕ, zero, suc, ◌≤◌, ◌<◌}
use native.Mathlib.Omega.{arith}
use lib.Dec.{leb, ltb, eqb}
use lib.ListN.{length, get_or, set, length-set, length-replicate, get_or-replicate}
use lib.Seq.{get_or-set_same, get_or-set_other, ext_get_or}
use Rattle.numbers.proofs.BoolLaws.{both}
use Rattle.numbers.proofs.LeastLaws.{least}
use Rattle.quantiser.specs.Quantisers.{main_of}
use Rattle.quantiser.specs.declared.Quantiser.{Quantiser}
use Rattle.cameras.specs.Entries.{no_entry, no_entries, is_held, is_pair, held_by, free_of, new_entry, entry_at, pair_in, free_in, with_entry, given_back, after_lines, mended_entry, mended, Numbered, Sound}
use Rattle.cameras.specs.declared.Entry.{Entry}
use Rattle.cameras.specs.declared.Camera.{Camera}
use Rattle.cameras.specs.declared.Camera.TheVariants.{One, Two}
use Rattle.cameras.proofs.EntryLaws.{each_at, length_each, main_base}

by_equal : {X : Type 0} (a b : ℕ) → (a ≡ b → X) → (a ≢ b → X) → X
by_equal a b f g = by_test (eqb a b) (λ e. f (eqb-true a b e)) (λ e. g (eqb-false a b e))
  where
    by_test : {X : Type 0} (t : Bool) → (t ≡ true → X) → (t ≡ false → X) → X
    by_test true f g = f refl
    by_test false f g = g refl

-- ---- fewer holds

-- an entry with the numbers of another, which is held if it is
pub record LessEntry (e e' : Entry) : Type 0 where
  pub bits : e'.bits ≡ e.bits
  pub main : e'.main ≡ e.main
  pub held : is_held e' ≡ true → is_held e ≡ true

same_entry : (e : Entry) → LessEntry e e
same_entry e = record { bits = refl; main = refl; held = λ h. h }

-- of a pair: its holder, its depth and its base
pair_of : (bits q : ℕ) (e : Entry) → is_pair bits q e ≡ true → (is_held e ≡ true) × (e.bits ≡ bits) × (e.main.base ≡ q)
pair_of bits q e h =
    let a = both (is_held e && eqb e.bits bits) (eqb e.main.base q) h in
    let b = both (is_held e) (eqb e.bits bits) a.0 in
    (b.0, eqb-true e.bits bits b.1, eqb-true e.main.base q a.1)

of_pair : (bits q : ℕ) (e : Entry) → is_held e ≡ true → e.bits ≡ bits → e.main.base ≡ q → is_pair bits q e ≡ true
of_pair bits q e h b m = rw (h, eq-eqb e.bits bits b, eq-eqb e.main.base q m)

pub sound_less : (l l' : List Entry) → Sound l → length l' ≡ length l → ((i : ℕ) → i < 16 → LessEntry (entry_at l i) (entry_at l' i)) → Sound l'
sound_less l l' s size less =
    record {
      size = size ∙ s.size;
      numbered = λ i low h.
          let e = less i low in
          let n = s.numbered i low (e.held h) in
          record { low = rw e.bits n.low; high = rw e.bits n.high; base = rw e.main n.base; main = rw (e.bits, e.main) n.main };
      apart = λ i j li lj h p.
          let a = less i li in
          let b = less j lj in
          let q = pair_of (entry_at l' j).bits (entry_at l' j).main.base (entry_at l' i) p in
          s.apart i j li lj (b.held h)
          (of_pair (entry_at l j).bits (entry_at l j).main.base (entry_at l i) (a.held q.0) (sym a.bits ∙ q.1 ∙ b.bits)
          (sym (ap (λ (m : Quantiser). m.base) a.main) ∙ q.2 ∙ ap (λ (m : Quantiser). m.base) b.main));
    }

-- ---- none held

pub sound_none : Sound no_entries
sound_none =
    record {
      size = length-replicate 16 no_entry;
      numbered = λ i low h. absurd (false≢true (sym (ap is_held (get_or-replicate 16 i no_entry no_entry low)) ∙ h));
      apart = λ i j li lj h p. absurd (false≢true (sym (ap is_held (get_or-replicate 16 j no_entry no_entry lj)) ∙ h));
    }

-- ---- given back

free_entry : (c : Camera) (e : Entry) → LessEntry e (free_of c e)
free_entry One e = record { bits = refl; main = refl; held = λ h. second e.one e.two h }
  where
    second : (a b : Bool) → b ≡ true → a || b ≡ true
    second true b h = refl
    second false b h = h
free_entry Two e = record { bits = refl; main = refl; held = λ h. first e.one e.two h }
  where
    first : (a b : Bool) → a || false ≡ true → a || b ≡ true
    first true b h = refl
    first false b h = absurd (false≢true h)

pub sound_given : (c : Camera) (l : List Entry) → Sound l → Sound (given_back c l)
sound_given c l s =
    sound_less l (given_back c l) s (length_each (free_of c) 16 l)
    (λ i low. rw (each_at (free_of c) 16 l i low (omega (arith, low, s.size))) (free_entry c (entry_at l i)))

-- ---- a line takes its entry

held_entry : (c : Camera) (e : Entry) → is_held e ≡ true → LessEntry e (held_by c e)
held_entry One e h = record { bits = refl; main = refl; held = λ k. h }
held_entry Two e h = record { bits = refl; main = refl; held = λ k. h }

new_held : (c : Camera) (bits q : ℕ) → is_held (new_entry c bits q) ≡ true
new_held One bits q = refl
new_held Two bits q = refl

new_pair : (c : Camera) (bits q : ℕ) → ((new_entry c bits q).bits ≡ bits) × ((new_entry c bits q).main ≡ main_of bits q)
new_pair One bits q = (refl, refl)
new_pair Two bits q = (refl, refl)

module _ (c : Camera) (bits q : ℕ) (l : List Entry) (s : Sound l) where
  abbrev i : ℕ
  i = pair_in bits q l

  abbrev j : ℕ
  j = free_in l

  -- it shares one that is in use
  sound_shared : i < 16 → Sound (set l i (held_by c (entry_at l i)))
  unfolding pair_in
  sound_shared low =
      sound_less l (set l i (held_by c (entry_at l i))) s (length-set l i _)
      (λ n ln.
      by_equal n i
      (λ e.
      rw (e, get_or-set_same l i (held_by c (entry_at l i)) no_entry (omega (arith, low, s.size)))
      (held_entry c (entry_at l i) (pair_of bits q (entry_at l i) ((least 16 (λ m. is_pair bits q (entry_at l m)) 0).holds low)).0))
      (λ ne. rw (get_or-set_other l i n (held_by c (entry_at l i)) no_entry ne) (same_entry (entry_at l n))))

  -- or takes one that nobody holds, where none is in use for its pair
  module _ (high : 16 ≤ i) (low : j < 16) (b-low : 12 ≤ bits) (b-high : bits ≤ 16) (q-low : q < 256) where
    abbrev e : Entry
    e = new_entry c bits q

    abbrev new : List Entry
    new = set l j e

    at_new : entry_at new j ≡ e
    at_new = get_or-set_same l j e no_entry (omega (arith, low, s.size))

    at_other : (n : ℕ) → n ≢ j → entry_at new n ≡ entry_at l n
    at_other n ne = get_or-set_other l j n e no_entry ne

    new_base : e.main.base ≡ q
    new_base = ap (λ (m : Quantiser). m.base) (new_pair c bits q).1 ∙ main_base bits q

    -- no entry was in use for the pair
    no_other : (n : ℕ) → n < 16 → is_pair bits q (entry_at l n) ≡ true → ⊥
    unfolding pair_in
    no_other n ln p =
        false≢true (sym ((least 16 (λ m. is_pair bits q (entry_at l m)) 0).before n (omega arith) (omega (arith, ln, high))) ∙ p)

    new_numbered : Numbered e
    new_numbered =
        record {
          low = rw (new_pair c bits q).0 b-low;
          high = rw (new_pair c bits q).0 b-high;
          base = rw new_base q-low;
          main = (new_pair c bits q).1 ∙ rw ((new_pair c bits q).0, new_base);
        }

    -- an entry that has the new one's pair is in use for it
    of_new : (n : ℕ) → is_pair (entry_at l n).bits (entry_at l n).main.base e ≡ true → is_held (entry_at l n) ≡ true → is_pair bits q (entry_at l n) ≡ true
    of_new n p h =
        let t = pair_of (entry_at l n).bits (entry_at l n).main.base e p in
        of_pair bits q (entry_at l n) h (sym t.1 ∙ (new_pair c bits q).0) (sym t.2 ∙ new_base)

    sound_new : Sound new
    sound_new =
        record {
          size = length-set l j e ∙ s.size;
          numbered = λ n ln h.
              by_equal n j
              (λ z. rw (z, at_new) new_numbered)
              (λ z. rw (at_other n z) (s.numbered n ln (rw (at_other n z) at h)));
          apart = λ n m ln lm h p.
              by_equal n j
              (λ z.
              by_equal m j
              (λ y. z ∙ sym y)
              (λ y. absurd (no_other m lm (of_new m (rw (z, at_new, at_other m y) at p) (rw (at_other m y) at h)))))
              (λ z.
              by_equal m j
              (λ y. absurd (no_other n ln (rw (y, at_new, at_other n z, (new_pair c bits q).0, new_base) at p)))
              (λ y. s.apart n m ln lm (rw (at_other m y) at h) (rw (at_other n z, at_other m y) at p)));
        }

  pub sound_with : 12 ≤ bits → bits ≤ 16 → q < 256 → Sound (with_entry c bits q l)
  unfolding with_entry
  sound_with b-low b-high q-low = go (ltb i 16) (ltb j 16) refl refl
    where
      go : (a b : Bool) → ltb i 16 ≡ a → ltb j 16 ≡ b → Sound (cond a (set l i (held_by c (entry_at l i))) (cond b (set l j (new_entry c bits q)) l))
      go true b t u = sound_shared (ltb-true i 16 t)
      go false true t u = sound_new (ltb-false i 16 t) (ltb-true j 16 u) b-low b-high q-low
      go false false t u = s

-- the lines of a block
pub sound_after : (c : Camera) (bits : ℕ) (bases : List ℕ) (l : List Entry) → 12 ≤ bits → bits ≤ 16 → ((n : ℕ) → get_or bases n 0 < 256) → Sound l
    → (n : ℕ) → Sound (after_lines c bits bases l n)
unfolding after_lines
sound_after c bits bases l low high ok s zero = s
sound_after c bits bases l low high ok s (suc n) =
    sound_with c bits (get_or bases n 0) (after_lines c bits bases l n) (sound_after c bits bases l low high ok s n) low high (ok n)

-- ---- mending

mend_numbered : (e : Entry) → (is_held e ≡ true → Numbered e) → mended_entry e ≡ e
mend_numbered e n = go (is_held e) refl
  where
    go : (b : Bool) → is_held e ≡ b → cond b (cond (leb 12 e.bits && leb e.bits 16 && ltb e.main.base 256) (record { bits = e.bits; main = main_of e.bits e.main.base; one = e.one; two = e.two }) no_entry) e ≡ e
    go true t =
        let m = n t in
        rw (le-leb _ _ m.low, le-leb _ _ m.high, lt-ltb _ _ m.base, ← m.main)
    go false t = refl

pub mended_sound : (l : List Entry) → Sound l → mended l ≡ l
mended_sound l s =
    ext_get_or no_entry (mended l) l (length_each mended_entry 16 l)
    (λ i h.
    let low : i < length l = rw (length_each mended_entry 16 l) at h in
    let k : i < 16 = omega (arith, low, s.size) in
    each_at mended_entry 16 l i k low ∙ mend_numbered (entry_at l i) (s.numbered i k))
