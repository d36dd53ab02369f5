-- The statement holds. Assumes nothing.
use borrow.Author.Tests.{ltb-true, ltb-false, leb-true, not-false, lt-ltb, le-ltb, le-leb, eqb-true, eqb-false}
use mathlib.Core.Bool.{Bool, true, false, cond, not, ◌&&◌, ◌||◌, false≢true}
use mathlib.Core.List.{List}
use mathlib.Core.Path.{◌≡◌, refl, sym, ap, ◌∙◌, subst}
use Prim.Native.Nat.{ℕ, zero, suc, ◌+◌, ◌≤◌, ◌<◌}
use native.Mathlib.Omega.{arith}
use lib.Dec.{ltb, leb, eqb}
use lib.ListN.{get_or}
use Rattle.numbers.proofs.BoolLaws.{both}
use Rattle.numbers.proofs.LeastLaws.{Least, least}
use Rattle.numbers.proofs.OrderLaws.{split}
use Rattle.stream.specs.declared.header.FujiHeader.{FujiHeader}
use Rattle.stream.specs.declared.header.Refusal.TheVariants.{Truncated, NoEntry}
use Rattle.image_region.specs.Regions.{first_block, line_count}
use Rattle.image_region.specs.declared.Rect.{Rect}
use Rattle.cameras.specs.Entries.{is_held, is_pair, entry_at, pair_in, free_in, has_entry, lines_with_entry, after_lines, handed_back, mended}
use Rattle.cameras.specs.declared.Camera.{Camera}
use Rattle.cameras.specs.declared.Entry.{Entry}
use Rattle.cameras.proofs.EntryLaws.{all_before, all_below_lem}
use Rattle.cameras.proofs.SoundLaws.{mended_sound}
use Rattle.admission.specs.Beginnings.{region_begins}
use Rattle.read_block.specs.Images.{bases_in, read_in, or_else, answer_of, Left}
use Rattle.read_block.specs.Words.{answer_words}
use Rattle.read_block.specs.Lent.{Buffers}
use Rattle.read_block.specs.Sharing.{entry_lines, stops_in, block_count, entries_after, blocks_before, is_out, out_block, out_line, shared_answer, is_shared, SharedDecoding, is_refused}
use Rattle.read_block.specs.Sharing.{call_entries, LeftBuffers, LeftShared}
use Rattle.theorem_cameras.specs.TwoCameras.{call, call_answer, after, NoEntryAt, FirstWithout, TwoCameras}
use Rattle.theorem_cameras.proofs.HistoryLaws.{sound_all, holds_all, none_sound, none_holds}
use Rattle.std.specs.Prelude.{Err, None, Ok, Option, Result, Some}
use Rattle.stream.specs.declared.header.Refusal.{Refusal}

-- ---- not refused by 23

module _ (c : Camera) (d : List ℕ) (h : FujiHeader) (r : Rect) (l : List Entry) where
  answer_out : is_out c d h r l ≡ true → shared_answer c d h r l ≡ Err (NoEntry (out_block c d h r l) (out_line c d h r l))
  unfolding shared_answer
  answer_out t = rw t

  answer_in_lem : is_out c d h r l ≡ false → shared_answer c d h r l ≡ answer_of d h r (block_count r)
  unfolding shared_answer
  answer_in_lem t = rw t

  left_alone : (tile : List ℕ) (before after : Buffers) (answer : Result Unit Refusal) → SharedDecoding c d h r tile l before after answer
      → ((b n : ℕ) → answer ≡ Err (NoEntry b n) → ⊥) → Left d r tile (Ok (Some h)) before after answer
  unfolding is_shared
  left_alone tile before after answer p not23 = go (is_out c d h r l) refl
    where
      go : (t : Bool) → is_out c d h r l ≡ t → Left d r tile (Ok (Some h)) before after answer
      go true t = absurd (not23 _ _ (p.answered ∙ answer_out t))
      go false t =
          record {
            answered = p.answered ∙ answer_in_lem t;
            pictured = record { kept = p.pictured.kept; entries = λ i. p.pictured.entries i ∙ rw t };
            lines = p.lines;
            records = p.records;
          }

own : (c : Camera) (d : List ℕ) (r : Rect) (tile : List ℕ) (begins : Result (Option FujiHeader) Refusal) (l l' : List Entry) (before after : Buffers) (answer : Result Unit Refusal)
    → LeftShared c d r tile begins l before after answer l' → ((b n : ℕ) → answer ≡ Err (NoEntry b n) → ⊥) → Left d r tile begins before after answer
own c d r tile (Err x) l l' before after answer p not23 = p.0
own c d r tile (Ok None) l l' before after answer p not23 = p.0
own c d r tile (Ok (Some h)) l l' before after answer p not23 = left_alone c d h r (mended l) tile before after answer p.0 not23

-- ---- what stands in the history

answered : (c : Camera) (d : List ℕ) (r : Rect) (tile : List ℕ) (begins : Result (Option FujiHeader) Refusal) (l : List Entry) (before after : Buffers) (answer : Result Unit Refusal)
    → LeftBuffers c d r tile begins l before after answer → answer ≡ call_answer c d r begins l
answered c d r tile (Err x) l before after answer p = p.0
answered c d r tile (Ok None) l before after answer p = p.0
answered c d r tile (Ok (Some h)) l before after answer p = p.answered

told : (c : Camera) (d : List ℕ) (r : Rect) (tile : List ℕ) (i s n : ℕ) (l l' : List Entry) (before after' : Buffers) (answer : Result Unit Refusal)
    → LeftShared c d r tile (region_begins d r i s n) l before after' answer l' → l' ≡ after (call c d r i s n) l
told c d r tile i s n l l' before after' answer p =
    p.1
    ∙ ap (λ (a : Result Unit Refusal). handed_back c (is_refused a) (call_entries c d r (region_begins d r i s n) l))
    (answered c d r tile (region_begins d r i s n) l before after' answer p.0)

-- ---- a line without an entry

neither : (a b : Bool) → a || b ≡ false → (a ≡ false) × (b ≡ false)
neither true b t = absurd (false≢true (sym t))
neither false b t = (refl, t)

no_entry_lem : (bits q : ℕ) (l : List Entry) → has_entry bits q l ≡ false
    → ((i : ℕ) → i < 16 → is_held (entry_at l i) ≡ true) × ((i : ℕ) → i < 16 → is_pair bits q (entry_at l i) ≡ false)
unfolding has_entry pair_in free_in
no_entry_lem bits q l t =
    let n = neither (ltb (pair_in bits q l) 16) (ltb (free_in l) 16) t in
    let p = ltb-false (pair_in bits q l) 16 n.0 in
    let f = ltb-false (free_in l) 16 n.1 in (
      λ i low. not-false _ ((least 16 (λ j. not (is_held (entry_at l j))) 0).before i (omega arith) (omega (arith, low, f))),
      λ i low. (least 16 (λ j. is_pair bits q (entry_at l j)) 0).before i (omega arith) (omega (arith, low, p)),
    )

-- the first line that has none
module _ (c : Camera) (bits : ℕ) (bases : List ℕ) (l : List Entry) where
  first_without : (count : ℕ) → lines_with_entry c bits bases l count < count
      → has_entry bits (get_or bases (lines_with_entry c bits bases l count) 0) (after_lines c bits bases l (lines_with_entry c bits bases l count)) ≡ false
  unfolding lines_with_entry
  first_without zero low = absurd (omega arith)
  first_without (suc n) low =
      go (eqb (lines_with_entry c bits bases l n) n) (has_entry bits (get_or bases n 0) (after_lines c bits bases l n)) refl refl (first_without n) low
    where
      m : ℕ
      m = lines_with_entry c bits bases l n

      has : ℕ → Bool
      has k = has_entry bits (get_or bases k 0) (after_lines c bits bases l k)

      go : (a b : Bool) → eqb m n ≡ a → has n ≡ b → (m < n → has m ≡ false) → cond (a && b) (suc n) m < suc n → has (cond (a && b) (suc n) m) ≡ false
      go true true t u f k = absurd (omega arith)
      go true false t u f k = rw (eqb-true m n t) u
      go false b t u f k = f (different (eqb-false m n t) k)
        where
          different : (m ≡ n → ⊥) → m < suc n → m < n
          different ne k = omega (arith, ne, k)

-- and where all are held, and none for the pair, there is none
has_none : (bits q : ℕ) (l : List Entry) → ((i : ℕ) → i < 16 → is_held (entry_at l i) ≡ true) → ((i : ℕ) → i < 16 → is_pair bits q (entry_at l i) ≡ false)
    → has_entry bits q l ≡ false
unfolding has_entry pair_in free_in
has_none bits q l held other =
    let p : 16 ≤ pair_in bits q l =
    split 16 (pair_in bits q l) (λ y. y)
    (λ y. absurd (false≢true (sym (other (pair_in bits q l) y) ∙ (least 16 (λ j. is_pair bits q (entry_at l j)) 0).holds y))) in
    let f : 16 ≤ free_in l =
    split 16 (free_in l) (λ y. y)
    (λ y. absurd (false≢true (ap not (sym (held (free_in l) y)) ∙ (least 16 (λ j. not (is_held (entry_at l j))) 0).holds y))) in
    rw (le-ltb (pair_in bits q l) 16 p, le-ltb (free_in l) 16 f)

-- ---- what 23 names

abbrev number_of : Result Unit Refusal → ℕ
number_of a = get_or (answer_words a) 0 0

-- the answer of `decode_region` is no refusal, or 14
answer_low : (d : List ℕ) (h : FujiHeader) (r : Rect) (n : ℕ) → number_of (answer_of d h r n) ≤ 14
unfolding answer_of
answer_low d h r zero = omega arith
answer_low d h r (suc n) =
    let m : ℕ = read_in d h r (first_block r + n) in
    go (answer_of d h r n) (answer_low d h r n) m (ltb m (line_count r))
  where
    go : (a : Result Unit Refusal) → number_of a ≤ 14 → (m : ℕ) (t : Bool) → number_of (or_else a (cond t (Err (Truncated (first_block r + n) m)) (Ok tt))) ≤ 14
    go (Ok tt) low m true = omega arith
    go (Ok tt) low m false = omega arith
    go (Err x) low m t = low

module _ (c : Camera) (d : List ℕ) (h : FujiHeader) (r : Rect) (l : List Entry) where
  abbrev test : ℕ → Bool
  test n = stops_in c d h r (first_block r + n) (entries_after c d h r l n)

  first_stop : Least (block_count r) test 0 (blocks_before c d h r l)
  unfolding blocks_before
  first_stop = least (block_count r) test 0

  out_low : is_out c d h r l ≡ true → blocks_before c d h r l < block_count r
  unfolding is_out
  out_low t = ltb-true _ _ t

  low_out : blocks_before c d h r l < block_count r → is_out c d h r l ≡ true
  unfolding is_out
  low_out t = lt-ltb _ _ t

  line_is : out_line c d h r l ≡ entry_lines c d h r (out_block c d h r l) (entries_after c d h r l (blocks_before c d h r l))
  unfolding out_line
  line_is = refl

  -- where a block stops
  stop_there : (k : ℕ) → test k ≡ true → NoEntryAt c d h r l k (entry_lines c d h r (first_block r + k) (entries_after c d h r l k))
  unfolding stops_in
  stop_there k t =
      let m = entries_after c d h r l k in
      let e = entry_lines c d h r (first_block r + k) m in
      let s = both (ltb e (line_count r)) (leb e (read_in d h r (first_block r + k))) t in
      let n = no_entry_lem h.bits _ _ (first_without c h.bits (bases_in d (first_block r + k)) m (line_count r) (ltb-true _ _ s.0)) in
      record { wanted = ltb-true _ _ s.0; read = leb-true _ _ s.1; held = n.0; other = n.1 }

  -- a line without an entry: the block stops there, or before
  lines_low : (k n : ℕ) → NoEntryAt c d h r l k n → entry_lines c d h r (first_block r + k) (entries_after c d h r l k) ≤ n
  lines_low k n p =
      let bases = bases_in d (first_block r + k) in
      let m = entries_after c d h r l k in
      split (suc n) (entry_lines c d h r (first_block r + k) m)
      (λ y.
      absurd
      (false≢true
      (sym (has_none h.bits (get_or bases n 0) (after_lines c h.bits bases m n) p.held p.other)
      ∙ (all_before c h.bits bases m n (all_below_lem c h.bits bases m (line_count r) (suc n) y)).1)))
      (λ y. omega (arith, y))

  stops_at : (k n : ℕ) → NoEntryAt c d h r l k n → test k ≡ true
  unfolding stops_in
  stops_at k n p =
      let e = lines_low k n p in
      rw (
        lt-ltb (entry_lines c d h r (first_block r + k) (entries_after c d h r l k)) (line_count r) (omega (arith, e, p.wanted)),
        le-leb (entry_lines c d h r (first_block r + k) (entries_after c d h r l k)) (read_in d h r (first_block r + k))
            (omega (arith, e, p.read)),
      )

  -- no block before the first one that stops
  not_before : (k n : ℕ) → NoEntryAt c d h r l k n → blocks_before c d h r l ≤ k
  not_before k n p =
      split (blocks_before c d h r l) k (λ y. y) (λ y. absurd (false≢true (sym (first_stop.before k (omega arith) y) ∙ stops_at k n p)))

  -- 23 comes at the first line without an entry
  is_first : is_out c d h r l ≡ true → FirstWithout c d h r l (blocks_before c d h r l) (out_line c d h r l)
  is_first t =
      let k = blocks_before c d h r l in
      let p = out_low t in
      rw line_is
      (record {
        there = stop_there k (first_stop.holds (omega (arith, p)));
        inside = p;
        blocks = not_before;
        lines = λ m q. lines_low k m q;
      })

  named : (k n : ℕ) → shared_answer c d h r l ≡ Err (NoEntry (first_block r + k) n) → FirstWithout c d h r l k n
  named k n e = go (is_out c d h r l) refl
    where
      go : (t : Bool) → is_out c d h r l ≡ t → FirstWithout c d h r l k n
      go false t =
          let f : answer_of d h r (block_count r) ≡ Err (NoEntry (first_block r + k) n) = sym (answer_in_lem c d h r l t) ∙ e in
          let g : number_of (answer_of d h r (block_count r)) ≡ 23 = ap number_of f in
          absurd (omega (arith, g, answer_low d h r (block_count r)))
      go true t =
          let f = sym (answer_out c d h r l t) ∙ e in
          let b : out_block c d h r l ≡ first_block r + k = ap (λ (a : Result Unit Refusal). get_or (answer_words a) 1 0) f in
          let m : out_line c d h r l ≡ n = ap (λ (a : Result Unit Refusal). get_or (answer_words a) 2 0) f in
          let q : blocks_before c d h r l ≡ k = omega (arith, b) in
          subst (λ (z : ℕ). FirstWithout c d h r l z n) q (subst (λ (z : ℕ). FirstWithout c d h r l (blocks_before c d h r l) z) m (is_first t))

  names : (k n : ℕ) → FirstWithout c d h r l k n → shared_answer c d h r l ≡ Err (NoEntry (first_block r + k) n)
  names k n f =
      let low = not_before k n f.there in
      let t : is_out c d h r l ≡ true = low_out (omega (arith, low, f.inside)) in
      let first = is_first t in
      let q : blocks_before c d h r l ≡ k = omega (arith, low, f.blocks (blocks_before c d h r l) (out_line c d h r l) first.there) in
      let a : out_line c d h r l ≤ n = first.lines n (subst (λ (z : ℕ). NoEntryAt c d h r l z n) (sym q) f.there) in
      let b : n ≤ out_line c d h r l = f.lines (out_line c d h r l) (subst (λ (z : ℕ). NoEntryAt c d h r l z (out_line c d h r l)) q first.there) in
      let m : out_line c d h r l ≡ n = omega (arith, a, b) in
      answer_out c d h r l t
      ∙ ap (λ (z : ℕ). Err (NoEntry (first_block r + z) (out_line c d h r l))) q
      ∙ ap (λ (z : ℕ). Err (NoEntry (first_block r + k) z)) m

pub two_cameras : TwoCameras
two_cameras =
    record {
      own = own;
      out = λ c d h r l k n. (named c d h r l k n, names c d h r l k n);
      told = told;
      form = λ es l ok n. sound_all es l ok (none_sound l n);
      whole = mended_sound;
      total = λ es l ok n. holds_all es l ok (none_sound l n) ∙ rw (none_holds l n) (omega arith);
    }
