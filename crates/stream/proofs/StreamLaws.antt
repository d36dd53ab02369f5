-- Streams that open, and where their base rows and blocks lie. Assumes nothing.
use mathlib.Core.Bool.{Bool, true, false, cond, not, ◌&&◌}
use mathlib.Core.List.{List, []}
use mathlib.Core.Path.{◌≡◌, refl, ap, ◌∙◌, subst}
use Prim.Native.Nat.{ℕ, ◌+◌, ◌-◌, ◌^◌, ◌≤◌, ◌<◌}
use native.Mathlib.Nat.{min-le_left}
use native.Mathlib.Omega.{arith}
use lib.Dec.{ltb, lit<}
use lib.ListN.{length, take, drop, length-take, length-drop}
use borrow.Author.Tests.{lt-ltb, le-ltb, ltb-false}
use Rattle.numbers.proofs.LeastLaws.{least}
use Rattle.numbers.proofs.OrderLaws.{split}
use Rattle.stream.specs.Headers.{parse_of}
use Rattle.stream.specs.Streams.{sizes_end, size_of, row_length, row_start, is_short, first_short, open_in, open_of}
use Rattle.stream.specs.Inside.{Opened}
use Rattle.stream.specs.Streams.{block_start, range_in, range_of, row_in, row_of}
use Rattle.stream.specs.Ranges.{cut, part_of, Short}
use Rattle.stream.specs.Inside.{Inside}
use Rattle.stream.specs.declared.header.FujiHeader.{FujiHeader}
use Rattle.stream.specs.declared.header.Refusal.{Refusal}
use Rattle.stream.specs.declared.header.Refusal.TheVariants.{ShortSizes, ShortBases}
use Rattle.stream.proofs.HeaderLaws.{ruled}
use Rattle.std.specs.Prelude.{Err, Ok, Result}
use Rattle.bits.specs.declared.ByteOffset.{ByteOffset}

-- a refusal is no header
clash : {X : Type 0} (r : Refusal) (h : FujiHeader) → Err r ≡ Ok h → X
clash r h e = absurd (let no : ◌≡◌ {A = ℕ} 0 1 = cc in omega arith)

-- a lossy stream: the second of two tests decides, and rows have a byte for each line
second : (l t : Bool) → l ≡ false → (not l && t) ≡ false → t ≡ false
second l t e f = rw e at f

a_line : (h : FujiHeader) → h.lossless ≡ false → row_length h ≡ h.lines
a_line h e = rw e

no_line : (h : FujiHeader) → h.lossless ≡ true → row_length h ≡ 0
no_line h e = rw e

module _ (d : List ℕ) (h : FujiHeader) where
  -- no row before the first that is not whole is short
  row_there : (b : ℕ) → b < first_short d h → row_start h b + row_length h ≤ length d
  unfolding first_short
  row_there b l = ltb-false (length d) (row_start h b + row_length h) ((least h.blocks (λ i. is_short d h i) 0).before b (omega arith) l)

  -- what is known once both tests are passed
  passed : parse_of d ≡ Ok h → ltb (length d) (sizes_end h) ≡ false → (not h.lossless && ltb (first_short d h) h.blocks) ≡ false → Opened d h
  passed e s t =
      record {
        parsed = e;
        ruled = ruled d h e;
        sizes = ltb-false (length d) (sizes_end h) s;
        whole = λ l b k.
            let f : h.blocks ≤ first_short d h = ltb-false (first_short d h) h.blocks (second h.lossless _ l t) in
            omega (arith, row_there b (omega arith), a_line h l);
      }

-- a stream that opens
pub opened : (d : List ℕ) (h : FujiHeader) → open_of d ≡ Ok h → Opened d h
unfolding open_of
opened d h = from (parse_of d) refl
  where
    tests : (g : FujiHeader) → parse_of d ≡ Ok g → (s t : Bool) → ltb (length d) (sizes_end g) ≡ s
        → (not g.lossless && ltb (first_short d g) g.blocks) ≡ t
        → cond s (Err ShortSizes) (cond t (Err (ShortBases (first_short d g))) (Ok g)) ≡ Ok h → Opened d h
    tests g e true t es et f = clash ShortSizes h f
    tests g e false true es et f = clash (ShortBases (first_short d g)) h f
    tests g e false false es et f = let same : g ≡ h = cc in subst (λ (x : FujiHeader). Opened d x) same (passed d g e es et)

    from : (p : Result FujiHeader Refusal) → parse_of d ≡ p → open_in d p ≡ Ok h → Opened d h
    from (Err r) e f = clash r h f
    from (Ok g) e f = tests g e (ltb (length d) (sizes_end g)) (not g.lossless && ltb (first_short d g) g.blocks) refl refl f

-- the answers, by how parsing and opening end
module _ (d : List ℕ) where
  pub open_refused : (r : Refusal) → parse_of d ≡ Err r → open_of d ≡ Err r
  unfolding open_of
  open_refused r e = rw e

  pub open_parsed : (h : FujiHeader) → parse_of d ≡ Ok h → open_of d ≡ open_in d (Ok h)
  unfolding open_of
  open_parsed h e = rw e

  pub range_refused : (b : ℕ) (r : Refusal) → open_of d ≡ Err r → range_of d b ≡ Err r
  unfolding range_of
  range_refused b r e = rw e

  pub range_opened : (b : ℕ) (h : FujiHeader) → open_of d ≡ Ok h → range_of d b ≡ range_in d b (Ok h)
  unfolding range_of
  range_opened b h e = rw e

  pub row_refused : (b : ℕ) (r : Refusal) → open_of d ≡ Err r → row_of d b ≡ Err r
  unfolding row_of
  row_refused b r e = rw e

  pub row_opened : (b : ℕ) (h : FujiHeader) → open_of d ≡ Ok h → row_of d b ≡ row_in d b (Ok h)
  unfolding row_of
  row_opened b h e = rw e

-- every range that is handed back lies in the bytes
module _ (d : List ℕ) where
  cut_inside : (from to : ℕ) → cut d from + (cut d to - cut d from) ≤ length d
  cut_inside from to = omega arith

  pub range_inside : (b : ℕ) → Inside d (range_of d b)
  unfolding range_of
  range_inside b = go (open_of d)
    where
      go : (p : Result FujiHeader Refusal) → Inside d (range_in d b p)
      go (Err r) = tt
      go (Ok h) =
          split h.blocks b
          (λ l. rw (le-ltb b h.blocks l) tt)
          (λ l. rw (lt-ltb b h.blocks l) (cut_inside (block_start d h b) (block_start d h b + size_of d b)))

  -- a row of a lossless stream is empty, and any other is whole
  row_fits : (h : FujiHeader) (b : ℕ) → Opened d h → b < h.blocks → cut d (row_start h b) + row_length h ≤ length d
  row_fits h b o l = go h.lossless refl
    where
      go : (t : Bool) → h.lossless ≡ t → cut d (row_start h b) + row_length h ≤ length d
      go true e = omega (arith, no_line h e)
      go false e = omega (arith, a_line h e, o.whole e b l)

  pub row_inside : (b : ℕ) → Inside d (row_of d b)
  unfolding row_of
  row_inside b = go (open_of d) refl
    where
      go : (p : Result FujiHeader Refusal) → open_of d ≡ p → Inside d (row_in d b p)
      go (Err r) e = tt
      go (Ok h) e =
          split h.blocks b
          (λ l. rw (le-ltb b h.blocks l) tt)
          (λ l. rw (lt-ltb b h.blocks l) (row_fits h b (opened d h e) l))

-- how long the parts are that are handed back
module _ (d : List ℕ) where
  taken_le : (n from : ℕ) → length (take n (drop from d)) ≤ n
  taken_le n from = simp length-take (min-le_left n _)

  taken_is : (n from : ℕ) → from + n ≤ length d → length (take n (drop from d)) ≡ n
  taken_is n from h = simp (length-take, length-drop) (omega arith)

  -- a part is no longer than its range
  pub part_lt : (r : Result (ByteOffset × ℕ) Refusal) → Short r → length (part_of d r) < 2 ^ 32
  part_lt (Ok (from, n)) h = omega (arith, taken_le n from.0)
  part_lt (Err r) h = lit< tt

  -- a base row of a lossy stream has a byte for each line, and one of a lossless stream none
  module _ (h : FujiHeader) (b : ℕ) (e : open_of d ≡ Ok h) where
    pub row_length_lem : b < h.blocks → length (part_of d (row_of d b)) ≡ row_length h
    row_length_lem l =
        rw (row_opened d b h e, lt-ltb b h.blocks l) (taken_is (row_length h) (cut d (row_start h b)) (row_fits d h b (opened d h e) l))

    pub row_lossy : b < h.blocks → h.lossless ≡ false → length (part_of d (row_of d b)) ≡ h.lines
    row_lossy l f = row_length_lem l ∙ a_line h f

    pub row_lossless : h.lossless ≡ true → part_of d (row_of d b) ≡ []
    row_lossless f =
        rw (row_opened d b h e)
        (split h.blocks b
        (λ l. rw (le-ltb b h.blocks l))
        (λ l. rw (lt-ltb b h.blocks l) (ap (λ (n : ℕ). take n (drop (cut d (row_start h b)) d)) (no_line h f))))
