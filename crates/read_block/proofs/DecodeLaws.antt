-- Decoding block by block: how many lines of a block are read, the answer, and the image. Assumes nothing.
use borrow.Author.Tests.{ltb-true, ltb-false, lt-ltb, le-ltb, le-leb, leb-true, eqb-true, eqb-false, eq-eqb, ne_eqb}
use mathlib.Core.Bool.{Bool, true, false, cond, ◌&&◌, and-true, and-false}
use mathlib.Core.List.{List}
use mathlib.Core.Path.{◌≡◌, refl, sym, ap, ◌∙◌}
use Prim.Native.Nat.{ℕ, zero, suc, ◌+◌, ◌-◌, ◌*◌, ◌/◌, ◌%◌, ◌≤◌, ◌<◌, zero-le}
use native.Mathlib.Nat.{add-zero, add-suc, le_refl}
use native.Mathlib.Omega.{arith}
use lib.Dec.{ltb, leb, eqb}
use lib.ListN.{length, get_or}
use Rattle.numbers.proofs.OrderLaws.{cond_le}
use Rattle.image_map.specs.Inside.{picture_row, image_column, in_rows, emitted_sample}
use Rattle.image_map.specs.Places.{Changed}
use Rattle.image_map.specs.declared.Part.{Part}
use Rattle.image_map.proofs.PartLaws.{by_test, not_in}
use Rattle.stream.specs.declared.header.FujiHeader.{FujiHeader}
use Rattle.image_region.specs.Regions.{block_of, first_block, bottom_of, line_count}
use Rattle.image_region.specs.Inside.{part_in, Accepted}
use Rattle.image_region.specs.declared.Rect.{Rect}
use Rattle.image_region.proofs.RegionLaws.{InColumns, one_block, lines_cover, row_inside}
use Rattle.read_block.specs.Blocks.{State, runs, read_line_at, start_state, read_lines}
use Rattle.read_block.specs.Walks.{shown_sample, Shown, shown_lines, IsWalked}
use Rattle.read_block.specs.Images.{form_of, bytes_in, bases_in, is_read, lines_read, read_in, line_of, is_decoded, picture_sample, decoded_sample, or_else}
use Rattle.read_block.specs.Inside.{walked_answer}
use Rattle.read_block.specs.Images.{block_answer, answer_of, Pictured}
use Rattle.read_block.specs.Sharing.{is_before}
use Rattle.read_block.specs.WindowedImages.{is_reached, reached_sample}
use Rattle.read_block.specs.WindowedLines.{reached_lines, ShownIn, PicturedIn}
use Rattle.read_block.specs.declared.Form.{Form}
use Rattle.read_block.proofs.RunLaws.{runs_stay}
use Rattle.read_block.proofs.CountLaws.{all_counted, cut_counted}
use Rattle.std.specs.Prelude.{Err, Ok, Result, None, Option, Some}
use Rattle.line_totals.specs.declared.TightLines.{TightLines}
use Rattle.line_totals.specs.declared.Totals.{Totals}
use Rattle.stream.specs.declared.header.Refusal.{Refusal}

-- ---- how many lines are read

module _ (F : Form) (bases s : List ℕ) where
  -- after a truncated line no count of lines is read
  pub stay_none : (t m : ℕ) → read_lines F bases s t ≡ None → read_lines F bases s (t + m) ≡ None
  unfolding read_lines
  stay_none t m e = runs_stay (read_line_at F bases s) (start_state F bases) t m e

  read_none : lines_read F bases s 0 ≡ 0
  unfolding lines_read
  read_none = refl

  one_more_read : (n : ℕ) → lines_read F bases s (suc n) ≡ cond (is_read (read_lines F bases s (suc n))) (suc n) (lines_read F bases s n)
  unfolding lines_read
  one_more_read n = refl

  -- all are read
  pub all_read : (n : ℕ) (z : State) → read_lines F bases s n ≡ Some z → lines_read F bases s n ≡ n
  all_read n z e = all_counted (λ m. read_lines F bases s m) (λ m. lines_read F bases s m) read_none one_more_read stay_none n z e

  start_read : read_lines F bases s 0 ≡ Some (start_state F bases)
  unfolding read_lines runs
  start_read = refl

  read_at_most : (n : ℕ) → lines_read F bases s n ≤ n
  unfolding lines_read
  read_at_most zero = le_refl 0
  read_at_most (suc n) =
      cond_le (suc n) (is_read (read_lines F bases s (suc n))) (suc n) (lines_read F bases s n) (le_refl (suc n)) (omega (arith, read_at_most n))

  -- of more lines no fewer are read
  pub read_more : (n k : ℕ) → lines_read F bases s n ≤ lines_read F bases s (n + k)
  unfolding lines_read
  read_more n zero = rw add-zero (le_refl (lines_read F bases s n))
  read_more n (suc k) = rw add-suc (go (is_read (read_lines F bases s (suc (n + k)))) (read_more n k) (read_at_most n))
    where
      go : (t : Bool) → lines_read F bases s n ≤ lines_read F bases s (n + k) → lines_read F bases s n ≤ n
          → lines_read F bases s n ≤ cond t (suc (n + k)) (lines_read F bases s (n + k))
      go true h l = omega (arith, l)
      go false h l = h

  pub was_read : (n : ℕ) → n ≤ lines_read F bases s n → (z : State) × (read_lines F bases s n ≡ Some z)
  unfolding lines_read
  was_read zero h = (start_state F bases, start_read)
  was_read (suc n) h = go (read_lines F bases s (suc n)) refl h
    where
      go : (o : Option State) → read_lines F bases s (suc n) ≡ o → suc n ≤ cond (is_read o) (suc n) (lines_read F bases s n)
          → (z : State) × (read_lines F bases s (suc n) ≡ Some z)
      go None e k = absurd (omega (arith, read_at_most n))
      go (Some z) e k = (z, e)

  -- or those before line m
  cut_lines : (m count : ℕ) (z : State) → suc m ≤ count → read_lines F bases s m ≡ Some z → read_lines F bases s (suc m) ≡ None
      → m ≡ lines_read F bases s count
  cut_lines m count z l e cut = cut_counted (λ n. read_lines F bases s n) (λ n. lines_read F bases s n) read_none one_more_read stay_none m count z l e cut

-- by what a walk answered
pub walked_lines : (F : Form) (bases s : List ℕ) (count : ℕ) (w : Result (Totals × TightLines) (ℕ × Totals)) → IsWalked F bases s count w
    → shown_lines w count ≡ lines_read F bases s count
walked_lines F bases s count (Ok (all, tight)) p = sym (all_read F bases s count p.end p.read)
walked_lines F bases s count (Err (line, before)) p = cut_lines F bases s line count p.before p.inside p.read p.cut

-- ---- the answer

pub answer_none : (d : List ℕ) (h : FujiHeader) (r : Rect) (b : ℕ) → b ≡ first_block r → (Ok tt) ≡ answer_of d h r (b - first_block r)
unfolding answer_of
answer_none d h r b e = let f : b - first_block r ≡ 0 = omega arith in rw f

-- a walk that was not cut read all lines, and one that was cut read fewer
pub judged_by : (F : Form) (bases s : List ℕ) (count b : ℕ) (w : Result (Totals × TightLines) (ℕ × Totals)) → IsWalked F bases s count w → walked_answer b w ≡ block_answer F bases s b count
judged_by F bases s count b (Ok (all, tight)) p =
    let e : lines_read F bases s count ≡ count = all_read F bases s count p.end p.read in
    rw (e, le-ltb count count (omega arith))
judged_by F bases s count b (Err (line, before)) p =
    let e : line ≡ lines_read F bases s count = walked_lines F bases s count (Err (line, before)) p in
    rw (← e, lt-ltb line count p.inside)

answer_step : (d : List ℕ) (h : FujiHeader) (r : Rect) (n b : ℕ) → b ≡ first_block r + n → answer_of d h r (suc n)
    ≡ or_else (answer_of d h r n) (block_answer (form_of h) (bases_in d b) (bytes_in d b) b (line_count r))
unfolding answer_of
answer_step d h r n b e = rw e

pub answer_more : (d : List ℕ) (h : FujiHeader) (r : Rect) (b : ℕ) (w : Result (Totals × TightLines) (ℕ × Totals)) (before after : Result Unit Refusal) → first_block r ≤ b
    → before ≡ answer_of d h r (b - first_block r) → IsWalked (form_of h) (bases_in d b) (bytes_in d b) (line_count r) w
    → after ≡ or_else before (walked_answer b w) → after ≡ answer_of d h r (b + 1 - first_block r)
answer_more d h r b w before after l e p f =
    let n : b + 1 - first_block r ≡ suc (b - first_block r) = omega arith in
    let j = judged_by (form_of h) (bases_in d b) (bytes_in d b) (line_count r) b w p in
    f ∙ rw (n, answer_step d h r (b - first_block r) b (omega arith), j, e)

-- ---- tests

-- two tests that follow from each other are the same
pub same_test : (s t : Bool) → (s ≡ true → t ≡ true) → (t ≡ true → s ≡ true) → s ≡ t
same_test true t f g = sym (f refl)
same_test false true f g = g refl
same_test false false f g = refl

below_next : (m n : ℕ) → ltb m (suc n) ≡ leb m n
below_next m n =
    same_test (ltb m (suc n)) (leb m n)
    (λ t. le-leb m n (let l = ltb-true m (suc n) t in omega arith))
    (λ t. lt-ltb m (suc n) (let l = leb-true m n t in omega arith))

pub and_swap : (s t : Bool) → s && t ≡ t && s
and_swap true t = sym (and-true t)
and_swap false t = sym (and-false t)

-- ---- which entries have been reached

-- entry i is the region's, of a block below e, and its line passes a test
module _ (r : Rect) (i : ℕ) (t : Bool) where
  abbrev reached : ℕ → Bool
  reached e = ltb i (r.width * r.height) && ltb (block_of r i) e && t

  -- none of a block that does not stand below e
  not_reached : (e : ℕ) → e ≤ block_of r i → reached e ≡ false
  not_reached e l = rw (le-ltb (block_of r i) e l, and-false (ltb i (r.width * r.height)))

  -- the others by their place and their line
  is_reached_lem : (e : ℕ) → block_of r i < e → reached e ≡ ltb i (r.width * r.height) && t
  is_reached_lem e l = rw (lt-ltb (block_of r i) e l, and-true (ltb i (r.width * r.height)))

  other_reached : (b : ℕ) → (block_of r i ≡ b → ⊥) → reached (b + 1) ≡ reached b
  other_reached b other =
      by_test (ltb (block_of r i) b)
      (λ u. let l = ltb-true _ _ u in is_reached_lem (b + 1) (omega arith) ∙ sym (is_reached_lem b l))
      (λ u.
      let l = ltb-false _ _ u in
      let m : b + 1 ≤ block_of r i = omega (arith, other) in
      not_reached (b + 1) m ∙ sym (not_reached b l))

-- ---- which entries a part shows

-- none outside its columns
pub shown_outside : (a : Part) (low high i : ℕ) → (InColumns a i → ⊥) → in_rows a low high i ≡ false
shown_outside a low high i other = not_in a low high i (λ h. other (h.left, h.right))

-- and those inside by their row
pub shown_inside : (a : Part) (low high i : ℕ) → InColumns a i
    → in_rows a low high i ≡ leb low (picture_row a i) && ltb (picture_row a i) high && ltb (picture_row a i) a.bottom
unfolding in_rows
shown_inside a low high i c =
    let rows = leb low (picture_row a i) && ltb (picture_row a i) high && ltb (picture_row a i) a.bottom in
    rw (le-leb _ _ c.0, lt-ltb _ _ c.1, and-true rows, and-true rows)

-- a row is one of the first n lines exactly if its line is
pub row_line : (row n : ℕ) → ltb row (6 * n) ≡ ltb (row / 6) n
row_line row n =
    same_test (ltb row (6 * n)) (ltb (row / 6) n)
    (λ t. lt-ltb (row / 6) n (let l = ltb-true row (6 * n) t in omega arith))
    (λ t. lt-ltb row (6 * n) (let l = ltb-true (row / 6) n t in omega arith))

pub part_row : (r : Rect) (b i : ℕ) → picture_row (part_in r b) i ≡ r.y + i / r.width
unfolding part_in
part_row r b i = refl

pub part_bottom : (r : Rect) (b : ℕ) → (part_in r b).bottom ≡ bottom_of r
unfolding part_in
part_bottom r b = refl

-- ---- the image, with one block more

module _ (h : FujiHeader) (r : Rect) (n i : ℕ) (ok : Accepted h r n) where
  -- the rows of the region are those of the entries below width·height
  pub row_place : ltb (r.y + i / r.width) (bottom_of r) ≡ ltb i (r.width * r.height)
  row_place =
      let e = row_inside h r n ok i in
      same_test (ltb (r.y + i / r.width) (bottom_of r)) (ltb i (r.width * r.height))
      (λ t. lt-ltb _ _ (e.0 (ltb-true _ _ t)))
      (λ t. lt-ltb _ _ (e.1 (ltb-true _ _ t)))

  -- an entry of block b is among the first m lines of its part exactly if its line is
  of_block : (b m : ℕ) → block_of r i ≡ b → in_rows (part_in r b) 0 (6 * m) i ≡ ltb i (r.width * r.height) && ltb (line_of r i) m
  of_block b m e =
      shown_inside (part_in r b) 0 (6 * m) i ((one_block h r n ok b i).1 (sym e))
      ∙ rw (le-leb 0 (picture_row (part_in r b) i) zero-le, part_row r b i, part_bottom r b, row_place, row_line (r.y + i / r.width) m)
      (and_swap (ltb (line_of r i) m) (ltb i (r.width * r.height)))

  -- and an entry of another block is not shown
  of_other : (b m : ℕ) → (block_of r i ≡ b → ⊥) → in_rows (part_in r b) 0 (6 * m) i ≡ false
  of_other b m other = shown_outside (part_in r b) 0 (6 * m) i (λ c. other (sym ((one_block h r n ok b i).0 c)))

  -- all lines of the region's rows are asked for
  all_lines : ltb i (r.width * r.height) && ltb (line_of r i) (line_count r) ≡ ltb i (r.width * r.height) && leb (line_of r i) (line_count r)
  all_lines =
      by_test (ltb i (r.width * r.height))
      (λ u.
      let l = lines_cover h r n ok (r.y + i / r.width) ((row_inside h r n ok i).1 (ltb-true _ _ u)) in
      rw (u, lt-ltb (line_of r i) (line_count r) (omega arith), le-leb (line_of r i) (line_count r) (omega arith)))
      (λ u. rw u)

module _ (d : List ℕ) (h : FujiHeader) (r : Rect) (tile : List ℕ) (b : ℕ) where
  -- the sample that the part of block b shows
  abbrev sample : ℕ → ℕ
  sample = shown_sample (form_of h) (bases_in d b) (bytes_in d b) tile (part_in r b)

  -- the part's columns are those of the block
  pub part_column : (i : ℕ) → block_of r i ≡ b → (part_in r b).left + (image_column (part_in r b) i - (part_in r b).start) ≡ (r.x + i % r.width) % 768
  unfolding part_in
  part_column i e = omega arith

  same_sample : (i : ℕ) → block_of r i ≡ b → sample i ≡ decoded_sample d h r tile i
  unfolding emitted_sample picture_sample
  same_sample i e = rw (part_column i e, part_row r b i, e)

  same_or_zero : (i : ℕ) → block_of r i ≡ b → cond (ltb (picture_row (part_in r b) i / 6) (read_in d h r b)) (sample i) 0
      ≡ cond (ltb (line_of r i) (read_in d h r (block_of r i))) (decoded_sample d h r tile i) 0
  same_or_zero i e =
      ap (λ (v : ℕ). cond (ltb (picture_row (part_in r b) i / 6) (read_in d h r b)) v 0) (same_sample i e) ∙ rw (part_row r b i, e)

-- the image, by the test of a line and by what an entry shows; one block more has shown m lines
module _ (h : FujiHeader) (r : Rect) (n b m : ℕ) (test : ℕ → Bool) (sample shows : ℕ → ℕ) (x y z : List ℕ) (ok : Accepted h r n)
    (done : Changed (λ i. reached r i (test i) b) sample x y) (shown : Changed (in_rows (part_in r b) 0 (6 * m)) shows y z)
    (lines : (i : ℕ) → block_of r i ≡ b → ltb i (r.width * r.height) && ltb (line_of r i) m ≡ ltb i (r.width * r.height) && test i)
    (samples : (i : ℕ) → block_of r i ≡ b → shows i ≡ sample i) where
  entry : (i : ℕ) → get_or z i 0 ≡ cond (reached r i (test i) (b + 1)) (sample i) (get_or x i 0)
  entry i =
      by_test (eqb (block_of r i) b)
      (λ t.
      let e : block_of r i ≡ b = eqb-true _ _ t in
      shown.entries i
      ∙ rw (
        of_block h r n i ok b m e,
        lines i e,
        samples i e,
        done.entries i,
        not_reached r i (test i) b (omega arith),
        is_reached_lem r i (test i) (b + 1)
            (omega arith),
      ))
      (λ t.
      let other = eqb-false (block_of r i) b t in
      shown.entries i ∙ rw (of_other h r n i ok b m other, done.entries i, other_reached r i (test i) b other))

  one_more : Changed (λ i. reached r i (test i) (b + 1)) sample x z
  one_more = record { kept = shown.kept ∙ done.kept; entries = entry }

pub pictured_none : (windowed : Bool) (d : List ℕ) (h : FujiHeader) (r : Rect) (tile : List ℕ) (b : ℕ) (image : List ℕ) → b ≡ first_block r
    → PicturedIn windowed d h r tile b image image
unfolding is_decoded is_reached
pictured_none false d h r tile b image e = record { kept = refl; entries = λ i. rw (not_reached r i _ b (omega arith)) }
pictured_none true d h r tile b image e = record { kept = refl; entries = λ i. rw (not_reached r i _ b (omega arith)) }

pub pictured_kept : (windowed : Bool) (d : List ℕ) (h : FujiHeader) (r : Rect) (tile : List ℕ) (b : ℕ) (x y : List ℕ) → PicturedIn windowed d h r tile b x y
    → length y ≡ length x
pictured_kept false d h r tile b x y p = p.kept
pictured_kept true d h r tile b x y p = p.kept

-- the lines whose rows a walk has changed, in windows
reached_lines_lem : (d : List ℕ) (h : FujiHeader) (r : Rect) (n i b : ℕ) (w : Result (Totals × TightLines) (ℕ × Totals)) → Accepted h r n
    → IsWalked (form_of h) (bases_in d b) (bytes_in d b) (line_count r) w
    → ltb i (r.width * r.height) && ltb (line_of r i) (reached_lines w (line_count r)) ≡ ltb i (r.width * r.height) && leb (line_of r i) (read_in d h r b)
reached_lines_lem d h r n i b (Ok (all, tight)) ok p =
    let e : read_in d h r b ≡ line_count r = sym (walked_lines (form_of h) (bases_in d b) (bytes_in d b) (line_count r) (Ok (all, tight)) p) in
    rw e (all_lines h r n i ok)
reached_lines_lem d h r n i b (Err (line, before)) ok p =
    let e : read_in d h r b ≡ line = sym (walked_lines (form_of h) (bases_in d b) (bytes_in d b) (line_count r) (Err (line, before)) p) in
    rw e (ap (λ (t : Bool). ltb i (r.width * r.height) && t) (below_next (line_of r i) line))

pub pictured_more : (windowed : Bool) (d : List ℕ) (h : FujiHeader) (r : Rect) (tile : List ℕ) (n b : ℕ) (a : Part) (w : Result (Totals × TightLines) (ℕ × Totals)) (x y z : List ℕ)
    → Accepted h r n → a ≡ part_in r b → IsWalked (form_of h) (bases_in d b) (bytes_in d b) (line_count r) w → PicturedIn windowed d h r tile b x y
    → ShownIn windowed (form_of h) (bases_in d b) (bytes_in d b) tile a w (line_count r) y z → PicturedIn windowed d h r tile (b + 1) x z
unfolding is_decoded is_reached reached_sample
pictured_more false d h r tile n b a w x y z ok e p done shown =
    let m = walked_lines (form_of h) (bases_in d b) (bytes_in d b) (line_count r) w p in
    one_more h r n b (read_in d h r b) (λ i. ltb (line_of r i) (read_in d h r (block_of r i))) (decoded_sample d h r tile) (sample d h r tile b) x y z ok done
    (rw (e, m) at shown) (λ i f. rw f) (same_sample d h r tile b)
pictured_more true d h r tile n b a w x y z ok e p done shown =
    let m = walked_lines (form_of h) (bases_in d b) (bytes_in d b) (line_count r) w p in
    one_more h r n b (reached_lines w (line_count r)) (λ i. leb (line_of r i) (read_in d h r (block_of r i)))
    (λ i. cond (ltb (line_of r i) (read_in d h r (block_of r i))) (decoded_sample d h r tile i) 0)
    (λ i. cond (ltb (picture_row (part_in r b) i / 6) (read_in d h r b)) (sample d h r tile b i) 0) x y z ok done
    (rw (e, m) at shown) (λ i f. rw f (reached_lines_lem d h r n i b w ok p)) (same_or_zero d h r tile b)

-- where a line m of block b has no entry: the blocks before it, and its first m lines
pub pictured_stopped : (d : List ℕ) (h : FujiHeader) (r : Rect) (tile : List ℕ) (n b m : ℕ) (a : Part) (x y z : List ℕ) → Accepted h r n → a ≡ part_in r b
    → Pictured d h r tile b x y → Shown (form_of h) (bases_in d b) (bytes_in d b) tile a m y z → Changed (is_before d h r b m) (decoded_sample d h r tile) x z
unfolding is_decoded is_before
pictured_stopped d h r tile n b m a x y z ok e done shown =
    one_more h r n b m test (decoded_sample d h r tile) (sample d h r tile b) x y z ok before (rw e at shown) (λ i f. rw (f, eq-eqb b b refl))
    (same_sample d h r tile b)
  where
    test : ℕ → Bool
    test i = ltb (line_of r i) (cond (eqb (block_of r i) b) m (read_in d h r (block_of r i)))

    before : Changed (λ i. reached r i (test i) b) (decoded_sample d h r tile) x y
    before =
        record {
          kept = done.kept;
          entries = λ i.
              done.entries i
              ∙ by_test (ltb (block_of r i) b)
              (λ t. let l = ltb-true (block_of r i) b t in rw (ne_eqb (block_of r i) b (λ z. absurd (omega arith))))
              (λ t. rw (not_reached r i (test i) b (ltb-false _ _ t), not_reached r i (ltb (line_of r i) (read_in d h r (block_of r i))) b (ltb-false _ _ t)));
        }
