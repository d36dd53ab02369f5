-- Going on: the answer and the image, by what the reading from a place says. Assumes nothing.
use borrow.Author.Tests.{leb-true, lt-ltb, le-ltb, le-leb, eqb-true, eqb-false}
use mathlib.Core.Bool.{Bool, true, false, cond, ◌&&◌, and-true, and-false}
use mathlib.Core.List.{List}
use mathlib.Core.Path.{◌≡◌, refl, sym, ap, ◌∙◌}
use Prim.Native.Nat.{ℕ, suc, ◌+◌, ◌-◌, ◌*◌, ◌/◌, ◌≤◌}
use native.Mathlib.Omega.{arith}
use lib.Dec.{ltb, leb, eqb}
use lib.ListN.{length, get_or}
use Rattle.image_map.specs.Inside.{in_rows, emitted_sample, Fits}
use Rattle.image_map.specs.Places.{Changed}
use Rattle.image_map.specs.declared.Part.{Part}
use Rattle.image_map.proofs.PartLaws.{by_test, not_in}
use Rattle.stream.specs.declared.header.FujiHeader.{FujiHeader}
use Rattle.stream.specs.declared.header.Refusal.TheVariants.{Truncated}
use Rattle.image_region.specs.Regions.{block_of, first_block, last_block, line_count}
use Rattle.image_region.specs.Inside.{part_in, Accepted}
use Rattle.image_region.specs.declared.Rect.{Rect}
use Rattle.image_region.proofs.RegionLaws.{one_block, part_fits}
use Rattle.saved_state.specs.Checkpoints.{next_line, position_in}
use Rattle.read_block.specs.Blocks.{State, read_line_at, read_from, totals_in}
use Rattle.read_block.specs.Walks.{shown_from, shown_lines}
use Rattle.read_block.specs.Images.{form_of, bytes_in, bases_in, is_read, line_of}
use Rattle.saved_state.specs.BlockStates.{loaded_state}
use Rattle.read_block.specs.Lent.{Buffers}
use Rattle.saved_state.specs.Resuming.{resumed_after, lines_resumed, is_touched, lines_wanted, is_resumed, resumed_picture, resumed_sample, since_totals}
use Rattle.saved_state.specs.Resuming.{resumed_counted}
use Rattle.saved_state.specs.Calls.{PartWanted, since_counted}
use Rattle.read_block.specs.WindowedLines.{IsReadOn, ShownOn}
use Rattle.read_block.specs.declared.Counted.{Counted}
use Rattle.read_block.specs.declared.Form.{Form}
use Rattle.read_block.proofs.RunLaws.{runs_stay}
use Rattle.read_block.proofs.CountLaws.{all_counted, cut_counted}
use Rattle.read_block.proofs.DecodeLaws.{same_test, shown_outside, shown_inside, row_line, part_row, part_bottom, row_place, part_column}
use Rattle.std.specs.Prelude.{Err, Ok, Result, None, Option}
use Rattle.line_totals.specs.declared.TightLines.{TightLines}
use Rattle.line_totals.specs.declared.Totals.{Totals}

module _ (d : List ℕ) (b : ℕ) (h : FujiHeader) (s : List ℕ) where
  abbrev after : ℕ → Option State
  after m = resumed_after d b h s m

  -- ---- how many lines are read

  no_line : lines_resumed d b h s 0 ≡ 0
  unfolding lines_resumed
  no_line = refl

  one_more : (m : ℕ) → lines_resumed d b h s (suc m) ≡ cond (is_read (after (suc m))) (suc m) (lines_resumed d b h s m)
  unfolding lines_resumed
  one_more m = refl

  stay : (t m : ℕ) → after t ≡ None → after (t + m) ≡ None
  unfolding read_from
  stay t m e = runs_stay (λ i. read_line_at (form_of h) (bases_in d b) (bytes_in d b) (next_line s + i)) (loaded_state (form_of h) h.lossless (bases_in d b) s) t m e

  -- by what was read of m lines
  module _ (m : ℕ) (scratch : Buffers) where
    abbrev Reads : Result (Totals × TightLines) (ℕ × Totals) → Type 0
    Reads w = IsReadOn false (form_of h) (bases_in d b) (bytes_in d b) (next_line s) (loaded_state (form_of h) h.lossless (bases_in d b) s) m scratch w

    lines_are : (w : Result (Totals × TightLines) (ℕ × Totals)) → Reads w → shown_lines w (next_line s + m) ≡ next_line s + lines_resumed d b h s m
    lines_are (Ok (all, tight)) p = rw (all_counted after (lines_resumed d b h s) no_line one_more stay m p.end p.read)
    lines_are (Err (line, before)) p =
        p.line_is
        ∙ ap (λ (n : ℕ). next_line s + n) (cut_counted after (lines_resumed d b h s) no_line one_more stay p.count m p.before p.inside p.read p.cut)

    counted_is : (w : Result (Totals × TightLines) (ℕ × Totals)) → Reads w → since_counted b (position_in s) w
        ≡ record {
          answer = cond (ltb (lines_resumed d b h s m) m) (Err (Truncated b (next_line s + lines_resumed d b h s m))) (Ok tt);
          totals = since_totals (position_in s) (totals_in (after (lines_resumed d b h s m)));
        }
    counted_is (Ok (all, tight)) p =
        let e : lines_resumed d b h s m ≡ m = all_counted after (lines_resumed d b h s) no_line one_more stay m p.end p.read in
        rw (e, le-ltb m m (omega arith), p.read, p.all_is)
    counted_is (Err (line, before)) p =
        let e : p.count ≡ lines_resumed d b h s m =
        cut_counted after (lines_resumed d b h s) no_line one_more stay p.count m p.before p.inside p.read p.cut in
        rw (← e, lt-ltb p.count m p.inside, p.read, p.line_is, p.totals_are)

-- ---- the image

-- a row is of line k or a later one exactly if its line is
row_from : (row k : ℕ) → leb (6 * k) row ≡ leb k (row / 6)
row_from row k =
    same_test (leb (6 * k) row) (leb k (row / 6))
    (λ t. le-leb k (row / 6) (let l = leb-true (6 * k) row t in omega arith))
    (λ t. le-leb (6 * k) row (let l = leb-true k (row / 6) t in omega arith))

turn : (s t u : Bool) → s && t && u ≡ u && s && t
turn s t true = and-true (s && t)
turn s t false = and-false (s && t)

module _ (d : List ℕ) (b : ℕ) (h : FujiHeader) (s : List ℕ) (r : Rect) (tile : List ℕ) (n : ℕ) (ok : Accepted h r n) where
  abbrev k : ℕ
  k = next_line s

  abbrev z : State
  z = loaded_state (form_of h) h.lossless (bases_in d b) s

  abbrev shown : Part → ℕ → ℕ
  shown a = shown_from (form_of h) (bases_in d b) (bytes_in d b) tile k z a

  -- an entry of block b is among lines k to m of its part exactly if its line is
  of_block : (m i : ℕ) → block_of r i ≡ b → in_rows (part_in r b) (6 * k) (6 * m) i
      ≡ ltb i (r.width * r.height) && leb k (line_of r i) && ltb (line_of r i) m
  of_block m i e =
      shown_inside (part_in r b) (6 * k) (6 * m) i ((one_block h r n ok b i).1 (sym e))
      ∙ rw (part_row r b i, part_bottom r b, row_place h r n i ok, row_from (r.y + i / r.width) k, row_line (r.y + i / r.width) m)
      (turn (leb k (line_of r i)) (ltb (line_of r i) m) (ltb i (r.width * r.height)))

  same_sample : (i : ℕ) → block_of r i ≡ b → shown (part_in r b) i ≡ resumed_sample d b h s r tile i
  unfolding emitted_sample resumed_picture
  same_sample i e = rw (part_column d h r tile b i e, part_row r b i)

  entry : (m : ℕ) (x y : List ℕ) → Changed (in_rows (part_in r b) (6 * k) (6 * m)) (shown (part_in r b)) x y → (i : ℕ)
      → get_or y i 0
      ≡ cond (ltb i (r.width * r.height) && eqb (block_of r i) b && leb k (line_of r i) && ltb (line_of r i) m) (resumed_sample d b h s r tile i) (get_or x i 0)
  entry m x y p i =
      by_test (eqb (block_of r i) b)
      (λ t. let e : block_of r i ≡ b = eqb-true _ _ t in p.entries i ∙ rw (of_block m i e, t, and-true (ltb i (r.width * r.height)), same_sample i e))
      (λ t.
      let other = eqb-false (block_of r i) b t in
      p.entries i
      ∙ rw (shown_outside (part_in r b) (6 * k) (6 * m) i (λ c. other (sym ((one_block h r n ok b i).0 c))), t, and-false (ltb i (r.width * r.height))))

  -- where no line is read nothing changes
  none_in : (x : Bool) (line : ℕ) → x && leb k line && ltb line (k + 0) ≡ false
  none_in x line =
      by_test (leb k line)
      (λ t. let l = leb-true k line t in rw (t, le-ltb line (k + 0) (omega arith), and-false (x && true)))
      (λ t. rw (t, and-false x))

  nothing_shown : (a : Part) (x y : List ℕ) → Changed (in_rows a (6 * k) (6 * (k + 0))) (shown a) x y → (i : ℕ)
      → get_or y i 0
      ≡ cond (ltb i (r.width * r.height) && eqb (block_of r i) b && leb k (line_of r i) && ltb (line_of r i) (k + 0)) (resumed_sample d b h s r tile i) (get_or x i 0)
  nothing_shown a x y p i =
      p.entries i
      ∙ rw (
        not_in a (6 * k) (6 * (k + 0)) i (λ c. absurd (omega (arith, c.first, c.last))),
        none_in (ltb i (r.width * r.height) && eqb (block_of r i) b) (line_of r i),
      )

  image_is : (t : Bool) (a : Part) (more : ℕ) → is_touched r b ≡ t → PartWanted r b a → more ≡ cond t (line_count r - k) 0
      → (w : Result (Totals × TightLines) (ℕ × Totals)) (scratch : Buffers) → Reads d b h s more scratch w → (x y : List ℕ)
      → ShownOn false (form_of h) (bases_in d b) (bytes_in d b) tile a k z w (k + more) x y
      → Changed (λ i. ltb i (r.width * r.height) && eqb (block_of r i) b && leb k (line_of r i) && ltb (line_of r i) (k + lines_resumed d b h s more))
      (resumed_sample d b h s r tile) x y
  image_is true a more e part em w scratch reads x y p =
      let q : Changed (in_rows a (6 * k) (6 * (k + lines_resumed d b h s more))) (shown a) x y = rw (lines_are d b h s more scratch w reads) at p in
      record { kept = p.kept; entries = entry (k + lines_resumed d b h s more) x y (rw (part.0 e) at q) }
  image_is false a more e part em w scratch reads x y p =
      let q : Changed (in_rows a (6 * k) (6 * (k + lines_resumed d b h s more))) (shown a) x y = rw (lines_are d b h s more scratch w reads) at p in
      let f : lines_resumed d b h s more ≡ 0 = rw em (no_line d b h s) in
      record { kept = p.kept; entries = rw f (nothing_shown a x y (rw f at q)) }

  -- both
  pub resumed_is : (a : Part) (more : ℕ) → PartWanted r b a → more ≡ lines_wanted b s r → (w : Result (Totals × TightLines) (ℕ × Totals)) (scratch : Buffers) → Reads d b h s more scratch w
      → (x y : List ℕ) → ShownOn false (form_of h) (bases_in d b) (bytes_in d b) tile a k z w (k + more) x y
      → (since_counted b (position_in s) w ≡ resumed_counted d b h s r) × Changed (is_resumed d b h s r) (resumed_sample d b h s r tile) x y
  unfolding is_resumed
  resumed_is a more part em w scratch reads x y p =
      (counted_is d b h s more scratch w reads ∙ rw em, rw em at (image_is (is_touched r b) a more refl part em w scratch reads x y p))

  -- of a reading of what the stream says of block b
  pub resumed_all : (F : Form) (bases bytes : List ℕ) (y₀ : State) (j at more : ℕ) (a : Part) (w : Result (Totals × TightLines) (ℕ × Totals)) (scratch : Buffers) (x y : List ℕ) (answer : Counted)
      → F ≡ form_of h → bases ≡ bases_in d b → bytes ≡ bytes_in d b → y₀ ≡ loaded_state F h.lossless bases s → j ≡ k → at ≡ position_in s
      → PartWanted r b a → more ≡ cond (is_touched r b) (line_count r - j) 0 → IsReadOn false F bases bytes j y₀ more scratch w
      → ShownOn false F bases bytes tile a j y₀ w (j + more) x y → answer ≡ since_counted b at w
      → (answer ≡ resumed_counted d b h s r) × Changed (is_resumed d b h s r) (resumed_sample d b h s r tile) x y
  resumed_all F bases bytes y₀ j at more a w scratch x y answer ef eb es ez ej ea part em reads p e =
      let q =
      resumed_is a more part (rw ej at em) w scratch (rw (ez, ef, eb, es, ej) at reads) x y (rw (ez, ef, eb, es, ej) at p) in
      (e ∙ rw ea q.0, q.1)

-- fewer lines are wanted than the region has
pub wanted_few : (t : Bool) (c j n : ℕ) → n ≡ cond t (c - j) 0 → n ≤ c
wanted_few true c j n e = omega (arith, e)
wanted_few false c j n e = omega (arith, e)

-- there is room for what is wanted
pub wanted_fits : (h : FujiHeader) (r : Rect) (n b : ℕ) (a : Part) (image : List ℕ) → Accepted h r n → length image ≡ n → PartWanted r b a → Fits a image
wanted_fits h r n b a image ok e part = go (leb (first_block r) b) (leb b (last_block r)) refl refl
  where
    go : (t u : Bool) → leb (first_block r) b ≡ t → leb b (last_block r) ≡ u → Fits a image
    go true true p q = rw (part.0 (rw (p, q))) (part_fits h r n ok b image e (leb-true (first_block r) b p) (leb-true b (last_block r) q))
    go true false p q = part.1 (rw (p, q)) image
    go false u p q = part.1 (rw p) image
