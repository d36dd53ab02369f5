-- Going on from a state that was stored: what is read, and the answer. Assumes nothing.
use mathlib.Core.Bool.{Bool, true, false, cond}
use mathlib.Core.List.{List}
use mathlib.Core.Path.{◌≡◌, refl, sym, ◌∙◌}
use Prim.Native.Nat.{ℕ, zero, suc, ◌+◌, ◌-◌, ◌*◌, ◌/◌, ◌%◌, ◌^◌, ◌≤◌, ◌<◌}
use native.Mathlib.Nat.{add-zero, add-suc}
use native.Mathlib.Numerals.{add-one}
use native.Mathlib.Omega.{arith}
use borrow.Author.Tests.{ltb-true, ltb-false, lt-ltb, le-ltb}
use lib.Dec.{ltb, eqb}
use lib.ListN.{length, get_or}
use Rattle.numbers.proofs.OrderLaws.{split}
use Rattle.image_map.specs.Places.{width_of, colour_line, place_in, tile_at, sample_index}
use Rattle.image_map.proofs.PartLaws.{by_test}
use Rattle.image_map.proofs.PlaceLaws.{place_lt}
use Rattle.stream.specs.Inside.{Ruled}
use Rattle.stream.specs.Streams.{open_of, range_of, size_of, block_start}
use Rattle.stream.specs.Ranges.{cut}
use Rattle.stream.specs.declared.header.FujiHeader.{FujiHeader}
use Rattle.stream.specs.declared.header.Refusal.{Refusal}
use Rattle.stream.specs.declared.header.Refusal.TheVariants.{Truncated}
use Rattle.stream.proofs.StreamLaws.{opened, range_opened, part_lt, row_lossless}
use Rattle.image_region.specs.Regions.{line_count}
use Rattle.image_region.specs.declared.Rect.{Rect}
use Rattle.saved_state.specs.Inside.{IsCheckpoint}
use Rattle.saved_state.specs.Checkpoints.{next_line, position_in}
use Rattle.saved_state.proofs.StateLaws.{Storable, next_back, position_back}
use Rattle.read_block.specs.Blocks.{State, read_lines, lines_of}
use Rattle.saved_state.specs.BlockStates.{saved_of, loaded_state}
use Rattle.read_block.specs.Images.{form_of, bytes_in, bases_in, is_read, lines_read, read_in, picture_sample, block_answer}
use Rattle.saved_state.specs.Resuming.{resumed_after, lines_resumed, is_touched, resumed_picture, resumed_answer, checked_in}
use Rattle.read_block.specs.declared.Form.{Form}
use Rattle.read_block.proofs.DecodeLaws.{stay_none, all_read}
use Rattle.saved_state.proofs.LoadLaws.{read_loads}
use Rattle.read_block.proofs.ResumeLaws.{goes_on, from_none}
use Rattle.theorem_going_on.proofs.CountLaws.{Both}
use Rattle.theorem_going_on.proofs.LoadedLaws.{ok, loaded_near}
use Rattle.theorem_going_on.proofs.NearLaws.{Fresh, fresh_all, Alike-from, from_near}
use Rattle.std.specs.Prelude.{Err, Ok, None, Option, Some, Result}

-- ---- the block of a stream of bytes is short, since its size has 4 bytes

pub block_short : (d : List ℕ) (h : FujiHeader) (b : ℕ) → open_of d ≡ Ok h → b < h.blocks → ((i : ℕ) → get_or d i 0 < 256) → length (bytes_in d b) < 2 ^ 32
block_short d h b o l bytes = part_lt d (range_of d b) (rw (range_opened d b h o, lt-ltb b h.blocks l) fits)
  where
    fits : cut d (block_start d h b + size_of d b) - cut d (block_start d h b) < 2 ^ 32
    fits = omega (arith, bytes (16 + 4 * b), bytes (16 + 4 * b + 1), bytes (16 + 4 * b + 2), bytes (16 + 4 * b + 3))

-- ---- where a sample stands among the colour lines

fresh_colour : (t r : ℕ) → r < 6 → Fresh (colour_line t r)
unfolding colour_line
fresh_colour t r h =
    by_test (eqb t 0)
    (λ e. rw e (record { low = omega arith; high = omega arith; green = λ k. omega arith; blue = λ k. omega arith }))
    (λ e. by_test (eqb t 2)
    (λ f. rw (e, f) (record { low = omega arith; high = omega arith; green = λ k. omega arith; blue = λ k. omega arith }))
    (λ f. rw (e, f) (record { low = omega arith; high = omega arith; green = λ k. omega arith; blue = λ k. omega arith })))

-- ---- going on

-- the bytes c hold the state z of block b of the stream d after line n. They may have been stored in another stream with the same first 16 bytes
pub record Holds (d : List ℕ) (h : FujiHeader) (b n : ℕ) (z : State) (c : List ℕ) : Type 0 where
  pub opens : open_of d ≡ Ok h
  pub block : b < h.blocks
  pub short : length (bytes_in d b) < 2 ^ 32
  pub line : n < h.lines
  pub read : read_lines (form_of h) (bases_in d b) (bytes_in d b) (suc n) ≡ Some z
  pub from : List ℕ
  pub same : (i : ℕ) → i < 16 → get_or from i 0 ≡ get_or d i 0
  pub bytes : IsCheckpoint h.lossless (width_of h.xtrans) (saved_of from b n z) c

module _ (d : List ℕ) (h : FujiHeader) (b n : ℕ) (z : State) (c : List ℕ) (g : Holds d h b n z c) where
  abbrev F : Form
  F = form_of h

  abbrev B : List ℕ
  B = bases_in d b

  abbrev S : List ℕ
  S = bytes_in d b

  abbrev W : ℕ
  W = width_of h.xtrans

  abbrev ruled : Ruled h
  ruled = (opened d h g.opens).ruled

  few : h.lines < 2 ^ 16
  few = omega (arith, ruled.lines_high)

  low : b < 256
  low = omega (arith, ruled.blocks_high, g.block)

  next : n + 1 ≤ h.lines
  next = omega (arith, g.line)

  -- it loads
  pub loads : checked_in d b h c ≡ Ok ((n + 1), z.at.0)
  loads = read_loads F B S ruled.bits_high g.short h.lines few g.from d b n z h.lossless c low next g.same g.read g.bytes

  storable : Storable W h.bits h.lines (length S) (saved_of g.from b n z)
  storable = ok F B S ruled.bits_high g.short h.lines few g.from b n z h.lossless c low next g.read g.bytes (row_lossless d h b g.opens)

  pub next_is : next_line c ≡ suc n
  next_is = next_back h.lossless W h.bits h.lines (length S) (saved_of g.from b n z) c g.bytes storable ∙ add-one n

  pub position_is : position_in c ≡ z.at.0
  position_is = position_back h.lossless W h.bits h.lines (length S) (saved_of g.from b n z) c g.bytes storable

  abbrev pub Pair : ℕ → State → State → Type 0
  Pair m = Alike-from F ruled.bits_high S z.long B m

  -- m lines from there on are those of the reading from the top
  pub alike : (m : ℕ) → Both (Pair m) (read_lines F B S (suc n + m)) (resumed_after d b h c m)
  alike m =
      rw (next_is, ← goes_on F B S (suc n) m z g.read)
      (from_near F ruled.bits_high S z.long B (suc n) m z (loaded_state F h.lossless B c)
      (loaded_near F B S ruled.bits_high g.short h.lines few g.from b n z h.lossless c low next g.read g.bytes
      (row_lossless d h b g.opens)))

  both_read : (R : State → State → Type 0) (x y : Option State) → Both R x y → is_read x ≡ is_read y
  both_read R None None a = refl
  both_read R None (Some y) a = absurd a
  both_read R (Some x) None a = absurd a
  both_read R (Some x) (Some y) a = refl

  pub read_same : (m : ℕ) → is_read (read_lines F B S (suc n + m)) ≡ is_read (resumed_after d b h c m)
  read_same m = both_read (Pair m) (read_lines F B S (suc n + m)) (resumed_after d b h c m) (alike m)

  -- how many are read
  pub count : (m : ℕ) → lines_read F B S (suc n + m) ≡ suc n + lines_resumed d b h c m
  unfolding lines_read lines_resumed
  count zero = rw (add-zero (suc n)) (all_read F B S (suc n) z g.read)
  count (suc m) = rw (add-suc (suc n) m) (go (is_read (resumed_after d b h c (suc m))) (rw (add-suc (suc n) m) at (read_same (suc m))) (count m))
    where
      go : (t : Bool) → is_read (read_lines F B S (suc (suc n + m))) ≡ t → lines_read F B S (suc n + m) ≡ suc n + lines_resumed d b h c m
          → cond (is_read (read_lines F B S (suc (suc n + m)))) (suc (suc n + m)) (lines_read F B S (suc n + m))
          ≡ suc n + cond t (suc m) (lines_resumed d b h c m)
      go true e k = rw e (omega arith)
      go false e k = rw e k

  -- those before the state's are read
  pub before_read : (m : ℕ) → m ≤ suc n → lines_read F B S m ≡ m
  before_read m l = go (read_lines F B S m) refl
    where
      go : (x : Option State) → read_lines F B S m ≡ x → lines_read F B S m ≡ m
      go (Some y) e = all_read F B S m y e
      go None e =
          let f : m + (suc n - m) ≡ suc n = omega arith in
          let k = rw f at (stay_none F B S m (suc n - m) e) in
          let e' = g.read in
          absurd (let no : ◌≡◌ {A = ℕ} 0 1 = cc in omega arith)

  -- the last of those that are said to be read is read
  pub reached : (m : ℕ) → is_read (resumed_after d b h c (lines_resumed d b h c m)) ≡ true
  unfolding lines_resumed
  reached zero = rw (from_none F B S (next_line c) (loaded_state F h.lossless B c))
  reached (suc m) = by_test (is_read (resumed_after d b h c (suc m))) (λ e. rw e e) (λ e. rw e (reached m))

  -- ---- a region

  module _ (r : Rect) where
    -- it ends before the next line, and nothing is read; or as many lines are read from there on as from the top
    pub data Reach : Type 0 where
      ended : line_count r ≤ suc n → lines_resumed d b h c (line_count r - next_line c) ≡ 0 → read_in d h r b ≡ line_count r → Reach
      goes : suc n ≤ line_count r → read_in d h r b ≡ suc n + lines_resumed d b h c (line_count r - next_line c) → Reach

    pub reach : Reach
    unfolding lines_resumed
    reach =
        split (line_count r) (suc n)
        (λ l.
        let e : line_count r - next_line c ≡ 0 = omega (arith, next_is) in
        ended l (rw e) (before_read (line_count r) l))
        (λ l.
        let e : line_count r - next_line c ≡ line_count r - suc n = rw next_is in
        let f : suc n + (line_count r - suc n) ≡ line_count r = omega arith in
        goes (omega arith) (rw e (rw f at (count (line_count r - suc n)))))

    -- so the answer is that of the reading from the top
    pub answer_same : is_touched r b ≡ true → resumed_answer d b h c r ≡ block_answer F B S b (line_count r)
    answer_same t = rw t (by reach)
      where
        by : Reach
            → ◌≡◌ {A = Result Unit Refusal}
            (cond (ltb (lines_resumed d b h c (line_count r - next_line c)) (line_count r - next_line c))
            (Err (Truncated b (next_line c + lines_resumed d b h c (line_count r - next_line c)))) (Ok tt))
            (cond (ltb (read_in d h r b) (line_count r)) (Err (Truncated b (read_in d h r b))) (Ok tt))
        by (ended l e f) =
            rw (e, f, le-ltb (line_count r) (line_count r) (omega arith), le-ltb 0 (line_count r - next_line c) (omega (arith, next_is)))
        by (goes l e) =
            by_test (ltb (lines_resumed d b h c (line_count r - next_line c)) (line_count r - next_line c))
            (λ k.
            let u = ltb-true (lines_resumed d b h c (line_count r - next_line c)) (line_count r - next_line c) k in
            let v : read_in d h r b < line_count r = omega (arith, u, e, next_is) in
            let w : next_line c + lines_resumed d b h c (line_count r - next_line c) ≡ read_in d h r b = omega (arith, e, next_is) in
            rw (k, lt-ltb (read_in d h r b) (line_count r) v, w))
            (λ k.
            let u = ltb-false (lines_resumed d b h c (line_count r - next_line c)) (line_count r - next_line c) k in
            let v : line_count r ≤ read_in d h r b = omega (arith, u, e, next_is) in
            rw (k, le-ltb (read_in d h r b) (line_count r) v))

    pub untouched_done : is_touched r b ≡ false → resumed_answer d b h c r ≡ (Ok tt)
    unfolding lines_resumed
    untouched_done t = rw t

  -- ---- the samples

  pub sample_same : (tile : List ℕ) (row column : ℕ) → column / 768 ≡ b → suc n ≤ row / 6
      → resumed_picture d b h c tile row column ≡ picture_sample d h tile row column
  unfolding resumed_picture picture_sample sample_index
  sample_same tile row column e l =
      let m : ℕ = suc (row / 6 - next_line c) in
      let f : suc n + m ≡ suc (row / 6) = omega (arith, next_is) in
      rw e (sym (shown (row / 6 - next_line c) (read_lines F B S (suc (row / 6))) (resumed_after d b h c m) (rw f at (alike m))))
    where
      colour : ℕ
      colour = colour_line (tile_at tile (row % 6) (column % 768)) (row % 6)

      shown : (m : ℕ) (x y : Option State) → Both (Pair (suc m)) x y
          → get_or (lines_of x) (colour * (W + 2) + 1 + place_in h.xtrans (column % 768)) 0
          ≡ get_or (lines_of y) (colour * (W + 2) + 1 + place_in h.xtrans (column % 768)) 0
      shown m None None a = refl
      shown m None (Some y) a = absurd a
      shown m (Some x) None a = absurd a
      shown m (Some x) (Some y) a =
          let p = place_lt h.xtrans (column % 768) (omega arith) in
          let f = fresh_colour (tile_at tile (row % 6) (column % 768)) (row % 6) (omega arith) in
          let j : colour * (W + 2) + 1 + place_in h.xtrans (column % 768) ≡ colour * (W + 2) + (1 + place_in h.xtrans (column % 768)) = omega arith in
          rw j (a.1 (omega arith) colour (1 + place_in h.xtrans (column % 768)) f (fresh_all colour f) (omega (arith, p)))
