-- The image after some lines, and after a walk. Assumes nothing.
use borrow.Author.Tests.{lt-ltb, le-ltb}
use mathlib.Core.Bool.{Bool, true, false, cond, not, ◌&&◌}
use mathlib.Core.List.{List}
use mathlib.Core.Path.{◌≡◌, ◌∙◌}
use Prim.Native.Nat.{ℕ, suc, ◌+◌, ◌-◌, ◌*◌, ◌/◌}
use native.Mathlib.Numerals.{add-one}
use native.Mathlib.Omega.{arith}
use lib.Dec.{ltb}
use Rattle.line_totals.specs.declared.Totals.{Totals}
use Rattle.line_totals.specs.declared.TightLines.{TightLines}
use Rattle.image_map.specs.Places.{width_of, Changed}
use Rattle.image_map.specs.Inside.{picture_row, in_rows, emitted_sample, Emitted}
use Rattle.image_map.specs.Rows.{RowsPut}
use Rattle.image_map.specs.Zeros.{LineZeroed}
use Rattle.image_map.specs.declared.Part.{Part}
use Rattle.image_map.proofs.PartLaws.{InRows, by_test, put_none, put_same, put_join}
use Rattle.read_block.specs.Blocks.{State, start_state, read_from, lines_of}
use Rattle.read_block.specs.Walks.{shown_sample, shown_from, ShownFrom, shown_lines}
use Rattle.read_block.specs.WindowedLines.{Held, OnlyLine, reached_lines, ShownIn, ShownOn}
use Rattle.read_block.specs.declared.Form.{Form}
use Rattle.read_block.proofs.ResumeLaws.{from_top}
use Rattle.std.specs.Prelude.{Err, Ok, Result}

-- before the first line it is as it was
pub shown_none : (F : Form) (bases s tile : List ℕ) (first : ℕ) (z : State) (a : Part) (image : List ℕ) → ShownFrom F bases s tile first z a 0 image image
shown_none F bases s tile first z a image =
    put_none (shown_from F bases s tile first z a) a (6 * first) (6 * (first + 0)) image (λ i h. omega (arith, h.first, h.last))

-- line n goes to the image pass by pass in windows, and all at once elsewhere
line_put : (windowed xtrans : Bool) (W : ℕ) (tile l v : List ℕ) (a : Part) (n : ℕ) (x y z : List ℕ) → let U = width_of xtrans in
    W ≡ U → Held windowed U 6 l v → Changed (λ i. windowed && in_rows a (6 * n) (6 * n + 6) i) (emitted_sample xtrans U tile l a) x y
    → Changed (λ i. not windowed && in_rows a (6 * n) (6 * n + 6) i) (emitted_sample xtrans W tile v a) y z → Emitted xtrans U tile l a n x z
line_put true xtrans W tile l v a n x y z eW held p q = record { kept = q.kept ∙ p.kept; entries = λ i. q.entries i ∙ p.entries i }
line_put false xtrans W tile l v a n x y z eW held p q =
    record { kept = q.kept ∙ p.kept; entries = λ i. q.entries i ∙ rw (eW, held, p.entries i) }

module _ (F : Form) (bases s tile : List ℕ) (first : ℕ) (start : State) (a : Part) where
  abbrev W : ℕ
  W = width_of F.xtrans

  abbrev shown : ℕ → ℕ
  shown = shown_from F bases s tile first start a

  -- with one line more
  module _ (n : ℕ) (x y z lines : List ℕ) (now : lines_of (read_from F bases s first start (n + 1)) ≡ lines)
      (so_far : ShownFrom F bases s tile first start a n x y) (put : Emitted F.xtrans W tile lines a (first + n) y z) where
    of_line : (i : ℕ) → InRows a (6 * (first + n)) (6 * (first + n) + 6) i → emitted_sample F.xtrans W tile lines a i ≡ shown i
    of_line i h =
        let e : picture_row a i / 6 - first ≡ n = omega (arith, h.first, h.last) in
        let f : lines_of (read_from F bases s first start (suc n)) ≡ lines = rw add-one at now in
        rw (e, f)

    shown_with : ShownFrom F bases s tile first start a (n + 1) x z
    shown_with =
        let e : 6 * (first + (n + 1)) ≡ 6 * (first + n) + 6 = omega arith in
        rw e (put_join shown a (6 * first) (6 * (first + n)) (6 * (first + n) + 6) x y z (omega arith) (omega arith) so_far
        (put_same (emitted_sample F.xtrans W tile lines a) shown a (6 * (first + n)) (6 * (first + n) + 6) y z of_line put))

  pub shown_more : (windowed : Bool) (n U : ℕ) (x y y' z l v : List ℕ) → U ≡ W → lines_of (read_from F bases s first start (n + 1)) ≡ l
      → ShownFrom F bases s tile first start a n x y → Held windowed W 6 l v
      → Changed (λ i. windowed && in_rows a (6 * (first + n)) (6 * (first + n) + 6) i) (emitted_sample F.xtrans W tile l a) y y'
      → Changed (λ i. not windowed && in_rows a (6 * (first + n)) (6 * (first + n) + 6) i) (emitted_sample F.xtrans U tile v a) y' z
      → ShownFrom F bases s tile first start a (n + 1) x z
  shown_more windowed n U x y y' z l v eW now so_far held p q =
      shown_with n x y z l now so_far (line_put windowed F.xtrans U tile l v a (first + n) y y' z eW held p q)

  -- ---- what reading leaves

  -- the sample that an entry shows after reading in windows: 0 from line m on
  abbrev or_zero : ℕ → ℕ → ℕ
  or_zero m i = cond (ltb (picture_row a i / 6) m) (shown i) 0

  lines_above : (n : ℕ) (x y : List ℕ) → ShownFrom F bases s tile first start a n x y → RowsPut (or_zero (first + n)) a (6 * first) (6 * (first + n)) x y
  lines_above n x y so_far =
      put_same shown (or_zero (first + n)) a (6 * first) (6 * (first + n)) x y
      (λ i h. rw (lt-ltb (picture_row a i / 6) (first + n) (omega (arith, h.last)))) so_far

  -- after all lines
  pub shown_all : (windowed : Bool) (all : Totals) (tight : TightLines) (n more : ℕ) (x y : List ℕ) → n ≡ more
      → ShownFrom F bases s tile first start a n x y → ShownOn windowed F bases s tile a first start (Ok (all, tight)) (first + more) x y
  shown_all false all tight n more x y e so_far = rw e at so_far
  shown_all true all tight n more x y e so_far = rw e at (lines_above n x y so_far)

  -- after a truncated line, which in windows has left some of its samples, and then is 0
  pub shown_cut : (windowed : Bool) (before : Totals) (n end : ℕ) (x y y' z : List ℕ) → ShownFrom F bases s tile first start a n x y
      → OnlyLine windowed a (first + n) y y' → LineZeroed windowed a (first + n) y' z
      → ShownOn windowed F bases s tile a first start (Err ((first + n), before)) end x z
  shown_cut false before n end x y y' z so_far only zeroed =
      record { kept = zeroed.kept ∙ only.kept ∙ so_far.kept; entries = λ i. zeroed.entries i ∙ only.entries i ∙ so_far.entries i }
  shown_cut true before n end x y y' z so_far only zeroed =
      let m : ℕ = first + n in
      let e : 6 * suc m ≡ 6 * m + 6 = omega arith in
      rw e (put_join (or_zero m) a (6 * first) (6 * m) (6 * m + 6) x y z (omega arith) (omega arith) (lines_above n x y so_far)
      (put_same (λ i. 0) (or_zero m) a (6 * m) (6 * m + 6) y z (λ i h. rw (le-ltb (picture_row a i / 6) m (omega (arith, h.first)))) cut))
    where
      cut : RowsPut (λ i. 0) a (6 * (first + n)) (6 * (first + n) + 6) y z
      cut =
          record {
            kept = zeroed.kept ∙ only.kept;
            entries = λ i. zeroed.entries i ∙ by_test (in_rows a (6 * (first + n)) (6 * (first + n) + 6) i) (λ t. rw t) (λ t. rw t (only.entries i ∙ rw t));
          }

-- from the top it is what a walk leaves
shown_same : (F : Form) (bases s tile : List ℕ) (z : State) (a : Part) (i : ℕ) → z ≡ start_state F bases
    → shown_from F bases s tile 0 z a i ≡ shown_sample F bases s tile a i
shown_same F bases s tile z a i e =
    let f : picture_row a i / 6 - 0 ≡ picture_row a i / 6 = omega arith in
    rw (e, f, from_top F bases s (suc (picture_row a i / 6)))

pub shown_top : (windowed : Bool) (F : Form) (bases s tile : List ℕ) (z : State) (a : Part) (r : Result (Totals × TightLines) (ℕ × Totals)) (end count : ℕ) (x y : List ℕ)
    → z ≡ start_state F bases → end ≡ count → ShownOn windowed F bases s tile a 0 z r end x y → ShownIn windowed F bases s tile a r count x y
shown_top false F bases s tile z a r end count x y e g p =
    rw g at (put_same (shown_from F bases s tile 0 z a) (shown_sample F bases s tile a) a 0 (6 * shown_lines r end) x y (λ i h. shown_same F bases s tile z a i e) p)
shown_top true F bases s tile z a r end count x y e g p =
    rw g at (put_same
    (λ i. cond (ltb (picture_row a i / 6) (shown_lines r end)) (shown_from F bases s tile 0 z a i) 0)
    (λ i. cond (ltb (picture_row a i / 6) (shown_lines r end)) (shown_sample F bases s tile a i) 0)
    a 0 (6 * reached_lines r end) x y (λ i h. rw (shown_same F bases s tile z a i e)) p)
