-- A region has the whole picture's samples: first of calls that read, then of all calls. Assumes nothing.
use borrow.Author.Tests.{ltb-false, lt-ltb, le-ltb}
use mathlib.Core.Bool.{Bool, true, false, cond}
use mathlib.Core.List.{List}
use mathlib.Core.Path.{◌≡◌, refl, sym, ◌∙◌}
use Prim.Native.Nat.{ℕ, zero, suc, ◌+◌, ◌-◌, ◌*◌, ◌/◌, ◌%◌, ◌≤◌, ◌<◌}
use native.Mathlib.Nat.{mod-lt, mul_comm, zero-add}
use native.Mathlib.Omega.{arith}
use lib.Arith.{digits_div, digits_mod, digits_lt}
use lib.Dec.{ltb}
use lib.ListN.{get_or}
use Rattle.numbers.proofs.OrderLaws.{split}
use Rattle.stream.specs.declared.header.FujiHeader.{FujiHeader}
use Rattle.stream.specs.declared.header.Refusal.TheVariants.{Truncated}
use Rattle.image_region.specs.Regions.{block_of, first_block, last_block, line_count}
use Rattle.image_region.specs.Inside.{Accepted}
use Rattle.image_region.specs.declared.Rect.{Rect}
use Rattle.image_region.proofs.RegionLaws.{right_is, bottom_is, block_touched, block_order, lines_inside, row_inside}
use Rattle.read_block.specs.Blocks.{State, runs, read_line_at, start_state, read_lines}
use Rattle.read_block.specs.Images.{form_of, bytes_in, bases_in, is_read, lines_read, read_in, line_of, is_decoded, decoded_sample, or_else, answer_of}
use Rattle.read_block.specs.declared.Form.{Form}
use Rattle.read_block.proofs.RunLaws.{runs_stay}
use Rattle.theorem_regions.specs.Agreement.{FailsOn, whole}
use Rattle.std.specs.Prelude.{Err, Ok, Result, None, Option, Some}
use Rattle.stream.specs.declared.header.Refusal.{Refusal}

-- ---- lines that are read

true_false : {X : Type 0} → true ≡ false → X
true_false e = let no : ◌≡◌ {A = ℕ} 0 1 = cc in absurd (omega arith)

module _ (F : Form) (bases s : List ℕ) where
  abbrev R : ℕ → Bool
  R n = is_read (read_lines F bases s n)

  is_none : (o : Option State) → is_read o ≡ false → o ≡ None
  is_none None e = refl
  is_none (Some z) e = true_false e

  none_is : (o : Option State) → o ≡ None → is_read o ≡ false
  none_is o e = rw e

  -- after a truncated line none is read
  stays : (m k : ℕ) → R m ≡ false → R (m + k) ≡ false
  unfolding read_lines
  stays m k e = none_is (read_lines F bases s (m + k)) (runs_stay (read_line_at F bases s) (start_state F bases) m k (is_none (read_lines F bases s m) e))

  by : {X : Type 0} (b : Bool) → (b ≡ true → X) → (b ≡ false → X) → X
  by true f g = f refl
  by false f g = g refl

  before : (m n : ℕ) → m ≤ n → R n ≡ true → R m ≡ true
  before m n h e = by (R m) (λ t. t) (λ t. let g : n ≡ m + (n - m) = omega arith in true_false (sym e ∙ rw g (stays m (n - m) t)))

  step : (n : ℕ) (b : Bool) → R (suc n) ≡ b → lines_read F bases s (suc n) ≡ cond b (suc n) (lines_read F bases s n)
  unfolding lines_read
  step n b e = rw e

  none_read : lines_read F bases s 0 ≡ 0
  unfolding lines_read
  none_read = refl

  pub read_le : (n : ℕ) → lines_read F bases s n ≤ n
  read_le zero = rw none_read (omega arith)
  read_le (suc n) = by (R (suc n)) (λ t. rw (step n true t) (omega arith)) (λ t. rw (step n false t) (omega (arith, read_le n)))

  start_read : R 0 ≡ true
  unfolding read_lines runs
  start_read = refl

  -- how many are read: all, or those before the first that is truncated
  pub all_read : (n : ℕ) → R n ≡ true → lines_read F bases s n ≡ n
  all_read zero e = none_read
  all_read (suc n) e = step n true e

  pub read_all : (n : ℕ) → n ≤ lines_read F bases s n → R n ≡ true
  read_all zero h = start_read
  read_all (suc n) h = by (R (suc n)) (λ t. t) (λ t. let e = step n false t in absurd (omega (arith, e, read_le n)))

  -- as many as were read of fewer
  pub read_far : (m n : ℕ) → m ≤ n → R m ≡ true → m ≤ lines_read F bases s n
  read_far m zero h e = omega arith
  read_far m (suc n) h e =
      by (R (suc n))
      (λ t. rw (step n true t) h)
      (λ t.
      rw (step n false t)
      (split m n
      (λ k. read_far m n k e)
      (λ k. let g : m ≡ suc n = omega arith in true_false (sym e ∙ rw g t))))

  pub cut_at : (n : ℕ) → lines_read F bases s n < n → (R (lines_read F bases s n) ≡ true) × (R (suc (lines_read F bases s n)) ≡ false)
  cut_at zero h = absurd (omega arith)
  cut_at (suc n) h =
      by (R (suc n))
      (λ t. let e = step n true t in absurd (omega (arith, e)))
      (λ t.
      let e : lines_read F bases s (suc n) ≡ lines_read F bases s n = step n false t in
      rw e
      (split n (lines_read F bases s n)
      (λ k. let g : lines_read F bases s n ≡ n = omega (arith, read_le n) in rw g (read_all n k, t))
      (λ k. cut_at n k)))

-- ---- the answer

not_refused : (d : List ℕ) (h : FujiHeader) (r : Rect) (a : Result Unit Refusal) (x y : ℕ) (t : Bool) → or_else a (cond t (Err (Truncated x y)) (Ok tt)) ≡ (Ok tt)
    → (a ≡ (Ok tt)) × (t ≡ false)
not_refused d h r (Ok tt) x y true e = absurd (let no : ◌≡◌ {A = ℕ} 0 1 = cc in omega arith)
not_refused d h r (Ok tt) x y false e = (refl, refl)
not_refused d h r (Err z) x y t e = absurd (let no : ◌≡◌ {A = ℕ} 0 1 = cc in omega arith)

module _ (d : List ℕ) (h : FujiHeader) (r : Rect) where
  done_all : (n : ℕ) → answer_of d h r n ≡ (Ok tt) → (k : ℕ) → k < n → line_count r ≤ read_in d h r (first_block r + k)
  unfolding answer_of
  done_all zero e k l = absurd (omega arith)
  done_all (suc n) e k l =
      let b : ℕ = first_block r + n in
      let z = not_refused d h r (answer_of d h r n) b (read_in d h r b) (ltb (read_in d h r b) (line_count r)) e in
      split n k
      (λ g. let m : k ≡ n = omega arith in rw m (ltb-false (read_in d h r b) (line_count r) z.1))
      (λ g. done_all n z.0 k g)

  all_done : (n : ℕ) → ((k : ℕ) → k < n → line_count r ≤ read_in d h r (first_block r + k)) → answer_of d h r n ≡ (Ok tt)
  unfolding answer_of
  all_done zero f = refl
  all_done (suc n) f =
      rw (all_done n (λ k l. f k (omega arith)), le-ltb (read_in d h r (first_block r + n)) (line_count r) (f n (omega arith)))

-- ---- a call that reads

-- what it leaves, of any entry: its answer, and the samples of the lines that were read
pub record Reads (d : List ℕ) (h : FujiHeader) (r : Rect) (tile image' : List ℕ) (answer : Result Unit Refusal) : Type 0 where
  pub answered : answer ≡ answer_of d h r (last_block r + 1 - first_block r)
  pub samples : (i : ℕ) → is_decoded d h r (last_block r + 1) i ≡ true → get_or image' i 0 ≡ decoded_sample d h r tile i

-- ---- entries

module _ (d : List ℕ) (h : FujiHeader) (r : Rect) (n : ℕ) (ok : Accepted h r n) where
  -- where all lines of all blocks are read, each entry of the region is decoded
  all_decoded : ((k : ℕ) → first_block r ≤ k → k ≤ last_block r → line_count r ≤ read_in d h r k) → (i : ℕ) → i < r.width * r.height
      → is_decoded d h r (last_block r + 1) i ≡ true
  unfolding is_decoded
  all_decoded f i l =
      let t = block_touched h r n ok i in
      let row = (row_inside h r n ok i).1 l in
      let g : line_of r i < read_in d h r (block_of r i) = omega (arith, f (block_of r i) t.0 t.1, row) in
      rw (lt-ltb i (r.width * r.height) l, lt-ltb (block_of r i) (last_block r + 1) (omega (arith, t.1)), lt-ltb (line_of r i) (read_in d h r (block_of r i)) g)

  touched_done : answer_of d h r (last_block r + 1 - first_block r) ≡ (Ok tt) → (k : ℕ) → first_block r ≤ k → k ≤ last_block r → line_count r ≤ read_in d h r k
  touched_done e k l u =
      let g : first_block r + (k - first_block r) ≡ k = omega arith in
      rw g at (done_all d h r (last_block r + 1 - first_block r) e (k - first_block r) (omega arith))

  done_touched : ((k : ℕ) → first_block r ≤ k → k ≤ last_block r → line_count r ≤ read_in d h r k) → answer_of d h r (last_block r + 1 - first_block r) ≡ (Ok tt)
  done_touched f =
      all_done d h r (last_block r + 1 - first_block r) (λ k l. f (first_block r + k) (omega arith) (omega (arith, block_order h r n ok)))

-- ---- the theorem

module _ (d : List ℕ) (h : FujiHeader) (r : Rect) (tile all part : List ℕ) (a b : Result Unit Refusal) (n m : ℕ) (W : Accepted h (whole h) n) (ok : Accepted h r m)
    (A : Reads d h (whole h) tile all a) (B : Reads d h r tile part b) where
  abbrev F : Form
  F = form_of h

  -- the blocks and the lines of a region are the picture's
  inside_blocks : (k : ℕ) → k ≤ last_block r → (first_block (whole h) ≤ k) × (k ≤ last_block (whole h))
  inside_blocks k u =
      let e = right_is h (whole h) n W in
      let f = right_is h r m ok in
      (omega arith, omega (arith, e, f, ok.right, ok.wide))

  whole_lines : line_count (whole h) ≡ h.lines
  whole_lines = omega (arith, bottom_is h (whole h) n W, W.ruled.height_is, W.ruled.lines_low)

  -- all lines of a block are read as far as the region goes
  far : ℕ → Type 0
  far k = line_count r ≤ read_in d h r k

  pub read_accepted : a ≡ (Ok tt) → b ≡ (Ok tt)
  read_accepted e =
      B.answered ∙ done_touched d h r m ok (λ k l u.
      let i = inside_blocks k u in
      let w : line_count (whole h) ≤ read_in d h (whole h) k = touched_done d h (whole h) n W (sym A.answered ∙ e) k i.0 i.1 in
      let z = read_all F (bases_in d k) (bytes_in d k) (line_count (whole h)) w in
      let y = before F (bases_in d k) (bytes_in d k) (line_count r) (line_count (whole h)) (omega (arith, whole_lines, lines_inside h r m ok)) z in
      omega (arith, all_read F (bases_in d k) (bytes_in d k) (line_count r) y))

  pub read_only : b ≡ (Ok tt) → (k j : ℕ) → first_block r ≤ k → k ≤ last_block r → FailsOn d h k j → line_count r ≤ j
  read_only e k j l u f =
      split (line_count r) j
      (λ g. g)
      (λ g.
      let w = touched_done d h r m ok (sym B.answered ∙ e) k l u in
      let z = read_all F (bases_in d k) (bytes_in d k) (line_count r) w in
      let y = before F (bases_in d k) (bytes_in d k) (suc j) (line_count r) g z in
      true_false (sym y ∙ f.fails))

  pub read_if : ((k j : ℕ) → first_block r ≤ k → k ≤ last_block r → FailsOn d h k j → line_count r ≤ j) → b ≡ (Ok tt)
  read_if f =
      B.answered ∙ done_touched d h r m ok (λ k l u.
      split (line_count r) (read_in d h r k)
      (λ g. g)
      (λ g.
      let c = cut_at F (bases_in d k) (bytes_in d k) (line_count r) g in
      let s : FailsOn d h k (read_in d h r k) = record { line = omega (arith, g, lines_inside h r m ok); before = c.0; fails = c.1 } in
      absurd (omega (arith, f k (read_in d h r k) l u s, g))))

  pub read_same : b ≡ (Ok tt) → (i : ℕ) → i < r.width * r.height → get_or part i 0 ≡ get_or all ((r.y + i / r.width) * h.width + (r.x + i % r.width)) 0
  unfolding is_decoded
  read_same e i l =
      let f = touched_done d h r m ok (sym B.answered ∙ e) in
      let j : ℕ = (r.y + i / r.width) * h.width + (r.x + i % r.width) in
      let w : r.x + i % r.width < h.width = omega (arith, mod-lt i ok.wide, ok.right) in
      let q : j / h.width ≡ r.y + i / r.width = digits_div (r.y + i / r.width) w in
      let p : j % h.width ≡ r.x + i % r.width = digits_mod (r.y + i / r.width) w in
      B.samples i (all_decoded d h r m ok f i l)
      ∙ sym (A.samples j (there i l f q p) ∙ rw (q, p, zero-add (r.y + i / r.width), zero-add (r.x + i % r.width)))
    where
      there : (i : ℕ) → i < r.width * r.height → ((k : ℕ) → first_block r ≤ k → k ≤ last_block r → line_count r ≤ read_in d h r k)
          → ((r.y + i / r.width) * h.width + (r.x + i % r.width)) / h.width ≡ r.y + i / r.width
          → ((r.y + i / r.width) * h.width + (r.x + i % r.width)) % h.width ≡ r.x + i % r.width
          → is_decoded d h (whole h) (last_block (whole h) + 1) ((r.y + i / r.width) * h.width + (r.x + i % r.width)) ≡ true
      there i l f q p =
          let t = block_touched h r m ok i in
          let row = (row_inside h r m ok i).1 l in
          let w : r.x + i % r.width < h.width = omega (arith, mod-lt i ok.wide, ok.right) in
          let k : ℕ = block_of r i in
          let y : r.y + i / r.width < h.height = omega (arith, row, bottom_is h r m ok, ok.bottom) in
          let size : (r.y + i / r.width) * h.width + (r.x + i % r.width) < h.width * h.height = rw (mul_comm h.width h.height) (digits_lt y w) in
          let block : k < last_block (whole h) + 1 = omega (arith, inside_blocks k t.1) in
          let z = read_all F (bases_in d k) (bytes_in d k) (line_count r) (f k t.0 t.1) in
          let g = read_far F (bases_in d k) (bytes_in d k) (line_count r) (line_count (whole h)) (omega (arith, whole_lines, lines_inside h r m ok)) z in
          let line : line_of r i < read_in d h (whole h) k = omega (arith, g, row) in
          rw (lt-ltb _ _ size, q, p, zero-add (r.y + i / r.width), zero-add (r.x + i % r.width), lt-ltb k (last_block (whole h) + 1) block, lt-ltb (line_of r i) (read_in d h (whole h) k) line)
