-- A state that was stored loads: its bytes give back what was stored, and they are refused neither as bad nor as another block's. Assumes nothing.
use borrow.Author.Tests.{lt-ltb, le-ltb, lt-leb, eq-eqb}
use mathlib.Core.Bool.{Bool, true, false, cond, not, ◌&&◌}
use mathlib.Core.List.{List}
use mathlib.Core.Path.{◌≡◌, refl, sym, ◌∙◌}
use Prim.Native.Nat.{ℕ, zero, suc, ◌+◌, ◌-◌, ◌*◌, ◌/◌, ◌%◌, ◌^◌, ◌≤◌, ◌<◌, min}
use native.Mathlib.Nat.{mod-lt, div-add-mod', div-div-eq-div-mul, div-eq_of_lt, div-one, div-lt_iff_lt-mul, min-eq_left, add-zero}
use native.Mathlib.Omega.{arith}
use lib.Dec.{eqb, lit<}
use lib.ListN.{length, get_or}
use lib.Pow.{pow_mono}
use Rattle.statistics.specs.Inside.{InRange}
use Rattle.statistics.specs.Statistics.{largest_residual}
use Rattle.statistics.specs.declared.Record.{Record}
use Rattle.pass_steps.specs.Contexts.{no_record, sample_in}
use Rattle.saved_state.specs.Heads.{be_byte, head_byte}
use Rattle.saved_state.specs.Checkpoints.{be_at, record_byte, is_flat, stored_record, records_byte, kept_line, lines_byte, Saved}
use Rattle.saved_state.specs.Checkpoints.{size_of_checkpoint, next_line, position_in, sum_in, n_in, stored_sample, bad_record, bad_sample}
use Rattle.saved_state.specs.Inside.{IsCheckpoint}
use Rattle.saved_state.specs.Checkpoints.{checkpoint_byte, bad_place, bad_checkpoint, other_checkpoint, checked_of, loaded_record}
use Rattle.saved_state.proofs.ByteLaws.{next_power, any_none}
use Rattle.std.specs.Prelude.{Ok}

-- ---- a number that was stored in n bytes

module _ (s : List ℕ) (i n x : ℕ) (small : x < 256 ^ n) (bytes : (k : ℕ) → k < n → get_or s (i + k) 0 ≡ be_byte n k x) where
  joined : (y : ℕ) → y / 256 * 256 + y % 256 ≡ y
  joined y = div-add-mod' y 256

  first : (k : ℕ) → k ≤ n → be_at s i k ≡ x / 256 ^ (n - k)
  unfolding be_at be_byte
  first zero h =
      let e : n - 0 ≡ n = omega arith in
      rw e (sym (div-eq_of_lt small))
  first (suc k) h =
      let m : ℕ = n - 1 - k in
      let e : n - k ≡ m + 1 = omega arith in
      let f : n - suc k ≡ m = omega arith in
      rw (first k (omega arith), bytes k (omega arith), e, f, next_power m, ← div-div-eq-div-mul x (256 ^ m) 256) (joined (x / 256 ^ m))

  pub back : be_at s i n ≡ x
  back =
      let e : n - n ≡ 0 = omega arith in
      first n (omega arith) ∙ rw e (div-one x)

-- ---- what is needed of a state, so that it loads: it was read within these bounds

pub record Storable (W bits lines bytes : ℕ) (z : Saved) : Type 0 where
  pub some : 1 ≤ W
  pub depth : bits ≤ 16
  pub few : lines < 2 ^ 16
  pub short : bytes < 2 ^ 32
  pub block_low : z.block < 256
  pub next : z.line + 1 ≤ lines
  pub at : z.at ≤ 8 * bytes + 7
  pub records : (j : ℕ) → j < 336 → InRange (get_or z.records j no_record)
  pub samples : (m p : ℕ) → m < 6 → p < W → sample_in W z.lines (kept_line m) p < 2 ^ bits

-- a record in range has a sum below 2^26
pub sum_small : (r : Record) → InRange r → r.sum < 2 ^ 26
sum_small r ok = omega (arith, ok.some, ok.most, ok.sums)

module _ (lossless : Bool) (W bits lines bytes : ℕ) (z : Saved) (s : List ℕ) (is : IsCheckpoint lossless W z s) (ok : Storable W bits lines bytes z) where
  -- ---- the head
  in_head : (i : ℕ) → i < 27 → get_or s i 0 ≡ head_byte z.stream z.block (z.line + 1) z.at i
  unfolding checkpoint_byte
  in_head i h = is.bytes i (omega arith) ∙ rw (lt-ltb i 27 h)

  pub header_back : (i : ℕ) → i < 16 → get_or s i 0 ≡ get_or z.stream i 0
  unfolding head_byte
  header_back i h = in_head i (omega arith) ∙ rw (lt-ltb i 16 h)

  pub block_back : get_or s 16 0 ≡ z.block
  unfolding head_byte be_byte
  block_back = in_head 16 (lit< tt) ∙ rw (div-one z.block) (omega (arith, ok.block_low))

  pub next_back : next_line s ≡ z.line + 1
  unfolding head_byte
  next_back =
      back s 17 2 (z.line + 1) (omega (arith, ok.few, ok.next))
      (λ k h. let e : 17 + k - 17 ≡ k = omega arith in
      in_head (17 + k) (omega arith) ∙ rw (le-ltb (17 + k) 16 (omega arith), le-ltb (17 + k) 17 (omega arith), lt-ltb (17 + k) 19 (omega arith), e))

  pub position_back : position_in s ≡ z.at
  unfolding head_byte
  position_back =
      back s 19 8 z.at (omega (arith, ok.at, ok.short))
      (λ k h. let e : 19 + k - 19 ≡ k = omega arith in
      in_head (19 + k) (omega arith) ∙ rw (le-ltb (19 + k) 16 (omega arith), le-ltb (19 + k) 17 (omega arith), le-ltb (19 + k) 19 (omega arith), e))

  -- ---- the records
  abbrev stored : ℕ → Record
  stored j = stored_record lossless j (get_or z.records j no_record)

  stored_in_range : (j : ℕ) → j < 336 → InRange (stored j)
  unfolding stored_record
  stored_in_range j h = go (lossless && is_flat j)
    where
      go : (t : Bool) → InRange (cond t (record { sum = 0; n = 1 }) (get_or z.records j no_record))
      go true = record { some = omega arith; most = omega arith; sums = omega arith }
      go false = ok.records j h

  in_record : (j k : ℕ) → j < 336 → k < 5 → get_or s (27 + 5 * j + k) 0 ≡ record_byte (stored j) k
  unfolding checkpoint_byte records_byte
  in_record j k h l =
      let e : 27 + 5 * j + k - 27 ≡ 5 * j + k = omega arith in
      let f : (5 * j + k) / 5 ≡ j = omega arith in
      let g : (5 * j + k) % 5 ≡ k = omega arith in
      is.bytes (27 + 5 * j + k) (omega arith)
      ∙ rw (le-ltb (27 + 5 * j + k) 27 (omega arith), lt-ltb (27 + 5 * j + k) 1707 (omega arith), e, f, g)

  pub sum_back : (j : ℕ) → j < 336 → sum_in s j ≡ (stored j).sum
  unfolding record_byte
  sum_back j h =
      back s (27 + 5 * j) 4 (stored j).sum (omega (arith, sum_small (stored j) (stored_in_range j h)))
      (λ k l. in_record j k h (omega arith) ∙ rw (lt-ltb k 4 l))

  pub n_back : (j : ℕ) → j < 336 → n_in s j ≡ (stored j).n
  unfolding record_byte
  n_back j h =
      back s (27 + 5 * j + 4) 1 (stored j).n (omega (arith, (stored_in_range j h).most))
      (λ k l. let e : k ≡ 0 = omega arith in rw (e, add-zero (27 + 5 * j + 4)) (in_record j 4 h (omega arith)))

  -- record j as it was, or a flat one of a lossless block as at the start
  pub record_back : (start : Record) (j : ℕ) → j < 336
      → loaded_record lossless start s j ≡ cond (lossless && is_flat j) start (get_or z.records j no_record)
  unfolding loaded_record stored_record
  record_back start j h = go (lossless && is_flat j) refl
    where
      go : (t : Bool) → (lossless && is_flat j) ≡ t
          → cond t start (record { sum = min (sum_in s j) (n_in s j * largest_residual); n = n_in s j }) ≡ cond t start (get_or z.records j no_record)
      go true e = refl
      go false e =
          let r : stored j ≡ get_or z.records j no_record = rw e in
          rw (sum_back j h, n_back j h, r, min-eq_left (ok.records j h).sums)

  -- ---- the samples
  pub sample_back : (j : ℕ) → j < 6 * W → stored_sample s j ≡ sample_in W z.lines (kept_line (j / W)) (j % W)
  unfolding checkpoint_byte lines_byte
  sample_back j h =
      back s (1707 + 2 * j) 2 (sample_in W z.lines (kept_line (j / W)) (j % W))
      (let p : 2 ^ bits ≤ 2 ^ 16 = pow_mono ok.depth in omega (arith, sample_low j h))
      (λ k l.
      let e : 1707 + 2 * j + k - 1707 ≡ 2 * j + k = omega arith in
      let f : (2 * j + k) / 2 ≡ j = omega arith in
      let g : (2 * j + k) % 2 ≡ k = omega arith in
      is.bytes (1707 + 2 * j + k) (omega arith)
      ∙ rw (le-ltb (1707 + 2 * j + k) 27 (omega arith), le-ltb (1707 + 2 * j + k) 1707 (omega arith), e, f, g))
    where
      sample_low : (j : ℕ) → j < 6 * W → sample_in W z.lines (kept_line (j / W)) (j % W) < 2 ^ bits
      sample_low j h = ok.samples (j / W) (j % W) ((div-lt_iff_lt-mul ok.some).1 h) (mod-lt j ok.some)

  -- ---- what is not refused
  place_good : bad_place lines bytes s ≡ false
  unfolding bad_place
  place_good = rw (next_back, position_back, le-ltb lines (z.line + 1) ok.next, le-ltb (8 * bytes + 7) z.at ok.at)

  record_good : (j : ℕ) → j < 336 → bad_record s j ≡ false
  unfolding bad_record
  record_good j h =
      let r = stored_in_range j h in
      let low = sum_small (stored j) r in
      rw (sum_back j h, n_back j h, lt-leb (2 ^ 26) (stored j).sum low, le-ltb (stored j).n 1 r.some, le-ltb 64 (stored j).n r.most)

  sample_good : (j : ℕ) → j < 6 * W → bad_sample bits s j ≡ false
  unfolding bad_sample
  sample_good j h =
      rw (sample_back j h)
      (lt-leb (2 ^ bits) (sample_in W z.lines (kept_line (j / W)) (j % W))
      (ok.samples (j / W) (j % W) ((div-lt_iff_lt-mul ok.some).1 h) (mod-lt j ok.some)))

  pub not_bad : bad_checkpoint W bits lines bytes s ≡ false
  unfolding bad_checkpoint
  not_bad =
      let whole = eq-eqb (length s) (size_of_checkpoint W) is.whole in
      rw (whole, place_good, any_none (bad_record s) 336 record_good, any_none (bad_sample bits s) (6 * W) sample_good)

  -- in any stream that begins with the same 16 bytes
  module _ (d : List ℕ) (same : (i : ℕ) → i < 16 → get_or z.stream i 0 ≡ get_or d i 0) where
    pub not_other : other_checkpoint d z.block s ≡ false
    unfolding other_checkpoint
    not_other =
        rw (
          any_none (λ i. not (eqb (get_or s i 0) (get_or d i 0))) 16 (λ i h. rw (eq-eqb (get_or s i 0) (get_or d i 0) (header_back i h ∙ same i h))),
          eq-eqb (get_or s 16 0) z.block block_back,
        )

    -- a state that was stored loads, and goes on after its line
    pub stored_loads : checked_of W bits lines bytes d z.block s ≡ Ok ((z.line + 1), z.at)
    unfolding checked_of
    stored_loads = rw (not_bad, not_other, next_back, position_back)
