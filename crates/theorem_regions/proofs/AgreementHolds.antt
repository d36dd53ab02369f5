-- A region has the whole picture's samples: of calls with buffers that are long enough, by what each promises. Assumes nothing.
use borrow.Author.Tests.{ltb-true, le-ltb, le-leb, eq-eqb}
use mathlib.Core.Bool.{Bool, true, false, cond, ◌&&◌, false≢true}
use mathlib.Core.List.{List}
use mathlib.Core.Path.{◌≡◌, refl, sym, ◌∙◌}
use Prim.Native.Nat.{ℕ, ◌+◌, ◌*◌, ◌≤◌, ◌<◌}
use native.Mathlib.Nat.{min-eq_left, zero-mul, mul-zero}
use native.Mathlib.Omega.{arith}
use lib.Dec.{ltb, leb}
use lib.ListN.{length, get_or}
use Rattle.numbers.proofs.OrderLaws.{split}
use Rattle.stream.specs.Inside.{Ruled}
use Rattle.stream.specs.Streams.{open_of}
use Rattle.stream.specs.declared.header.FujiHeader.{FujiHeader}
use Rattle.stream.proofs.StreamLaws.{opened}
use Rattle.image_region.specs.Regions.{block_of, right_of, bottom_of, is_outside, is_empty, checked_of, span_of, last_block}
use Rattle.image_region.specs.Inside.{Accepted}
use Rattle.image_region.specs.declared.Rect.{Rect}
use Rattle.image_region.proofs.CheckLaws.{not_empty, has_samples}
use Rattle.admission.specs.Beginnings.{samples_needed, records_needed, with_scratch, with_region, region_begins, image_begins}
use Rattle.read_block.specs.Lent.{Buffers}
use Rattle.read_block.specs.Images.{read_in, line_of, is_decoded, decoded_sample, Decoding, Left}
use Rattle.read_block.specs.WindowedImages.{is_reached, reached_sample, WindowedDecoding, LeftWindowed}
use Rattle.theorem_regions.specs.Agreement.{whole, Entry, decode, decode_region, decode_region_windowed, Call, LongEnough}
use Rattle.theorem_regions.specs.Agreement.{Within, Touches, Agreement, WholeAndRegion}
use Rattle.theorem_regions.proofs.AgreementLaws.{Reads, read_accepted, read_only, read_if, read_same}
use Rattle.std.specs.Prelude.{None, Ok, Option, Result, Some}
use Rattle.stream.specs.declared.header.Refusal.{Refusal}

-- ---- how such a call begins

-- n samples of the image, and so many of scratch and records, that are enough for the entry with 18 lines
module _ (d : List ℕ) (h : FujiHeader) (r : Rect) (o : open_of d ≡ Ok h) (w : Within h r) (n samples records : ℕ)
    (image : r.width * r.height ≤ n) (lines : samples_needed h.xtrans ≤ samples) (rs : records_needed ≤ records) where
  abbrev ruled : Ruled h
  ruled = (opened d h o).ruled

  right_is : right_of r ≡ r.x + r.width
  right_is = min-eq_left (omega (arith, w.right, ruled.width_high, ruled.blocks_high))

  bottom_is : bottom_of r ≡ r.y + r.height
  bottom_is = min-eq_left (omega (arith, w.bottom, ruled.height_is, ruled.lines_high))

  inside : is_outside h r n ≡ false
  unfolding is_outside
  inside =
      rw (right_is, bottom_is, le-ltb h.width (r.x + r.width) w.right, le-ltb h.height (r.y + r.height) w.bottom, le-ltb n (r.width * r.height) image)

  enough : with_scratch h samples records ≡ Ok h
  enough = rw (le-ltb samples (samples_needed h.xtrans) lines, le-ltb records records_needed rs)

  -- nothing is to be done, or the region is read
  begins : with_region h (checked_of h r n) samples records ≡ cond (is_empty r) (Ok None) (Ok (Some h))
  unfolding checked_of
  begins = rw inside (by (is_empty r))
    where
      by : (t : Bool) → with_region h (cond t (Ok None) (Ok (Some (span_of r)))) samples records ≡ cond t (Ok None) (Ok (Some h))
      by true = refl
      by false = rw enough

  region_begins_lem : region_begins d r n samples records ≡ cond (is_empty r) (Ok None) (Ok (Some h))
  unfolding region_begins
  region_begins_lem = rw o begins

  image_begins_lem : r ≡ whole h → image_begins d h.width h.height n samples records ≡ cond (is_empty r) (Ok None) (Ok (Some h))
  unfolding image_begins
  image_begins_lem is = rw (o, eq-eqb h.width h.width refl, eq-eqb h.height h.height refl, ← is) begins

-- ---- a call that reads, and one that has nothing to do

-- an entry whose line was read is one of those that windows reach, and it shows its sample
decoded_reached : (p q : Bool) (a b x y z : ℕ) → (p && q && ltb a b) ≡ true → cond (p && q && leb a b) (cond (ltb a b) x y) z ≡ x
decoded_reached false q a b x y z t = absurd (false≢true t)
decoded_reached true false a b x y z t = absurd (false≢true t)
decoded_reached true true a b x y z t = rw (t, le-leb a b (omega (arith, ltb-true a b t)))

data Ends (d : List ℕ) (h : FujiHeader) (r : Rect) (tile image' : List ℕ) (answer : Result Unit Refusal) (n : ℕ) : Type 0 where
  reads : Accepted h r n → Reads d h r tile image' answer → Ends d h r tile image' answer n
  empty : is_empty r ≡ true → answer ≡ (Ok tt) → Ends d h r tile image' answer n

module _ (d : List ℕ) (h : FujiHeader) (r : Rect) (tile : List ℕ) (before after : Buffers) (answer : Result Unit Refusal) (o : open_of d ≡ Ok h)
    (w : Within h r) (room : r.width * r.height ≤ length before.image) where
  abbrev Ended : Type 0
  Ended = Ends d h r tile after.image answer (length before.image)

  ended : is_empty r ≡ false → Reads d h r tile after.image answer → Ended
  ended t z =
      let p = not_empty r t in
      reads (record { ruled = (opened d h o).ruled; right = w.right; bottom = w.bottom; wide = p.0; high = p.1; room = room }) z

  -- the samples of the lines that were read are there, whether a truncated line is left as it was or shows 0
  plain_reads : Decoding d h r tile before after answer → Reads d h r tile after.image answer
  plain_reads z = record { answered = z.answered; samples = λ i t. z.pictured.entries i ∙ rw t }

  windowed_reads : WindowedDecoding d h r tile before after answer → Reads d h r tile after.image answer
  unfolding is_decoded is_reached reached_sample
  windowed_reads z = record { answered = z.answered; samples = λ i t. z.pictured.entries i ∙ reached i t }
    where
      reached : (i : ℕ) → is_decoded d h r (last_block r + 1) i ≡ true
          → cond (is_reached d h r (last_block r + 1) i) (reached_sample d h r tile i) (get_or before.image i 0) ≡ decoded_sample d h r tile i
      reached i t =
          decoded_reached (ltb i (r.width * r.height)) (ltb (block_of r i) (last_block r + 1)) (line_of r i) (read_in d h r (block_of r i)) _ _ _ t

  by_begin : (g : Result (Option FujiHeader) Refusal) → g ≡ cond (is_empty r) (Ok None) (Ok (Some h)) → Left d r tile g before after answer → Ended
  by_begin g e z = go (is_empty r) refl (rw e at z)
    where
      go : (t : Bool) → is_empty r ≡ t → Left d r tile (cond t (Ok None) (Ok (Some h))) before after answer → Ended
      go true t z = empty t z.0
      go false t z = ended t (plain_reads z)

  by_windowed : (g : Result (Option FujiHeader) Refusal) → g ≡ cond (is_empty r) (Ok None) (Ok (Some h)) → LeftWindowed d r tile g before after answer → Ended
  by_windowed g e z = go (is_empty r) refl (rw e at z)
    where
      go : (t : Bool) → is_empty r ≡ t → LeftWindowed d r tile (cond t (Ok None) (Ok (Some h))) before after answer → Ended
      go true t z = empty t z.0
      go false t z = ended t (windowed_reads z)

-- of each entry
call_ends : (e : Entry) (d : List ℕ) (h : FujiHeader) (r : Rect) (tile : List ℕ) (before after : Buffers) (answer : Result Unit Refusal)
    → open_of d ≡ Ok h → Within h r → LongEnough e h r before → Call e d h r tile before after answer
    → Ends d h r tile after.image answer (length before.image)
call_ends decode d h r tile before after answer o w l z =
    by_begin d h r tile before after answer o w l.image _
    (image_begins_lem d h r o w (length before.image) (length before.lines) (length before.records) l.image l.lines l.records z.0) z.1
call_ends decode_region d h r tile before after answer o w l z =
    by_begin d h r tile before after answer o w l.image _
    (region_begins_lem d h r o w (length before.image) (length before.lines) (length before.records) l.image l.lines l.records) z
call_ends decode_region_windowed d h r tile before after answer o w l z =
    by_windowed d h r tile before after answer o w l.image _
    (region_begins_lem d h r o w (length before.image) (2 * length before.lines) (length before.records) l.image (omega (arith, l.lines))
    l.records) z

-- ---- the theorem

-- the whole picture is not empty
never_empty : (h : FujiHeader) → Ruled h → is_empty (whole h) ≡ true → ⊥
never_empty h u e = false≢true (sym (has_samples (whole h) (omega (arith, u.width_low, u.blocks_low)) (omega (arith, u.height_is, u.lines_low))) ∙ e)

-- a region with an entry has both sides
sides : (w k i : ℕ) → i < w * k → (1 ≤ w) × (1 ≤ k)
sides w k i l = (
  split w 0 (λ e. let z : w ≡ 0 = omega arith in absurd (omega (arith, rw (z, zero-mul k) at l))) (λ p. p),
  split k 0 (λ e. let z : k ≡ 0 = omega arith in absurd (omega (arith, rw (z, mul-zero w) at l))) (λ p. p),
)

module _ (d : List ℕ) (h : FujiHeader) (r : Rect) (tile all part : List ℕ) (a b : Result Unit Refusal) (n m : ℕ) where
  agreement : Ends d h (whole h) tile all a n → Ends d h r tile part b m → Ruled h → Agreement d h r all part a b
  agreement (empty t e) y u = absurd (never_empty h u t)
  agreement (reads W A) (reads ok B) u =
      record {
        accepted = read_accepted d h r tile all part a b n m W ok A B;
        exactly = (
          λ e k j t f. read_only d h r tile all part a b n m W ok A B e k j t.from t.to f,
          λ f. read_if d h r tile all part a b n m W ok A B (λ k j l v g. f k j (record { wide = ok.wide; high = ok.high; from = l; to = v }) g),
        );
        same = read_same d h r tile all part a b n m W ok A B;
      }
  agreement (reads W A) (empty t e) u =
      record {
        accepted = λ z. e;
        exactly = (λ z k j x f. absurd (no_block t x), λ f. e);
        same = λ z i l. absurd (no_entry_lem t l);
      }
    where
      no_block : {k : ℕ} → is_empty r ≡ true → Touches r k → ⊥
      no_block t x = false≢true (sym (has_samples r x.wide x.high) ∙ t)

      no_entry_lem : {i : ℕ} → is_empty r ≡ true → i < r.width * r.height → ⊥
      no_entry_lem t l = let p = sides r.width r.height _ l in false≢true (sym (has_samples r p.0 p.1) ∙ t)

whole_within : (h : FujiHeader) → Within h (whole h)
whole_within h = record { right = omega arith; bottom = omega arith }

pub whole_and_region : WholeAndRegion
whole_and_region d h r tile e e' all all' part part' a b o w l l' x y =
    agreement d h r tile all'.image part'.image a b (length all.image) (length part.image)
    (call_ends e d h (whole h) tile all all' a o (whole_within h) l x) (call_ends e' d h r tile part part' b o w l' y) (opened d h o).ruled
