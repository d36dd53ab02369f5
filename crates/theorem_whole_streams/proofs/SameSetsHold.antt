-- Streams that have the same sets decode to the same samples and answers, lossless or lossy. Assumes nothing.
use mathlib.Core.Bool.{Bool, true, false, cond, ◌&&◌}
use mathlib.Core.List.{List, []}
use mathlib.Core.Path.{◌≡◌, refl, sym, ap, ◌∙◌}
use Prim.Native.Nat.{ℕ, zero, suc, ◌+◌, ◌-◌, ◌*◌, ◌/◌, ◌%◌, ◌≤◌, ◌<◌}
use native.Mathlib.Omega.{arith}
use lib.Dec.{ltb}
use lib.ListN.{length, get_or}
use lib.Seq.{ext_get_or}
use borrow.Author.Tests.{le-ltb, ltb-true}
use Rattle.pass_steps.specs.Contexts.{Depth}
use Rattle.stream.specs.Inside.{Ruled}
use Rattle.stream.specs.declared.header.FujiHeader.{FujiHeader}
use Rattle.stream.specs.Streams.{open_of}
use Rattle.stream.specs.Inside.{Opened}
use Rattle.stream.proofs.StreamLaws.{opened}
use Rattle.image_region.specs.Regions.{is_outside, checked_of, block_of, first_block, last_block, line_count}
use Rattle.image_region.specs.Inside.{Accepted}
use Rattle.image_region.specs.declared.Rect.{Rect}
use Rattle.image_region.proofs.RegionLaws.{block_inside, block_order, lines_inside}
use Rattle.stream.specs.declared.header.Refusal.TheVariants.{ShortScratch}
use Rattle.admission.specs.Beginnings.{is_short_scratch, begun, with_region, region_begins}
use Rattle.admission.proofs.CallLaws.{region_reads}
use Rattle.read_block.specs.Blocks.{read_lines, lines_of}
use Rattle.read_block.specs.Images.{form_of, bytes_in, bases_in, lines_read, read_in, line_of, is_decoded, picture_sample, decoded_sample, answer_of, Decoding, Left}
use Rattle.read_block.specs.Lent.{Buffers}
use Rattle.read_block.proofs.DecodeLaws.{all_read}
use Rattle.write_block.specs.WrittenBlocks.{write_lines}
use Rattle.theorem_one_to_one.specs.AcceptedStreams.{region_of}
use Rattle.theorem_whole_streams.specs.Kinds.{with_flag, Readable, set_in}
use Rattle.theorem_whole_streams.specs.Tightened.{SameSets, SamePicture, SameCalls, SetsDecode}
use Rattle.theorem_whole_streams.proofs.ReadRight.{fewer_read, lines_determined}
use Rattle.std.specs.Prelude.{Err, None, Ok, Option, Result, Some}
use Rattle.image_region.specs.declared.Span.{Span}
use Rattle.stream.specs.declared.header.Refusal.{Refusal}

pub depth_of : (d : List ℕ) (h : FujiHeader) → Readable d h → Depth (form_of h).bits
depth_of d h R = let r : Ruled h = (opened d h R.opens).ruled in (r.bits_low, r.bits_high)

same_buffers : (a b : Buffers) → a.image ≡ b.image → a.lines ≡ b.lines → a.records ≡ b.records → a ≡ b
same_buffers a b e f g =
    let made : ◌≡◌ {A = Buffers} (record { image = a.image; lines = a.lines; records = a.records })
    (record { image = b.image; lines = b.lines; records = b.records }) = rw (e, f, g) in
    made

-- ---- one stream: its lines go by its sets, and all of them are read

module _ (d : List ℕ) (h : FujiHeader) (R : Readable d h) where
  pub lines_by_set : (b n : ℕ) → b < h.blocks → n ≤ h.lines
      → lines_of (read_lines (form_of h) (bases_in d b) (bytes_in d b) n) ≡ (write_lines (form_of h) [] (set_in d h b) n).lines
  lines_by_set b n hb hn = lines_determined (form_of h) (bases_in d b) h.lines (bytes_in d b) (depth_of d h R) (R.reads b hb) n hn

  read_all : (r : Rect) (n : ℕ) → Accepted h r n → (b : ℕ) → b < h.blocks → read_in d h r b ≡ line_count r
  read_all r n ok b hb =
      let Z = R.reads b hb in
      let y = fewer_read (form_of h) (bases_in d b) (bytes_in d b) h.lines (line_count r) Z.0 Z.1 (lines_inside h r n ok) in
      all_read (form_of h) (bases_in d b) (bytes_in d b) (line_count r) y.0 y.1

  done : (r : Rect) (n : ℕ) → Accepted h r n → (k : ℕ) → first_block r + k ≤ last_block r + 1 → answer_of d h r k ≡ (Ok tt)
  unfolding answer_of
  done r n ok zero l = refl
  done r n ok (suc k) l =
      let read : read_in d h r (first_block r + k) ≡ line_count r = read_all r n ok (first_block r + k) (omega (arith, block_inside h r n ok)) in
      rw (done r n ok k (omega arith), read) (rw (le-ltb (line_count r) (line_count r) (omega arith)))

  answers : (r : Rect) (n : ℕ) → Accepted h r n → answer_of d h r (last_block r + 1 - first_block r) ≡ (Ok tt)
  answers r n ok = done r n ok (last_block r + 1 - first_block r) (omega (arith, block_order h r n ok))

-- ---- two streams

-- a region is accepted whatever the flag
pub ruled_flag : (lossless : Bool) (h : FujiHeader) → Ruled h → Ruled (with_flag lossless h)
ruled_flag lossless h r =
    record {
      bits_low = r.bits_low;
      bits_high = r.bits_high;
      bits_even = r.bits_even;
      blocks_low = r.blocks_low;
      blocks_high = r.blocks_high;
      lines_low = r.lines_low;
      lines_high = r.lines_high;
      height_is = r.height_is;
      rounded_is = r.rounded_is;
      width_high = r.width_high;
      width_low = r.width_low;
      block_size_is = r.block_size_is;
    }

other_accepted : (h : FujiHeader) (lossless : Bool) (r : Rect) (n : ℕ) → Accepted h r n → Accepted (with_flag lossless h) r n
other_accepted h lossless r n a =
    record { ruled = ruled_flag lossless h a.ruled; right = a.right; bottom = a.bottom; wide = a.wide; high = a.high; room = a.room }

other_checked : (h : FujiHeader) (lossless : Bool) (r : Rect) (n : ℕ) → checked_of (with_flag lossless h) r n ≡ checked_of h r n
unfolding checked_of is_outside
other_checked h lossless r n = refl

module _ (d e : List ℕ) (h : FujiHeader) (lossless : Bool) where
  abbrev g : FujiHeader
  g = with_flag lossless h

  module _ (R : Readable d h) (Q : Readable e g) (same : SameSets d e h g) where
    same_picture : SamePicture d e h g
    unfolding picture_sample
    same_picture tile row column hr hc =
        rw (lines_by_set d h R (column / 768) (suc (row / 6)) hc hr, lines_by_set e g Q (column / 768) (suc (row / 6)) hc hr, same (column / 768) hc)

    module _ (r : Rect) (n : ℕ) (ok : Accepted h r n) (tile : List ℕ) where
      ok' : Accepted g r n
      ok' = other_accepted h lossless r n ok

      -- an entry of the image
      entry : (i was : ℕ)
          → cond (is_decoded d h r (last_block r + 1) i) (decoded_sample d h r tile i) was ≡ cond (is_decoded e g r (last_block r + 1) i)
          (decoded_sample e g r tile i) was
      unfolding is_decoded
      entry i was = go (ltb i (r.width * r.height)) (ltb (block_of r i) (last_block r + 1)) refl
        where
          inside : (c : Bool) → ltb (line_of r i) (line_count r) ≡ c → block_of r i < h.blocks
              → cond c (decoded_sample d h r tile i) was ≡ cond c (decoded_sample e g r tile i) was
          inside false ec hb = refl
          inside true ec hb =
              let low : line_of r i < line_count r = ltb-true (line_of r i) (line_count r) ec in
              same_picture tile (r.y + i / r.width) (r.x + i % r.width) (omega (arith, lines_inside h r n ok)) hb

          go : (a b : Bool) → ltb (block_of r i) (last_block r + 1) ≡ b
              → cond (a && b && ltb (line_of r i) (read_in d h r (block_of r i))) (decoded_sample d h r tile i) was
              ≡ cond (a && b && ltb (line_of r i) (read_in e g r (block_of r i))) (decoded_sample e g r tile i) was
          go false b eb = refl
          go true false eb = refl
          go true true eb =
              let hb : block_of r i < h.blocks = omega (arith, ltb-true (block_of r i) (last_block r + 1) eb, block_inside h r n ok) in
              rw (read_all d h R r n ok (block_of r i) hb, read_all e g Q r n ok' (block_of r i) hb) (inside (ltb (line_of r i) (line_count r)) refl hb)

      same_left : (before after after' : Buffers) (answer answer' : Result Unit Refusal) → Decoding d h r tile before after answer → Decoding e g r tile before
          after' answer'
          → (answer ≡ answer') × (after ≡ after')
      same_left before after after' answer answer' D E =
          let image : after.image ≡ after'.image =
          ext_get_or 0 after.image after'.image (D.pictured.kept ∙ sym E.pictured.kept)
          (λ i l. D.pictured.entries i ∙ entry i (get_or before.image i 0) ∙ sym (E.pictured.entries i)) in
          let lines : after.lines ≡ after'.lines = D.lines ∙ sym E.lines in
          let records : after.records ≡ after'.records = D.records ∙ sym E.records in
          (D.answered ∙ answers d h R r n ok ∙ sym (E.answered ∙ answers e g Q r n ok'), same_buffers after after' image lines records)

    -- how a call begins goes by the region and the buffers alone
    begins : (r : Rect) (before : Buffers)
        → (region_of d r before ≡ with_region h (checked_of h r (length before.image)) (length before.lines) (length before.records))
        × (region_of e r before ≡ with_region g (checked_of h r (length before.image)) (length before.lines) (length before.records))
    unfolding region_begins
    begins r before = (rw R.opens, rw (Q.opens, other_checked h lossless r (length before.image)))

    same_calls : SameCalls d e
    same_calls r tile before after after' answer answer' L M =
        let b = begins r before in
        go (checked_of h r (length before.image)) b.0 (rw b.0 at L) (rw b.1 at M)
      where
        samples : ℕ
        samples = length before.lines

        records : ℕ
        records = length before.records

        Both : Type 0
        Both = (answer ≡ answer') × (after ≡ after')

        scratch : (short : Bool) → region_of d r before ≡ begun (cond short (Err ShortScratch) (Ok h))
            → Left d r tile (begun (cond short (Err ShortScratch) (Ok h))) before after answer
            → Left e r tile (begun (cond short (Err ShortScratch) (Ok g))) before after' answer' → Both
        scratch true eb l m = (l.0 ∙ sym m.0, l.1 ∙ sym m.1)
        scratch false eb l m =
            let A = region_reads d r (length before.image) samples records h eb in
            same_left r (length before.image) A.region tile before after after' answer answer' l m

        go : (c : Result (Option Span) Refusal) → region_of d r before ≡ with_region h c samples records → Left d r tile (with_region h c samples records) before after answer
            → Left e r tile (with_region g c samples records) before after' answer' → Both
        go (Err x) eb l m = (l.0 ∙ sym m.0, l.1 ∙ sym m.1)
        go (Ok None) eb l m = (l.0 ∙ sym m.0, l.1 ∙ sym m.1)
        go (Ok (Some s)) eb l m = scratch (is_short_scratch h.xtrans samples records) eb l m

pub sets_decode : SetsDecode
sets_decode d e h lossless R Q same =
    record { picture = same_picture d e h lossless R Q same; calls = same_calls d e h lossless R Q same }
