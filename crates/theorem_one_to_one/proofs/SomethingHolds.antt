-- Every lossless header has a stream that is accepted: that of the set of zeros in each block. Assumes nothing.
use mathlib.Core.Bool.{true}
use mathlib.Core.List.{List, []}
use mathlib.Core.Path.{◌≡◌, refl, sym, ◌∙◌}
use Prim.Native.Nat.{ℕ, zero, suc, ◌+◌, ◌-◌, ◌^◌, ◌≤◌, ◌<◌}
use native.Mathlib.Omega.{arith}
use lib.ListN.{length, replicate}
use borrow.Author.Tests.{le-ltb}
use Rattle.bits.proofs.PackLaws.{length_bytes_of}
use Rattle.image_map.specs.Places.{width_of}
use Rattle.stream.specs.Headers.{parse_of}
use Rattle.stream.specs.Inside.{Ruled}
use Rattle.stream.specs.Streams.{open_of}
use Rattle.stream.specs.declared.header.FujiHeader.{FujiHeader}
use Rattle.stream.proofs.HeaderLaws.{ruled}
use Rattle.image_region.specs.Inside.{Accepted}
use Rattle.image_region.specs.Regions.{first_block, last_block, line_count}
use Rattle.image_region.specs.declared.Rect.{Rect}
use Rattle.image_region.proofs.RegionLaws.{block_inside, block_order, lines_inside}
use Rattle.colour_lines.specs.Sets.{set_size}
use Rattle.read_block.specs.Blocks.{State, read_line_at, start_state, read_lines}
use Rattle.admission.proofs.CallLaws.{region_reads}
use Rattle.read_block.specs.Images.{form_of, bytes_in, lines_read, read_in, answer_of, Decoding, Left}
use Rattle.read_block.specs.Lent.{Buffers}
use Rattle.read_block.specs.TightBlocks.{Tight}
use Rattle.write_block.specs.WrittenBlocks.{write_lines, written_block, tight_block}
use Rattle.read_block.specs.declared.Form.{Form}
use Rattle.read_block.proofs.DecodeLaws.{all_read}
use Rattle.read_block.proofs.RunLaws.{runs_stay}
use Rattle.write_block.proofs.WalkLaws.{lines_short}
use Rattle.theorem_one_to_one.specs.Correspondence.{Bytes}
use Rattle.theorem_one_to_one.specs.AcceptedStreams.{region_of, SomethingAccepted}
use Rattle.theorem_one_to_one.proofs.CorrespondenceHolds.{correspondence_of_headers, no_bases}
use Rattle.theorem_one_to_one.proofs.PredictedBlocks.{fits_is}
use Rattle.theorem_one_to_one.proofs.ZerosFit.{zeros_fit}
use Rattle.theorem_one_to_one.proofs.StreamOfBlocks.{stream_of, stream_bytes, opens, block_there}
use Rattle.std.specs.Prelude.{Ok, Result, Some, None, Option}
use Rattle.stream.specs.declared.header.Refusal.{Refusal}

-- where all lines are read, fewer are too
fewer_read : (F : Form) (s : List ℕ) (n m : ℕ) (z : State) → read_lines F [] s n ≡ Some z → m ≤ n → lines_read F [] s m ≡ m
unfolding read_lines
fewer_read F s n m z e h = go (read_lines F [] s m) refl
  where
    go : (o : Option State) → read_lines F [] s m ≡ o → lines_read F [] s m ≡ m
    go (Some y) f = all_read F [] s m y f
    go None f =
        let k : m + (n - m) ≡ n = omega arith in
        let g : read_lines F [] s n ≡ None = rw k at (runs_stay (read_line_at F [] s) (start_state F []) m (n - m) f) in
        let c : Some z ≡ None = sym e ∙ g in
        let no : ◌≡◌ {A = ℕ} 0 1 = cc in
        absurd (omega arith)

module _ (d : List ℕ) (h : FujiHeader) (bytes : Bytes d) (e : parse_of d ≡ Ok h) (lossless : h.lossless ≡ true) where
  abbrev F : Form
  F = form_of h

  abbrev zeros : List ℕ
  zeros = replicate (set_size (width_of h.xtrans) h.lines) 0

  -- its tight block
  block : List ℕ
  block = tight_block F h.lines zeros

  R : Ruled h
  R = ruled d h e

  short : length block < 2 ^ 32
  unfolding block written_block
  short =
      let l = lines_short F [] zeros h.lines R.bits_high in
      omega (arith, length_bytes_of (write_lines F [] zeros h.lines).bits, l, R.lines_high)

  W : Bytes block × Tight F h.lines block
  unfolding block
  W = let w = (correspondence_of_headers d h e lossless).written zeros ((fits_is F h.lines zeros).0 (zeros_fit F h.lines)) in (w.0, w.1)

  stream : List ℕ
  stream = stream_of d h e lossless block short

  stream_opens : open_of stream ≡ Ok h
  unfolding stream
  stream_opens = opens d h e lossless block short

  there : (b : ℕ) → b < h.blocks → bytes_in stream b ≡ block
  unfolding stream
  there = block_there d h e lossless block short

  are_bytes : Bytes stream
  unfolding stream
  are_bytes = stream_bytes d h e lossless block short bytes W.0

  decoded : (r : Rect) (n : ℕ) → Accepted h r n → (k : ℕ) → first_block r + k ≤ last_block r + 1 → answer_of stream h r k ≡ (Ok tt)
  unfolding answer_of
  decoded r n ok zero l = refl
  decoded r n ok (suc k) l = rw (decoded r n ok k (omega arith), read) (rw (le-ltb (line_count r) (line_count r) (omega arith)))
    where
      b : ℕ
      b = first_block r + k

      low : b < h.blocks
      low = omega (arith, block_inside h r n ok)

      read : read_in stream h r (first_block r + k) ≡ line_count r
      read =
          rw (no_bases stream h stream_opens lossless b, there b low)
          (fewer_read F block h.lines (line_count r) W.1.end W.1.read (lines_inside h r n ok))

  called : (r : Rect) (tile : List ℕ) (before after : Buffers) (answer : Result Unit Refusal) → region_of stream r before ≡ Ok (Some h)
      → Left stream r tile (region_of stream r before) before after answer → answer ≡ (Ok tt)
  called r tile before after answer begins L =
      let ok = (region_reads stream r (length before.image) (length before.lines) (length before.records) h begins).region in
      let D : Decoding stream h r tile before after answer = rw begins at L in
      D.answered ∙ decoded r (length before.image) ok (last_block r + 1 - first_block r) (omega (arith, block_order h r (length before.image) ok))

pub something_accepted : SomethingAccepted
something_accepted d h bytes e lossless =
    record {
      stream = stream d h bytes e lossless;
      bytes = are_bytes d h bytes e lossless;
      opens = stream_opens d h bytes e lossless;
      tight = λ b l. rw (there d h bytes e lossless b l) (W d h bytes e lossless).1;
      decoded = λ r tile before after answer e' L. called d h bytes e lossless r tile before after answer e' L;
    }
