-- Every stream whose blocks are all read whole is decoded, and every lossy header has one: that of the set of zeros in each block. Assumes nothing.
use mathlib.Core.List.{List}
use mathlib.Core.Path.{◌≡◌, refl, sym, ◌∙◌}
use Prim.Native.Nat.{ℕ, zero, suc, ◌+◌, ◌-◌, ◌≤◌, ◌<◌}
use native.Mathlib.Omega.{arith}
use lib.ListN.{length, get_or, replicate, length-replicate}
use borrow.Author.Tests.{le-ltb}
use Rattle.quantiser.specs.Quantisers.{largest}
use Rattle.image_map.specs.Places.{width_of}
use Rattle.colour_lines.specs.Sets.{set_size}
use Rattle.stream.specs.declared.header.FujiHeader.{FujiHeader}
use Rattle.image_region.specs.Inside.{Accepted}
use Rattle.image_region.specs.Regions.{first_block, last_block, line_count}
use Rattle.image_region.specs.declared.Rect.{Rect}
use Rattle.image_region.proofs.RegionLaws.{block_inside, block_order, lines_inside}
use Rattle.admission.specs.Above.{is_ignored}
use Rattle.admission.proofs.CallLaws.{region_reads}
use Rattle.read_block.specs.Blocks.{State, read_line_at, start_state, read_lines}
use Rattle.read_block.specs.Images.{form_of, bytes_in, bases_in, lines_read, read_in, answer_of, Decoding}
use Rattle.read_block.specs.declared.Form.{Form}
use Rattle.read_block.proofs.DecodeLaws.{all_read}
use Rattle.read_block.proofs.RunLaws.{runs_stay}
use Rattle.write_block.specs.WrittenBlocks.{is_strict}
use Rattle.theorem_whole_streams.specs.Kinds.{Readable}
use Rattle.theorem_whole_streams.specs.LossyAccepted.{ReadableDecoded, SomethingLossyAccepted}
use Rattle.theorem_whole_streams.specs.LossyCopies.{lossy_of, LossyStream, LossyParts}
use Rattle.theorem_whole_streams.proofs.LossyCopiesHold.{lossy_stream, none_above}
use Rattle.std.specs.Prelude.{Ok, None, Option, Some}

-- ---- a stream that reads whole

-- where all lines are read, fewer are too
fewer_read : (F : Form) (bases s : List ℕ) (n m : ℕ) (z : State) → read_lines F bases s n ≡ Some z → m ≤ n → lines_read F bases s m ≡ m
unfolding read_lines
fewer_read F bases s n m z e h = go (read_lines F bases s m) refl
  where
    go : (o : Option State) → read_lines F bases s m ≡ o → lines_read F bases s m ≡ m
    go (Some y) f = all_read F bases s m y f
    go None f =
        let k : m + (n - m) ≡ n = omega arith in
        let g : read_lines F bases s n ≡ None = rw k at (runs_stay (read_line_at F bases s) (start_state F bases) m (n - m) f) in
        let c : Some z ≡ None = sym e ∙ g in
        let no : ◌≡◌ {A = ℕ} 0 1 = cc in
        absurd (omega arith)

module _ (stream : List ℕ) (h : FujiHeader) (R : Readable stream h) (r : Rect) (n : ℕ) (ok : Accepted h r n) where
  read : (b : ℕ) → b < h.blocks → read_in stream h r b ≡ line_count r
  read b low =
      let w = R.reads b low in
      fewer_read (form_of h) (bases_in stream b) (bytes_in stream b) h.lines (line_count r) w.0 w.1 (lines_inside h r n ok)

  blocks_done : (k : ℕ) → first_block r + k ≤ last_block r + 1 → answer_of stream h r k ≡ (Ok tt)
  unfolding answer_of
  blocks_done zero l = refl
  blocks_done (suc k) l =
      let low : first_block r + k < h.blocks = omega (arith, block_inside h r n ok) in
      rw (blocks_done k (omega arith), read (first_block r + k) low) (rw (le-ltb (line_count r) (line_count r) (omega arith)))

pub readable_decoded : ReadableDecoded
readable_decoded stream h R r tile before after answer begins L =
    let n : ℕ = length before.image in
    let ok = (region_reads stream r n (length before.lines) (length before.records) h begins).region in
    let D : Decoding stream h r tile before after answer = rw begins at L in
    D.answered ∙ blocks_done stream h R r n ok (last_block r + 1 - first_block r) (omega (arith, block_order h r n ok))

-- ---- a stream of zeros

zeros_low : (n M j : ℕ) → get_or (replicate n 0) j 0 ≤ M
zeros_low zero M j = omega arith
zeros_low (suc n) M zero = omega arith
zeros_low (suc n) M (suc j) = zeros_low n M j

pub something_lossy_accepted : SomethingLossyAccepted
something_lossy_accepted d h bytes e lossy bases rows =
    record {
      stream = lossy_of d h bases sets;
      bytes = S.bytes bytes (λ b l. (rows b l).0);
      opens = S.readable.opens;
      row = S.row;
      decoded = readable_decoded (lossy_of d h bases sets) h S.readable;
    }
  where
    size : ℕ
    size = set_size (width_of h.xtrans) h.lines

    sets : ℕ → List ℕ
    sets b = replicate size 0

    parts : LossyParts h bases sets
    parts =
        record {
          rows = λ b l. (rows b l).1;
          sizes = λ b l. length-replicate size 0;
          range = λ b l. none_above (is_ignored h.xtrans (is_strict (bases b))) (largest h.bits) 0 (replicate size 0) (zeros_low size (largest h.bits));
        }

    S : LossyStream d h bases sets
    S = lossy_stream d h e lossy bases sets parts
