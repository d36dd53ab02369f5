-- Lossy streams and working copies. Assumes nothing.
use mathlib.Core.Bool.{Bool, false, ◌||◌}
use mathlib.Core.List.{List, [], ◌∷◌}
use mathlib.Core.Path.{◌≡◌, refl, sym, ap, ◌∙◌}
use Prim.Native.Nat.{ℕ, suc, ◌+◌, ◌*◌, ◌≤◌, ◌<◌}
use native.Mathlib.Omega.{arith}
use lib.Dec.{leb}
use lib.ListN.{length, get_or, take}
use borrow.Author.Tests.{le-leb}
use Rattle.bits.proofs.PackLaws.{bytes_bytes_of}
use Rattle.quantiser.specs.Quantisers.{largest}
use Rattle.stream.specs.Headers.{parse_of}
use Rattle.stream.specs.Inside.{Ruled}
use Rattle.stream.specs.declared.header.FujiHeader.{FujiHeader}
use Rattle.stream.proofs.HeaderLaws.{ruled}
use Rattle.pass_schedule.specs.Steps.{is_interpolated}
use Rattle.image_map.specs.Places.{width_of}
use Rattle.colour_lines.specs.Sets.{set_size, line_at, colour_line_at, position_at}
use Rattle.theorem_one_to_one.specs.UsedBases.{IsNear}
use Rattle.stream.specs.Streams.{row_length}
use Rattle.stream.proofs.StreamLaws.{opened}
use Rattle.admission.specs.Above.{is_ignored, first_above}
use Rattle.read_block.specs.Images.{form_of, bytes_in, bases_in}
use Rattle.read_block.specs.Records.{base_of}
use Rattle.read_block.specs.TightBlocks.{read_sample}
use Rattle.read_block.specs.declared.Form.{Form}
use Rattle.stream.specs.Lengths.{length_bound}
use Rattle.write_block.proofs.AnswerLaws.{none_wanted}
use Rattle.write_block.proofs.BoundLaws.{block_most}
use Rattle.write_block.specs.WrittenAnswers.{above_in}
use Rattle.write_block.specs.WrittenBlocks.{is_strict, write_lines, written_block}
use Rattle.theorem_one_to_one.specs.Correspondence.{Bytes}
use Rattle.theorem_lossy.specs.LossyBlocks.{LossyBlock, ReadsNear}
use Rattle.theorem_lossy.proofs.LossyHolds.{lossy_blocks}
use Rattle.theorem_whole_streams.specs.Assembled.{Parts, Assembling}
use Rattle.theorem_whole_streams.specs.Kinds.{flagged, with_flag, Readable, set_in}
use Rattle.theorem_whole_streams.specs.LossyCopies.{lossy_of, LossyStream, LossyParts, LossyStreams, lossy_header, lossy_copy, LossyCopy, LossyCopies}
use Rattle.theorem_whole_streams.specs.LengthBounds.{LossyCopyBound}
use Rattle.theorem_whole_streams.proofs.StandLaws.{length_most}
use Rattle.theorem_whole_streams.proofs.AssembledHolds.{assembled_opens}
use Rattle.theorem_whole_streams.proofs.KindsHold.{flagged_parses}
use Rattle.theorem_whole_streams.proofs.ReadRight.{set_size_lem, set_at, set_le}
use Rattle.theorem_whole_streams.proofs.SameSetsHold.{depth_of}
use Rattle.theorem_whole_streams.proofs.TightenedHolds.{written_short}
use Rattle.std.specs.Prelude.{Ok, None}

-- ---- of sets

module _ (d : List ℕ) (h : FujiHeader) (e : parse_of d ≡ Ok h) (lossy : h.lossless ≡ false) (bases sets : ℕ → List ℕ) (L : LossyParts h bases sets) where
  abbrev block : ℕ → List ℕ
  block b = written_block (form_of h) (bases b) h.lines (sets b)

  parts : Parts h bases block
  parts = record { rows_long = λ b l. L.rows b l ∙ rw lossy; short = λ b l. written_short h (ruled d h e) (bases b) (sets b) }

  A : Assembling d h bases block
  A = assembled_opens d h e bases block parts

  written : (b : ℕ) → b < h.blocks → LossyBlock (form_of h) (bases b) h.lines (sets b) (block b)
  written b l = (lossy_blocks d (bases b) (sets b) h e lossy (L.rows b l) (L.sizes b l) (L.range b l)).block

  are_bytes : (b : ℕ) → Bytes (block b)
  unfolding written_block
  are_bytes b = bytes_bytes_of (write_lines (form_of h) (bases b) (sets b) h.lines).bits

  pub lossy_stream : LossyStream d h bases sets
  lossy_stream =
      record {
        readable = record {
          opens = A.there.opens;
          reads = λ b l. let W = written b l in (W.end, rw (A.there.row b l, A.there.block b l) W.read);
        };
        head = A.head;
        row = A.there.row;
        block = λ b l. rw (A.there.block b l) (written b l);
        bytes = λ hd hb. A.bytes hd (λ b l. (hb b l, are_bytes b));
      }

pub lossy_streams : LossyStreams
lossy_streams d h e lossy bases sets L = lossy_stream d h e lossy bases sets L

-- ---- of a stream

pub none_above : (ignored : ℕ → Bool) (M i : ℕ) (t : List ℕ) → ((j : ℕ) → get_or t j 0 ≤ M) → first_above ignored M i t ≡ None
unfolding first_above
none_above ignored M i [] h = refl
none_above ignored M i (v ∷ t) h = rw (le-leb v M (h 0)) (none_above ignored M (suc i) t (λ j. h (suc j)))

module _ (d : List ℕ) (h : FujiHeader) (R : Readable d h) (bases : ℕ → List ℕ) (rows : (b : ℕ) → b < h.blocks → length (bases b) ≡ h.lines) where
  abbrev H : FujiHeader
  H = lossy_header h

  abbrev W : ℕ
  W = width_of h.xtrans

  e' : parse_of (flagged false d) ≡ Ok H
  e' = flagged_parses false d h (opened d h R.opens).parsed

  the_parts : LossyParts H bases (set_in d h)
  the_parts =
      record {
        rows = rows;
        sizes = λ b l. set_size_lem (form_of h) (bases_in d b) h.lines (bytes_in d b);
        range = λ b l.
            none_above (is_ignored h.xtrans (is_strict (bases b))) (largest h.bits) 0 (set_in d h b)
            (set_le (form_of h) (bases_in d b) h.lines (bytes_in d b) (depth_of d h R).1);
      }

  S : LossyStream (flagged false d) H bases (set_in d h)
  S = lossy_stream (flagged false d) H e' refl bases (set_in d h) the_parts

  wider : (a c v w : ℕ) → a ≤ c → IsNear a v w → IsNear c v w
  wider a c v w k n = (omega (arith, n.0), omega (arith, n.1))

  near : (b j : ℕ) → b < h.blocks → j < set_size W h.lines → is_interpolated h.xtrans (colour_line_at W j) (position_at W j) ≡ false
      → IsNear (base_of (bases b) (line_at W j)) (get_or (set_in d h b) j 0) (get_or (set_in (lossy_copy d h bases) H b) j 0)
  near b j hb hj f =
      let N : ReadsNear (form_of h) (bases b) (set_in d h b) (bytes_in (lossy_copy d h bases) b) j = (S.block b hb).near j hj f in
      rw (set_at (form_of h) (bases_in (lossy_copy d h bases) b) h.lines (bytes_in (lossy_copy d h bases) b) j hj, S.row b hb)
      (wider N.base (base_of (bases b) (line_at W j)) (get_or (set_in d h b) j 0) _ N.low N.near)

pub lossy_copies : LossyCopies
lossy_copies d h R bases rows = record { stream = S d h R bases rows; near = near d h R bases rows }

pub lossy_copy_bound : LossyCopyBound
lossy_copy_bound d h R bases rows =
    let L = the_parts d h R bases rows in
    let Z = A (flagged false d) (lossy_header h) (e' d h R bases rows) refl bases (set_in d h) L in
    let blocks : ℕ → List ℕ = λ b. written_block (form_of h) (bases b) h.lines (set_in d h b) in
    let each : (b : ℕ) → b < h.blocks → length (blocks b) ≤ length_bound h =
    λ b l. block_most (form_of h) (depth_of d h R) (set_in d h b) (none_wanted (form_of h) (bases b) (set_in d h b) (L.range b l)) (bases b) h.lines in
    omega (arith, Z.size, length_most blocks h.blocks (length_bound h) each h.blocks (omega arith))
