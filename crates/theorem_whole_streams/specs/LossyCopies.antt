-- Promises. Lossy streams: of sets and bases, and working copies of a stream.
use Rattle.std.specs.Prelude.{false, List, ◌≡◌, ℕ, ◌<◌, length, get_or, take, Ok, None}
use Rattle.stream.specs.Headers.{parse_of}
use Rattle.stream.specs.declared.header.FujiHeader.{FujiHeader}
use Rattle.pass_schedule.specs.Steps.{is_interpolated}
use Rattle.image_map.specs.Places.{width_of}
use Rattle.colour_lines.specs.Sets.{set_size, line_at, colour_line_at, position_at}
use Rattle.theorem_one_to_one.specs.UsedBases.{IsNear}
use Rattle.read_block.specs.Images.{form_of, bytes_in, bases_in}
use Rattle.read_block.specs.Records.{base_of}
use Rattle.write_block.specs.WrittenAnswers.{above_in}
use Rattle.write_block.specs.WrittenBlocks.{written_block}
use Rattle.theorem_one_to_one.specs.Correspondence.{Bytes}
use Rattle.theorem_lossy.specs.LossyBlocks.{LossyBlock}
use Rattle.theorem_whole_streams.specs.Assembled.{assembled}
use Rattle.theorem_whole_streams.specs.Kinds.{flagged, with_flag, Readable, set_in}

-- ---- the lossy stream of some sets, with the header bytes of d, and a row of bases for each block

abbrev pub lossy_of : List ℕ → FujiHeader → (bases sets : ℕ → List ℕ) → List ℕ
lossy_of d h bases sets = assembled d h bases (λ b. written_block (form_of h) (bases b) h.lines (sets b))

pub record LossyStream (d : List ℕ) (h : FujiHeader) (bases sets : ℕ → List ℕ) : Type 0 where
  pub readable : Readable (lossy_of d h bases sets) h
  pub head : take 16 (lossy_of d h bases sets) ≡ take 16 d
  pub row : (b : ℕ) → b < h.blocks → bases_in (lossy_of d h bases sets) b ≡ bases b
  pub block : (b : ℕ) → b < h.blocks → LossyBlock (form_of h) (bases b) h.lines (sets b) (bytes_in (lossy_of d h bases sets) b)
  pub bytes : Bytes d → ((b : ℕ) → b < h.blocks → Bytes (bases b)) → Bytes (lossy_of d h bases sets)

-- under every lossy header: as many bases as lines for each block, and every set of the right size of which no sample that has a code is above 2^bits − 1
pub record LossyParts (h : FujiHeader) (bases sets : ℕ → List ℕ) : Type 0 where
  pub rows : (b : ℕ) → b < h.blocks → length (bases b) ≡ h.lines
  pub sizes : (b : ℕ) → b < h.blocks → length (sets b) ≡ set_size (width_of h.xtrans) h.lines
  pub range : (b : ℕ) → b < h.blocks → above_in (form_of h) (bases b) (sets b) ≡ None

abbrev pub LossyStreams : Type 0
LossyStreams =
    (d : List ℕ) (h : FujiHeader) → parse_of d ≡ Ok h → h.lossless ≡ false → (bases sets : ℕ → List ℕ) → LossyParts h bases sets
    → LossyStream d h bases sets

-- ---- a working copy of a stream, lossless or lossy

-- its header is the stream's with the flag cleared
abbrev pub lossy_header : FujiHeader → FujiHeader
lossy_header h = with_flag false h

abbrev pub lossy_copy : List ℕ → FujiHeader → (bases : ℕ → List ℕ) → List ℕ
lossy_copy d h bases = lossy_of (flagged false d) (lossy_header h) bases (set_in d h)

pub record LossyCopy (d : List ℕ) (h : FujiHeader) (bases : ℕ → List ℕ) : Type 0 where
  pub stream : LossyStream (flagged false d) (lossy_header h) bases (set_in d h)
  -- each sample that has a code is within the base of its line
  pub near : let W = width_of h.xtrans in
      (b j : ℕ) → b < h.blocks → j < set_size W h.lines → is_interpolated h.xtrans (colour_line_at W j) (position_at W j) ≡ false
      → IsNear (base_of (bases b) (line_at W j)) (get_or (set_in d h b) j 0) (get_or (set_in (lossy_copy d h bases) (lossy_header h) b) j 0)

abbrev pub LossyCopies : Type 0
LossyCopies =
    (d : List ℕ) (h : FujiHeader) → Readable d h → (bases : ℕ → List ℕ) → ((b : ℕ) → b < h.blocks → length (bases b) ≡ h.lines) → LossyCopy d h bases
