-- Promises. Tight streams: of sets, and of the sets of a stream. The tight stream of a stream is lossless and decodes to the same samples.
use Rattle.std.specs.Prelude.{Bool, true, List, [], ◌↔◌, ◌≡◌, ℕ, ◌/◌, ◌<◌, take, Ok, Result}
use Rattle.stream.specs.Headers.{parse_of}
use Rattle.stream.specs.declared.header.FujiHeader.{FujiHeader}
use Rattle.image_region.specs.declared.Rect.{Rect}
use Rattle.read_block.specs.Images.{form_of, bytes_in, picture_sample, Left}
use Rattle.read_block.specs.Lent.{Buffers}
use Rattle.read_block.specs.TightBlocks.{Tight}
use Rattle.write_block.specs.WrittenBlocks.{tight_block}
use Rattle.theorem_one_to_one.specs.AcceptedStreams.{region_of}
use Rattle.theorem_one_to_one.specs.Correspondence.{Bytes}
use Rattle.theorem_one_to_one.specs.PredictedSets.{PredictedSet}
use Rattle.theorem_whole_streams.specs.Assembled.{assembled}
use Rattle.theorem_whole_streams.specs.Kinds.{flagged, with_flag, Readable, set_in}
use Rattle.stream.specs.declared.header.Refusal.{Refusal}

-- ---- the tight stream of some sets, with the header bytes of d

abbrev pub stream_of : List ℕ → FujiHeader → (ℕ → List ℕ) → List ℕ
stream_of d h sets = assembled d h (λ b. []) (λ b. tight_block (form_of h) h.lines (sets b))

pub record TightStream (d : List ℕ) (h : FujiHeader) (sets : ℕ → List ℕ) : Type 0 where
  pub readable : Readable (stream_of d h sets) h
  pub head : take 16 (stream_of d h sets) ≡ take 16 d
  pub tight : (b : ℕ) → b < h.blocks → Tight (form_of h) h.lines (bytes_in (stream_of d h sets) b)
  pub set : (b : ℕ) → b < h.blocks → set_in (stream_of d h sets) h b ≡ sets b
  pub bytes : Bytes d → Bytes (stream_of d h sets)

-- every lossless header, and every set for each block whose samples are in range and whose interpolated positions have their predictions
abbrev pub TightStreams : Type 0
TightStreams =
    (d : List ℕ) (h : FujiHeader) → parse_of d ≡ Ok h → h.lossless ≡ true → (sets : ℕ → List ℕ)
    → ((b : ℕ) → b < h.blocks → PredictedSet (form_of h) h.lines (sets b)) → TightStream d h sets

-- ---- streams with the same sets: their headers may differ in the lossless flag

abbrev pub SameSets : (d e : List ℕ) (h g : FujiHeader) → Type 0
SameSets d e h g = (b : ℕ) → b < h.blocks → set_in d h b ≡ set_in e g b

-- each sample of the picture, with any tile
abbrev pub SamePicture : (d e : List ℕ) (h g : FujiHeader) → Type 0
SamePicture d e h g =
    (tile : List ℕ) (row column : ℕ) → row / 6 < h.lines → column / 768 < h.blocks → picture_sample d h tile row column ≡ picture_sample e g tile row column

-- each call of `decode_region`: the same region and tile, and the same buffers before, leave the same answer and the same buffers
abbrev pub SameCalls : (d e : List ℕ) → Type 0
SameCalls d e =
    (r : Rect) (tile : List ℕ) (before after after' : Buffers) (answer answer' : Result Unit Refusal)
    → Left d r tile (region_of d r before) before after answer → Left e r tile (region_of e r before) before after' answer'
    → (answer ≡ answer') × (after ≡ after')

pub record SameDecoding (d e : List ℕ) (h g : FujiHeader) : Type 0 where
  pub picture : SamePicture d e h g
  pub calls : SameCalls d e

abbrev pub SetsDecode : Type 0
SetsDecode =
    (d e : List ℕ) (h : FujiHeader) (lossless : Bool) → Readable d h → Readable e (with_flag lossless h) → SameSets d e h (with_flag lossless h)
    → SameDecoding d e h (with_flag lossless h)

-- ---- the tight stream of a stream

-- its header is the stream's with the flag set
abbrev pub tight_header : FujiHeader → FujiHeader
tight_header h = with_flag true h

abbrev pub tightened : List ℕ → FujiHeader → List ℕ
tightened d h = stream_of (flagged true d) (tight_header h) (set_in d h)

-- the blocks of a lossless stream, as they stand in it
abbrev pub remade : List ℕ → FujiHeader → List ℕ
remade d h = assembled d h (λ b. []) (bytes_in d)

pub record Tightened (d : List ℕ) (h : FujiHeader) : Type 0 where
  pub tight : TightStream (flagged true d) (tight_header h) (set_in d h)
  pub same : SameDecoding d (tightened d h) h (tight_header h)
  -- only bytes
  pub bytes : Bytes d → Bytes (tightened d h)
  -- once is enough
  pub again : tightened (tightened d h) (tight_header h) ≡ tightened d h
  -- a stream is its own tight stream exactly if it is lossless, all its blocks are tight, its padding is zeros, and nothing is missing or follows
  pub fixed : Bytes d → (tightened d h ≡ d)
      ↔ ((h.lossless ≡ true) × ((b : ℕ) → b < h.blocks → Tight (form_of h) h.lines (bytes_in d b)) × (remade d h ≡ d))

abbrev pub TightenedStreams : Type 0
TightenedStreams = (d : List ℕ) (h : FujiHeader) → Readable d h → Tightened d h
