-- Promises. Something is accepted under lossy headers too: each has a stream, with any bases, that opens and from which every region is decoded: a call
-- that is not refused before it reads is accepted. Assumes nothing.
use Rattle.std.specs.Prelude.{false, List, ◌≡◌, ℕ, ◌<◌, length, Ok, Result, Some}
use Rattle.stream.specs.Headers.{parse_of}
use Rattle.stream.specs.Streams.{open_of}
use Rattle.stream.specs.declared.header.FujiHeader.{FujiHeader}
use Rattle.image_region.specs.declared.Rect.{Rect}
use Rattle.read_block.specs.Images.{bases_in, Left}
use Rattle.read_block.specs.Lent.{Buffers}
use Rattle.theorem_one_to_one.specs.AcceptedStreams.{region_of}
use Rattle.theorem_one_to_one.specs.Correspondence.{Bytes}
use Rattle.theorem_whole_streams.specs.Kinds.{Readable}
use Rattle.stream.specs.declared.header.Refusal.{Refusal}

-- every call of `decode_region` that reads this stream is accepted
abbrev pub AllDecoded : (stream : List ℕ) (h : FujiHeader) → Type 0
AllDecoded stream h =
    (r : Rect) (tile : List ℕ) (before after : Buffers) (answer : Result Unit Refusal) → region_of stream r before ≡ Ok (Some h)
    → Left stream r tile (region_of stream r before) before after answer → answer ≡ (Ok tt)

-- that is so of every stream whose blocks are all read whole, lossless or lossy
abbrev pub ReadableDecoded : Type 0
ReadableDecoded = (stream : List ℕ) (h : FujiHeader) → Readable stream h → AllDecoded stream h

-- a stream with this header and a row of these bases for each block
pub record AcceptedLossyStream (h : FujiHeader) (bases : ℕ → List ℕ) : Type 0 where
  pub stream : List ℕ
  pub bytes : Bytes stream
  pub opens : open_of stream ≡ Ok h
  pub row : (b : ℕ) → b < h.blocks → bases_in stream b ≡ bases b
  pub decoded : AllDecoded stream h

abbrev pub SomethingLossyAccepted : Type 0
SomethingLossyAccepted =
    (d : List ℕ) (h : FujiHeader) → Bytes d → parse_of d ≡ Ok h → h.lossless ≡ false
    → (bases : ℕ → List ℕ) → ((b : ℕ) → b < h.blocks → Bytes (bases b) × (length (bases b) ≡ h.lines)) → AcceptedLossyStream h bases
