-- Promises. Something is accepted: every lossless header that breaks no rule has a stream that opens, whose blocks are tight, and from which every region is
-- decoded: a call that is not refused before it reads is accepted. Assumes nothing.
use Rattle.std.specs.Prelude.{true, List, ◌≡◌, ℕ, ◌<◌, length, Ok, Option, Result, Some}
use Rattle.stream.specs.Headers.{parse_of}
use Rattle.stream.specs.Streams.{open_of}
use Rattle.stream.specs.declared.header.FujiHeader.{FujiHeader}
use Rattle.image_region.specs.declared.Rect.{Rect}
use Rattle.admission.specs.Beginnings.{region_begins}
use Rattle.read_block.specs.Images.{form_of, bytes_in, Left}
use Rattle.read_block.specs.Lent.{Buffers}
use Rattle.read_block.specs.TightBlocks.{Tight}
use Rattle.theorem_one_to_one.specs.Correspondence.{Bytes}
use Rattle.stream.specs.declared.header.Refusal.{Refusal}

-- how a call of `decode_region` with these buffers begins
abbrev pub region_of : List ℕ → Rect → Buffers → Result (Option FujiHeader) Refusal
region_of d r before = region_begins d r (length before.image) (length before.lines) (length before.records)

pub record AcceptedStream (h : FujiHeader) : Type 0 where
  pub stream : List ℕ
  pub bytes : Bytes stream
  pub opens : open_of stream ≡ Ok h
  pub tight : (b : ℕ) → b < h.blocks → Tight (form_of h) h.lines (bytes_in stream b)
  pub decoded : (r : Rect) (tile : List ℕ) (before after : Buffers) (answer : Result Unit Refusal) → let b = region_of stream r before in
      b ≡ Ok (Some h) → Left stream r tile b before after answer → answer ≡ (Ok tt)

abbrev pub SomethingAccepted : Type 0
SomethingAccepted = (d : List ℕ) (h : FujiHeader) → Bytes d → parse_of d ≡ Ok h → h.lossless ≡ true → AcceptedStream h
