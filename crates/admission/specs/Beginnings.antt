-- Promises. How a call begins: a refusal, nothing to do, or a header to go by. A call that is refused touches no buffer. Refusals come in the order of their
-- numbers. Assumes nothing.
use Rattle.std.specs.Prelude.{Bool, true, false, cond, not, ◌&&◌, ◌||◌, List, ℕ, ◌+◌, ◌*◌, ◌≤◌, ltb, eqb, Err, None, Ok, Option, Result, Some}
use Rattle.image_map.specs.Places.{width_of}
use Rattle.stream.specs.declared.header.FujiHeader.{FujiHeader}
use Rattle.stream.specs.declared.header.Refusal.TheVariants.{NoBlock, WrongSize, Lossy, ShortScratch}
use Rattle.stream.specs.Streams.{open_of}
use Rattle.image_region.specs.Regions.{checked_of}
use Rattle.image_region.specs.declared.Rect.{Rect}
use Rattle.image_region.specs.declared.Span.{Span}
use Rattle.stream.specs.declared.header.Refusal.{Refusal}

-- ---- scratch

-- 18 colour lines of W samples, each with a guard on both sides
abbrev pub samples_needed : Bool → ℕ
samples_needed xtrans = 18 * (width_of xtrans + 2)

abbrev pub records_needed : ℕ
records_needed = 336

-- with so many samples and records lent
abbrev pub is_short_scratch : Bool → ℕ → ℕ → Bool
is_short_scratch xtrans samples records = ltb samples (samples_needed xtrans) || ltb records records_needed

-- refusal 10, or the header
abbrev pub with_scratch : FujiHeader → ℕ → ℕ → Result FujiHeader Refusal
with_scratch h samples records = cond (is_short_scratch h.xtrans samples records) (Err ShortScratch) (Ok h)

-- ---- decoding a region

abbrev pub begun : Result FujiHeader Refusal → Result (Option FujiHeader) Refusal
begun (Err x) = Err x
begun (Ok h) = Ok (Some h)

-- refusal 7 and the empty region, then refusal 10
abbrev pub with_region : FujiHeader → Result (Option Span) Refusal → ℕ → ℕ → Result (Option FujiHeader) Refusal
with_region h (Err x) samples records = Err x
with_region h (Ok None) samples records = Ok None
with_region h (Ok (Some s)) samples records = begun (with_scratch h samples records)

-- after refusals 1 to 4
abbrev pub with_stream : Result FujiHeader Refusal → Rect → ℕ → ℕ → ℕ → Result (Option FujiHeader) Refusal
with_stream (Err x) r image samples records = Err x
with_stream (Ok h) r image samples records = with_region h (checked_of h r image) samples records

unfoldable pub region_begins : List ℕ → Rect → ℕ → ℕ → ℕ → Result (Option FujiHeader) Refusal
region_begins d r image samples records = with_stream (open_of d) r image samples records

-- windows take half the samples, 9·(W + 2): refusal 10 comes as if twice as many were lent
abbrev pub windowed_begins : List ℕ → Rect → ℕ → ℕ → ℕ → Result (Option FujiHeader) Refusal
windowed_begins d r image samples records = region_begins d r image (2 * samples) records

-- ---- decoding the whole picture

abbrev pub whole_of : ℕ → ℕ → Rect
whole_of width height = record { x = 0; y = 0; width = width; height = height }

abbrev pub is_whole : FujiHeader → ℕ → ℕ → Bool
is_whole h width height = eqb width h.width && eqb height h.height

-- refusal 6, where the size that is named is not the header's, then those of the region
abbrev pub with_size : FujiHeader → ℕ → ℕ → ℕ → ℕ → ℕ → Result (Option FujiHeader) Refusal
with_size h width height image samples records =
    cond (is_whole h width height) (with_region h (checked_of h (whole_of width height) image) samples records) (Err WrongSize)

-- after refusals 1 to 4
abbrev pub with_picture : Result FujiHeader Refusal → ℕ → ℕ → ℕ → ℕ → ℕ → Result (Option FujiHeader) Refusal
with_picture (Err x) width height image samples records = Err x
with_picture (Ok h) width height image samples records = with_size h width height image samples records

unfoldable pub image_begins : List ℕ → ℕ → ℕ → ℕ → ℕ → ℕ → Result (Option FujiHeader) Refusal
image_begins d width height image samples records = with_picture (open_of d) width height image samples records

-- ---- the reading of block b, the ordinary one or the tight one

-- refusals 5, 8 and 10. The ordinary reading takes lossy streams too
abbrev pub with_block : Bool → FujiHeader → ℕ → ℕ → ℕ → Result FujiHeader Refusal
with_block tight h b samples records =
    cond (ltb b h.blocks)
    (cond (tight && not h.lossless) (Err Lossy) (with_scratch h samples records))
    (Err NoBlock)

-- after refusals 1 to 4
abbrev pub with_opened : Bool → Result FujiHeader Refusal → ℕ → ℕ → ℕ → Result FujiHeader Refusal
with_opened tight (Err x) b samples records = Err x
with_opened tight (Ok h) b samples records = with_block tight h b samples records

unfoldable pub block_begins : Bool → List ℕ → ℕ → ℕ → ℕ → Result FujiHeader Refusal
block_begins tight d b samples records = with_opened tight (open_of d) b samples records

abbrev pub read_begins : List ℕ → ℕ → ℕ → ℕ → Result FujiHeader Refusal
read_begins d b samples records = block_begins false d b samples records

abbrev pub tight_begins : List ℕ → ℕ → ℕ → ℕ → Result FujiHeader Refusal
tight_begins d b samples records = block_begins true d b samples records

-- ---- what holds where scratch is long enough

pub record ScratchFits (h : FujiHeader) (samples records : ℕ) : Type 0 where
  pub for_lines : samples_needed h.xtrans ≤ samples
  pub for_records : records_needed ≤ records
