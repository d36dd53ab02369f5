-- Promises. A region has the whole picture's samples, and which regions of a truncated picture are accepted: of calls of any of the entries that decode, each with
-- buffers that are long enough, whatever they held. Assumes nothing.
use Rattle.std.specs.Prelude.{Bool, true, false, List, ◌↔◌, ◌≡◌, ℕ, suc, ◌+◌, ◌*◌, ◌/◌, ◌%◌, ◌≤◌, ◌<◌, length, get_or, Ok, Result}
use Rattle.stream.specs.Streams.{open_of}
use Rattle.stream.specs.declared.header.FujiHeader.{FujiHeader}
use Rattle.image_region.specs.Regions.{first_block, last_block, line_count}
use Rattle.image_region.specs.declared.Rect.{Rect}
use Rattle.admission.specs.Beginnings.{samples_needed, records_needed, region_begins, windowed_begins, image_begins, whole_of}
use Rattle.read_block.specs.Lent.{Buffers}
use Rattle.read_block.specs.Blocks.{read_lines}
use Rattle.read_block.specs.Images.{form_of, bytes_in, bases_in, is_read, Left}
use Rattle.read_block.specs.WindowedImages.{window_size, LeftWindowed}
use Rattle.stream.specs.declared.header.Refusal.{Refusal}

-- ---- the calls

abbrev pub whole : FujiHeader → Rect
whole h = whole_of h.width h.height

pub data Entry : Type 0 where
  decode : Entry
  decode_region : Entry
  decode_region_windowed : Entry

-- what a call of an entry for the region r promises of its buffers and its answer; `decode` is for the whole picture alone
abbrev pub Call : Entry → List ℕ → FujiHeader → Rect → List ℕ → (before after : Buffers) → Result Unit Refusal → Type 0
Call decode d h r tile before after answer =
    (r ≡ whole h)
    × Left d r tile (image_begins d h.width h.height (length before.image) (length before.lines) (length before.records)) before after answer
Call decode_region d h r tile before after answer =
    Left d r tile (region_begins d r (length before.image) (length before.lines) (length before.records)) before after answer
Call decode_region_windowed d h r tile before after answer =
    LeftWindowed d r tile (windowed_begins d r (length before.image) (length before.lines) (length before.records)) before after answer

-- the samples of scratch that it uses
abbrev pub samples_used : Entry → Bool → ℕ
samples_used decode xtrans = samples_needed xtrans
samples_used decode_region xtrans = samples_needed xtrans
samples_used decode_region_windowed xtrans = window_size xtrans

-- its buffers are long enough
pub record LongEnough (e : Entry) (h : FujiHeader) (r : Rect) (b : Buffers) : Type 0 where
  pub image : r.width * r.height ≤ length b.image
  pub lines : samples_used e h.xtrans ≤ length b.lines
  pub records : records_needed ≤ length b.records

-- ---- regions and blocks

pub record Within (h : FujiHeader) (r : Rect) : Type 0 where
  pub right : r.x + r.width ≤ h.width
  pub bottom : r.y + r.height ≤ h.height

-- a region touches the blocks from that of its first column to that of its last; an empty one touches none
pub record Touches (r : Rect) (b : ℕ) : Type 0 where
  pub wide : 1 ≤ r.width
  pub high : 1 ≤ r.height
  pub from : first_block r ≤ b
  pub to : b ≤ last_block r

-- block b fails on line m: the lines before it are read, and it is truncated
pub record FailsOn (d : List ℕ) (h : FujiHeader) (b m : ℕ) : Type 0 where
  pub line : m < h.lines
  pub before : is_read (read_lines (form_of h) (bases_in d b) (bytes_in d b) m) ≡ true
  pub fails : is_read (read_lines (form_of h) (bases_in d b) (bytes_in d b) (suc m)) ≡ false

-- ---- the statement

-- a call for the whole picture left `all` and answered a, and one for the region r left `part` and answered b
pub record Agreement (d : List ℕ) (h : FujiHeader) (r : Rect) (all part : List ℕ) (a b : Result Unit Refusal) : Type 0 where
  -- if the whole is accepted, the region is too
  pub accepted : a ≡ (Ok tt) → b ≡ (Ok tt)
  -- whatever the answer to the whole is, the region is accepted exactly if no block that it touches fails on its last line or an earlier one
  pub exactly : (b ≡ (Ok tt)) ↔ ((k m : ℕ) → Touches r k → FailsOn d h k m → line_count r ≤ m)
  -- a region that is accepted has the whole's samples at its places, also where the whole is refused as truncated
  pub same : b ≡ (Ok tt) → (i : ℕ) → i < r.width * r.height
      → get_or part i 0 ≡ get_or all ((r.y + i / r.width) * h.width + (r.x + i % r.width)) 0

abbrev pub WholeAndRegion : Type 0
WholeAndRegion =
    (d : List ℕ) (h : FujiHeader) (r : Rect) (tile : List ℕ) (e e' : Entry) (all all' part part' : Buffers) (a b : Result Unit Refusal)
    → open_of d ≡ Ok h → Within h r → LongEnough e h (whole h) all → LongEnough e' h r part
    → Call e d h (whole h) tile all all' a → Call e' d h r tile part part' b
    → Agreement d h r all'.image part'.image a b
