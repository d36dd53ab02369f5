-- Promises. On the same call `decode_region` and `decode_region_windowed` answer the same, and have the same samples wherever a line was accepted and
-- wherever none was reached. Scratch may be another; what is asked of it is that neither call is refused by 10. Assumes nothing.
use Rattle.std.specs.Prelude.{true, false, List, ◌≡◌, ℕ, ◌+◌, length, get_or, Err, Ok, Result}
use Rattle.stream.specs.Streams.{open_of}
use Rattle.stream.specs.declared.header.FujiHeader.{FujiHeader}
use Rattle.stream.specs.declared.header.Refusal.TheVariants.{ShortScratch}
use Rattle.image_region.specs.Regions.{last_block}
use Rattle.image_region.specs.declared.Rect.{Rect}
use Rattle.admission.specs.Beginnings.{region_begins, windowed_begins}
use Rattle.read_block.specs.Images.{is_decoded, Left}
use Rattle.read_block.specs.Lent.{Buffers}
use Rattle.read_block.specs.WindowedImages.{is_reached, LeftWindowed}
use Rattle.stream.specs.declared.header.Refusal.{Refusal}

-- all but the rows of truncated lines
pub record SameSamples (d : List ℕ) (h : FujiHeader) (r : Rect) (image windowed : List ℕ) : Type 0 where
  pub accepted : (i : ℕ) → is_decoded d h r (last_block r + 1) i ≡ true → get_or windowed i 0 ≡ get_or image i 0
  pub unreached : (i : ℕ) → is_reached d h r (last_block r + 1) i ≡ false → get_or windowed i 0 ≡ get_or image i 0

abbrev pub EntriesAgree : Type 0
EntriesAgree =
    (d : List ℕ) (r : Rect) (tile : List ℕ) (before after before' after' : Buffers) (answer answer' : Result Unit Refusal) → before'.image ≡ before.image
    → Left d r tile (region_begins d r (length before.image) (length before.lines) (length before.records)) before after answer
    → LeftWindowed d r tile (windowed_begins d r (length before'.image) (length before'.lines) (length before'.records)) before' after' answer'
    → (answer ≡ Err ShortScratch → ⊥) → (answer' ≡ Err ShortScratch → ⊥)
    → (answer' ≡ answer) × ((h : FujiHeader) → open_of d ≡ Ok h → SameSamples d h r after.image after'.image)
