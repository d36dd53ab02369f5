-- Promises. How going on in block b begins, to fill a region.
use Rattle.std.specs.Prelude.{cond, List, ℕ, ltb, Err, Ok, Option, Result}
use Rattle.stream.specs.declared.header.Refusal.TheVariants.{NoBlock}
use Rattle.stream.specs.Streams.{open_of}
use Rattle.image_region.specs.Regions.{checked_of}
use Rattle.image_region.specs.declared.Rect.{Rect}
use Rattle.admission.specs.Beginnings.{with_region}
use Rattle.stream.specs.declared.header.FujiHeader.{FujiHeader}
use Rattle.stream.specs.declared.header.Refusal.{Refusal}

-- refusal 5 before those of the region
abbrev pub with_resumed : Result FujiHeader Refusal → ℕ → Rect → ℕ → ℕ → ℕ → Result (Option FujiHeader) Refusal
with_resumed (Err x) b r image samples records = Err x
with_resumed (Ok h) b r image samples records =
    cond (ltb b h.blocks) (with_region h (checked_of h r image) samples records) (Err NoBlock)

unfoldable pub resume_begins : List ℕ → ℕ → Rect → ℕ → ℕ → ℕ → Result (Option FujiHeader) Refusal
resume_begins d b r image samples records = with_resumed (open_of d) b r image samples records
