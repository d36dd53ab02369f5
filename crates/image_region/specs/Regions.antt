-- Rules. Regions of the picture: which are refused, which blocks and lines the others need, and where a block's samples go.
use Rattle.std.specs.Prelude.{Bool, cond, ◌||◌, ℕ, ◌+◌, ◌-◌, ◌*◌, ◌/◌, ◌%◌, ◌^◌, min, ltb, eqb, Err, None, Ok, Option, Result, Some}
use Rattle.stream.specs.declared.header.FujiHeader.{FujiHeader}
use Rattle.stream.specs.declared.header.Refusal.TheVariants.{OutsideImage}
use Rattle.image_region.specs.declared.Rect.{Rect}
use Rattle.image_region.specs.declared.Span.{Span}
use Rattle.stream.specs.declared.header.Refusal.{Refusal}

-- ---- edges

-- a sum, at most the largest number of 64 bits
abbrev pub saturated : ℕ → ℕ → ℕ
saturated a b = min (a + b) (2 ^ 64 - 1)

-- the first column and the first row past the region
abbrev pub right_of : Rect → ℕ
right_of r = saturated r.x r.width

abbrev pub bottom_of : Rect → ℕ
bottom_of r = saturated r.y r.height

-- ---- refusal 7, and the empty region

-- the region passes the picture's edge, or the image, of n samples, holds fewer than width·height
unfoldable pub is_outside : FujiHeader → Rect → ℕ → Bool
is_outside h r n = ltb h.width (right_of r) || ltb h.height (bottom_of r) || ltb n (r.width * r.height)

-- a width or height of 0
abbrev pub is_empty : Rect → Bool
is_empty r = eqb r.width 0 || eqb r.height 0

-- ---- what is read

-- the block of the picture that entry i of the image comes from
abbrev pub block_of : Rect → ℕ → ℕ
block_of r i = (r.x + i % r.width) / 768

-- the blocks that the region touches: from that of its first column to that of its last
abbrev pub first_block : Rect → ℕ
first_block r = r.x / 768

abbrev pub last_block : Rect → ℕ
last_block r = (right_of r - 1) / 768

-- line 0 to the region's last line, that of its last row
abbrev pub line_count : Rect → ℕ
line_count r = (bottom_of r - 1) / 6 + 1

unfoldable pub span_of : Rect → Span
span_of r = record { first = first_block r; last = last_block r; lines = line_count r }

unfoldable pub checked_of : FujiHeader → Rect → ℕ → Result (Option Span) Refusal
checked_of h r n = cond (is_outside h r n) (Err OutsideImage) (cond (is_empty r) (Ok None) (Ok (Some (span_of r))))
