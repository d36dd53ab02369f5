-- Inside. What only our own functions say.
use Rattle.std.specs.Prelude.{ℕ, ◌+◌, ◌-◌, ◌*◌, ◌≤◌, min}
use Rattle.image_map.specs.declared.Part.{Part}
use Rattle.stream.specs.Inside.{Ruled}
use Rattle.stream.specs.declared.header.FujiHeader.{FujiHeader}
use Rattle.image_region.specs.declared.Rect.{Rect}
use Rattle.image_region.specs.Regions.{right_of, bottom_of}

-- what holds of a region that is neither refused nor empty
pub record Accepted (h : FujiHeader) (r : Rect) (n : ℕ) : Type 0 where
  pub ruled : Ruled h
  pub right : r.x + r.width ≤ h.width
  pub bottom : r.y + r.height ≤ h.height
  pub wide : 1 ≤ r.width
  pub high : 1 ≤ r.height
  pub room : r.width * r.height ≤ n

-- the part that block b, columns 768·b to 768·b + 767 of the picture, fills of an image that holds the region alone
unfoldable pub part_in : Rect → ℕ → Part
part_in r b =
    record {
      left = r.x - 768 * b;
      right = min (right_of r - 768 * b) 768;
      start = 768 * b - r.x;
      stride = r.width;
      top = r.y;
      bottom = bottom_of r;
    }
