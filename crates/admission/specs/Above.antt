-- Promises. Refusal 11: the samples of a set that are above the largest, and are not ignored.
use Rattle.std.specs.Prelude.{Bool, cond, not, ◌&&◌, ◌||◌, List, [], ◌∷◌, ℕ, suc, leb, None, Option, Some}
use Rattle.colour_lines.specs.Sets.{colour_line_at, position_at}
use Rattle.pass_schedule.specs.Steps.{is_interpolated}
use Rattle.image_map.specs.Places.{width_of}

-- a set that is not held to its predictions has samples that are ignored: those at interpolated positions
unfoldable pub is_ignored : Bool → Bool → ℕ → Bool
is_ignored xtrans strict j = not strict && is_interpolated xtrans (colour_line_at (width_of xtrans) j) (position_at (width_of xtrans) j)

-- the lowest index, from i on, of a sample above M that is not ignored
unfoldable pub first_above : (ℕ → Bool) → ℕ → ℕ → List ℕ → Option ℕ
first_above ignored M i [] = None
first_above ignored M i (v ∷ t) = cond (leb v M || ignored i) (first_above ignored M (suc i) t) (Some i)
