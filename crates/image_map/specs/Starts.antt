-- Inside. Where the colour lines of a row begin, and three of its samples in the image.
use Rattle.std.specs.Prelude.{List, ◌≡◌, ℕ, ◌+◌, ◌*◌, ◌<◌, get_or, set}
use Rattle.image_map.specs.Places.{colour_line}

-- where the colour line of each column of the tile begins, in row r, its guard passed
unfoldable pub AreStarts : List ℕ → ℕ → ℕ → List ℕ → Type 0
AreStarts tile r s l = (j : ℕ) → j < 6 → get_or l j 0 ≡ colour_line (get_or tile (6 * r + j) 0) r * s + 1

-- f p, f (p + 1) and f (p + 2), put into the image from i on
abbrev pub three_put : (ℕ → ℕ) → ℕ → ℕ → List ℕ → List ℕ
three_put f i p image = set (set (set image i (f p)) (i + 1) (f (p + 1))) (i + 2) (f (p + 2))
