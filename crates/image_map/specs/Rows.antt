-- Inside. A sample by where the colour lines begin, and rows of the image.
use Rattle.std.specs.Prelude.{Bool, List, ℕ, ◌+◌, ◌*◌, ◌%◌, ◌≤◌, ◌<◌, get_or}
use Rattle.image_map.specs.Places.{place_in, Changed}
use Rattle.image_map.specs.Inside.{in_rows}
use Rattle.image_map.specs.declared.Part.{Part}

-- where the colour line of each column of the tile begins lies in the colour lines, and so does all of its line
abbrev pub InLines : ℕ → List ℕ → Type 0
InLines W l = (j : ℕ) → j < 6 → get_or l j 0 + W ≤ 18 * (W + 2)

-- the sample of column q, by where the colour lines begin
abbrev pub sample_by : List ℕ → List ℕ → Bool → ℕ → ℕ
sample_by lines starts xtrans q = get_or lines (get_or starts (q % 6) 0 + place_in xtrans q) 0

-- by these rows
abbrev pub RowsPut : (ℕ → ℕ) → Part → (low high : ℕ) → (before after : List ℕ) → Type 0
RowsPut sample a low high before after = Changed (in_rows a low high) sample before after
