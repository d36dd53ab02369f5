-- Inside. A colour line that goes to the image by itself, from where it stands in the windows.
use Rattle.std.specs.Prelude.{Bool, cond, ◌&&◌, ◌||◌, List, ℕ, ◌+◌, ◌-◌, ◌*◌, ◌%◌, leb, ltb, eqb, get_or}
use Rattle.image_map.specs.Places.{place_in, colour_line, Changed}
use Rattle.image_map.specs.Inside.{picture_row, image_column, in_rows}
use Rattle.image_map.specs.declared.Part.{Part}

-- the column of its block that entry i shows
abbrev pub block_column : Part → ℕ → ℕ
block_column a i = a.left + (image_column a i - a.start)

-- the cell of the tile that it is in, and the colour line that this cell shows
unfoldable pub cell_of : Part → ℕ → ℕ
cell_of a i = 6 * (picture_row a i % 6) + block_column a i % 6

unfoldable pub colour_of : List ℕ → Part → ℕ → ℕ
colour_of tile a i = colour_line (get_or tile (cell_of a i) 0) (picture_row a i % 6)

-- the sample that it shows, of a colour line that stands in line `slot`
unfoldable pub window_sample : Bool → ℕ → List ℕ → Part → ℕ → ℕ → ℕ
window_sample xtrans W lines a slot i = get_or lines (slot * (W + 2) + 1 + place_in xtrans (block_column a i)) 0

-- by the entries from `at` on: of columns left to right those that stand in column c of the tile
abbrev pub ColumnEmitted : Bool → List ℕ → (start c left right at : ℕ) → (before after : List ℕ) → Type 0
ColumnEmitted xtrans lines start c left right at before after =
    Changed (λ i. leb at i && ltb i (at + (right - left)) && eqb ((left + (i - at)) % 6) c) (λ i. get_or lines (start + place_in xtrans (left + (i - at))) 0)
    before after

-- by cell k of the tile, if it shows colour line l; by the cells before k; and by all of them
abbrev pub CellEmitted : Bool → ℕ → (tile lines : List ℕ) → Part → (n k l slot : ℕ) → (before after : List ℕ) → Type 0
CellEmitted xtrans W tile lines a n k l slot before after =
    Changed (λ i. in_rows a (6 * n) (6 * n + 6) i && eqb (cell_of a i) k && eqb (colour_of tile a i) l) (window_sample xtrans W lines a slot) before after

abbrev pub CellsEmitted : Bool → ℕ → (tile lines : List ℕ) → Part → (n k l slot : ℕ) → (before after : List ℕ) → Type 0
CellsEmitted xtrans W tile lines a n k l slot before after =
    Changed (λ i. in_rows a (6 * n) (6 * n + 6) i && ltb (cell_of a i) k && eqb (colour_of tile a i) l) (window_sample xtrans W lines a slot) before after

abbrev pub ColourEmitted : Bool → ℕ → (tile lines : List ℕ) → Part → (n l slot : ℕ) → (before after : List ℕ) → Type 0
ColourEmitted xtrans W tile lines a n l slot before after =
    Changed (λ i. in_rows a (6 * n) (6 * n + 6) i && eqb (colour_of tile a i) l) (window_sample xtrans W lines a slot) before after

-- by the two lines of a pass, where that is wanted
abbrev pub PassEmitted : Bool → Bool → ℕ → (tile lines : List ℕ) → Part → (n first first_slot second second_slot : ℕ) → (before after : List ℕ) → Type 0
PassEmitted wanted xtrans W tile lines a n first first_slot second second_slot before after =
    Changed (λ i. wanted && in_rows a (6 * n) (6 * n + 6) i && (eqb (colour_of tile a i) first || eqb (colour_of tile a i) second))
    (λ i. window_sample xtrans W lines a (cond (eqb (colour_of tile a i) second) second_slot first_slot) i) before after
