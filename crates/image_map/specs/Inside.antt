-- Inside. What only our own functions say.
use Rattle.std.specs.Prelude.{Bool, ◌&&◌, List, ◌≡◌, ℕ, ◌+◌, ◌-◌, ◌*◌, ◌/◌, ◌%◌, ◌≤◌, ◌<◌, leb, ltb, length, get_or}
use Rattle.image_map.specs.declared.Part.{Part}
use Rattle.image_map.specs.Places.{xtrans_place, sample_index, Changed}

-- the table of X-Trans places
abbrev pub ArePlaces : List ℕ → Type 0
ArePlaces l = (p : ℕ) → p < 768 → get_or l p 0 ≡ xtrans_place p

-- the row of the whole picture, and the column of the image, that the image's entry i shows
abbrev pub picture_row : Part → ℕ → ℕ
picture_row a i = a.top + i / a.stride

abbrev pub image_column : Part → ℕ → ℕ
image_column a i = i % a.stride

-- whether entry i is of the part, and in one of the rows from `low` up to, and without, `high`
unfoldable pub in_rows : Part → ℕ → ℕ → ℕ → Bool
in_rows a low high i =
    let row = picture_row a i in
    let column = image_column a i in
    leb low row && ltb row high && ltb row a.bottom && leb a.start column && ltb column (a.start + (a.right - a.left))

-- the sample that is there, by the colour lines of its line
unfoldable pub emitted_sample : Bool → ℕ → List ℕ → List ℕ → Part → ℕ → ℕ
emitted_sample xtrans W tile lines a i =
    get_or lines (sample_index xtrans W tile (picture_row a i % 6) (a.left + (image_column a i - a.start))) 0

-- by the entries from `at` on: columns left to right of row r of a line
abbrev pub RowEmitted : Bool → ℕ → (tile lines : List ℕ) → (r left right at : ℕ) → (before after : List ℕ) → Type 0
RowEmitted xtrans W tile lines r left right at before after =
    Changed (λ i. leb at i && ltb i (at + (right - left))) (λ i. get_or lines (sample_index xtrans W tile r (left + (i - at))) 0) before after

-- by the rows of line n
abbrev pub Emitted : Bool → ℕ → (tile lines : List ℕ) → Part → ℕ → (before after : List ℕ) → Type 0
Emitted xtrans W tile lines a n before after = Changed (in_rows a (6 * n) (6 * n + 6)) (emitted_sample xtrans W tile lines a) before after

-- a part that an image has room for: an empty one, or one whose rows are all there
pub record Fits (a : Part) (image : List ℕ) : Type 0 where
  pub order : a.left ≤ a.right
  pub columns : a.right ≤ 768
  pub inside : a.start + (a.right - a.left) ≤ a.stride
  pub rows : (a.bottom - a.top) * a.stride ≤ length image
