-- Rules. Where the samples of the image stand in the colour lines.
use Rattle.std.specs.Prelude.{Bool, cond, not, List, ◌≡◌, ℕ, ◌+◌, ◌*◌, ◌/◌, ◌%◌, eqb, length, get_or}
use Rattle.numbers.specs.Numbers.{flag}

-- the place of column p of a block in its colour line: X-Trans 2·⌊p/3⌋ + (0 if p mod 3 is 0, else 1), Bayer ⌊p/2⌋
unfoldable pub xtrans_place : ℕ → ℕ
xtrans_place p = 2 * (p / 3) + flag (not (eqb (p % 3) 0))

-- the samples of a colour line
abbrev pub width_of : Bool → ℕ
width_of xtrans = cond xtrans 512 384

unfoldable pub place_in : Bool → ℕ → ℕ
place_in xtrans p = cond xtrans (xtrans_place p) (p / 2)

-- the colour line of row r of a line, 0 to 5, by the tile's entry: 0 is red, 2 is blue, and any other value green
unfoldable pub colour_line : ℕ → ℕ → ℕ
colour_line t r = cond (eqb t 0) (2 + r / 2) (cond (eqb t 2) (15 + r / 2) (7 + r))

-- the tile has six rows of six; its columns repeat
abbrev pub tile_at : List ℕ → ℕ → ℕ → ℕ
tile_at tile r p = get_or tile (6 * r + p % 6) 0

-- where row r and column p of a block stand among the colour lines, each of which has W samples and two guards
unfoldable pub sample_index : Bool → ℕ → List ℕ → ℕ → ℕ → ℕ
sample_index xtrans W tile r p = colour_line (tile_at tile r p) r * (W + 2) + 1 + place_in xtrans p

-- ---- the part of an image that a block fills: columns left to right of the block go to columns `start` onward of rows that are `stride` samples
-- long, and the rows top to bottom of the whole picture are there

-- an image that is changed exactly where the test holds: there it has the new samples, and elsewhere what it had
pub record Changed (test : ℕ → Bool) (sample : ℕ → ℕ) (before after : List ℕ) : Type 0 where
  pub kept : length after ≡ length before
  pub entries : (i : ℕ) → get_or after i 0 ≡ cond (test i) (sample i) (get_or before i 0)
