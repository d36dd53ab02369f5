-- Promises. How near a working copy is to its stream, by row and column of the picture.
use Rattle.std.specs.Prelude.{false, List, ◌≡◌, ℕ, ◌/◌, ◌%◌, ◌<◌, length}
use Rattle.pass_schedule.specs.Steps.{is_interpolated}
use Rattle.image_map.specs.Places.{place_in, colour_line, tile_at}
use Rattle.stream.specs.declared.header.FujiHeader.{FujiHeader}
use Rattle.read_block.specs.Images.{picture_sample}
use Rattle.read_block.specs.Records.{base_of}
use Rattle.theorem_one_to_one.specs.UsedBases.{IsNear}
use Rattle.theorem_whole_streams.specs.Kinds.{Readable}
use Rattle.theorem_whole_streams.specs.LossyCopies.{lossy_header, lossy_copy}

-- with any tile: a sample that has a code is within the base of its line of its block
abbrev pub NearPictures : Type 0
NearPictures =
    (d : List ℕ) (h : FujiHeader) → Readable d h → (bases : ℕ → List ℕ) → ((b : ℕ) → b < h.blocks → length (bases b) ≡ h.lines)
    → (tile : List ℕ) (row column : ℕ) → row / 6 < h.lines → column / 768 < h.blocks
    → is_interpolated h.xtrans (colour_line (tile_at tile (row % 6) (column % 768)) (row % 6)) (place_in h.xtrans (column % 768)) ≡ false
    → IsNear (base_of (bases (column / 768)) (row / 6)) (picture_sample d h tile row column) (picture_sample (lossy_copy d h bases) (lossy_header h) tile row column)
