-- A working copy is near its stream in each sample of the picture that has a code. Assumes nothing.
use borrow.Author.Tests.{lt-ltb, le-ltb}
use mathlib.Core.Bool.{Bool, true, false, cond}
use mathlib.Core.List.{List}
use mathlib.Core.Path.{◌≡◌, refl, sym, ap, ◌∙◌}
use Prim.Native.Nat.{ℕ, suc, ◌+◌, ◌*◌, ◌/◌, ◌%◌, ◌<◌}
use native.Mathlib.Nat.{mod-lt}
use native.Mathlib.Omega.{arith}
use lib.Dec.{eqb}
use lib.ListN.{length, get_or}
use Rattle.pass_schedule.specs.Steps.{is_interpolated}
use Rattle.colour_lines.specs.Sets.{line_of_rank, index_in}
use Rattle.image_map.specs.Places.{width_of, place_in, colour_line, tile_at, sample_index}
use Rattle.image_map.proofs.PlaceLaws.{place_lt}
use Rattle.stream.specs.declared.header.FujiHeader.{FujiHeader}
use Rattle.write_pass.proofs.SetLaws.{index_lt, line_at_lem, colour_line_at_lem, position_at_lem}
use Rattle.read_block.specs.Images.{form_of, bytes_in, bases_in, picture_sample}
use Rattle.read_block.specs.Records.{base_of}
use Rattle.theorem_one_to_one.specs.UsedBases.{IsNear}
use Rattle.theorem_whole_streams.specs.Kinds.{Readable, set_in}
use Rattle.theorem_whole_streams.specs.LossyCopies.{lossy_header, lossy_copy}
use Rattle.theorem_whole_streams.specs.NearPictures.{NearPictures}
use Rattle.theorem_whole_streams.proofs.LossyCopiesHold.{lossy_copies}
use Rattle.theorem_whole_streams.proofs.ReadRight.{set_shown}

-- the colour line of a row is one of the twelve
record Rank (l : ℕ) : Type 0 where
  rank : ℕ
  small : rank < 12
  line : l ≡ line_of_rank rank

rank_of_lem : (t r : ℕ) → r < 6 → Rank (colour_line t r)
unfolding colour_line line_of_rank
rank_of_lem t r h = go (eqb t 0) (eqb t 2)
  where
    go : (red blue : Bool) → Rank (cond red (2 + r / 2) (cond blue (15 + r / 2) (7 + r)))
    go true blue = record { rank = r / 2; small = omega arith; line = rw (lt-ltb (r / 2) 3 (omega arith)) (omega arith) }
    go false true =
        record {
          rank = 9 + r / 2;
          small = omega arith;
          line = rw (le-ltb (9 + r / 2) 3 (omega arith), le-ltb (9 + r / 2) 9 (omega arith)) (omega arith);
        }
    go false false =
        record { rank = 3 + r; small = omega arith; line = rw (le-ltb (3 + r) 3 (omega arith), lt-ltb (3 + r) 9 (omega arith)) (omega arith) }

rank_at : (tile : List ℕ) (row column : ℕ) → Rank (colour_line (tile_at tile (row % 6) (column % 768)) (row % 6))
rank_at tile row column = rank_of_lem (tile_at tile (row % 6) (column % 768)) (row % 6) (mod-lt row (omega arith))

-- a sample of the picture is one of the set of its block
module _ (d : List ℕ) (h : FujiHeader) (tile : List ℕ) (row column : ℕ) (hr : row / 6 < h.lines) where
  abbrev W : ℕ
  W = width_of h.xtrans

  abbrev place : ℕ
  place = place_in h.xtrans (column % 768)

  abbrev K : Rank (colour_line (tile_at tile (row % 6) (column % 768)) (row % 6))
  K = rank_at tile row column

  inside : place < W
  inside = place_lt h.xtrans (column % 768) (mod-lt column (omega arith))

  index : sample_index h.xtrans W tile (row % 6) (column % 768) ≡ line_of_rank K.rank * (W + 2) + place + 1
  unfolding sample_index
  index = rw K.line (omega arith)

  sample : picture_sample d h tile row column ≡ get_or (set_in d h (column / 768)) (index_in W (row / 6) (line_of_rank K.rank) place) 0
  unfolding picture_sample
  sample =
      let b : ℕ = column / 768 in
      rw index (sym (set_shown (form_of h) (bases_in d b) h.lines (bytes_in d b) (row / 6) K.rank place hr K.small inside))

pub near_pictures : NearPictures
near_pictures d h R bases rows tile row column hr hc f =
    let W : ℕ = width_of h.xtrans in
    let b : ℕ = column / 768 in
    let n : ℕ = row / 6 in
    let p : ℕ = place_in h.xtrans (column % 768) in
    let k = rank_at tile row column in
    let hp = inside d h tile row column hr in
    let c : ℕ = k.rank in
    let j : ℕ = index_in W n (line_of_rank c) p in
    let free : is_interpolated h.xtrans (line_of_rank c) p ≡ false = ap (λ (l : ℕ). is_interpolated h.xtrans l p) (sym k.line) ∙ f in
    let N = (lossy_copies d h R bases rows).near b j hc (index_lt W n c p k.small hp h.lines hr)
    (rw (colour_line_at_lem W n c p k.small hp, position_at_lem W n c p k.small hp) free) in
    let M : IsNear (base_of (bases b) n) (get_or (set_in d h b) j 0) (get_or (set_in (lossy_copy d h bases) (lossy_header h) b) j 0) =
    rw (line_at_lem W n c p k.small hp) at N in
    rw (sample d h tile row column hr, sample (lossy_copy d h bases) (lossy_header h) tile row column hr) M
