-- What a region that is accepted gives: its parts fit, each column has one block, and the lines cover its rows. Assumes nothing.
use mathlib.Core.List.{List}
use mathlib.Core.Path.{◌≡◌, refl, sym, ◌∙◌}
use Prim.Native.Nat.{ℕ, ◌+◌, ◌-◌, ◌*◌, ◌/◌, ◌%◌, ◌≤◌, ◌<◌, min}
use native.Mathlib.Nat.{mul_comm, mod-lt, div-lt_iff_lt-mul}
use native.Mathlib.Omega.{arith}
use lib.ListN.{length}
use borrow.Author.Tests.{le-ltb}
use Rattle.image_map.specs.Inside.{Fits}
use Rattle.image_map.specs.declared.Part.{Part}
use Rattle.stream.specs.declared.header.FujiHeader.{FujiHeader}
use Rattle.image_region.specs.Regions.{block_of, right_of, bottom_of, first_block, last_block, line_count, span_of, checked_of}
use Rattle.image_region.specs.Inside.{part_in, Accepted}
use Rattle.image_region.specs.declared.Rect.{Rect}
use Rattle.image_region.proofs.CheckLaws.{room_decides, has_samples, says_touched}
use Rattle.std.specs.Prelude.{Ok, Some}

-- entry i of the image lies in a part's columns
abbrev pub InColumns : Part → ℕ → Type 0
InColumns a i = (a.start ≤ i % a.stride) × (i % a.stride < a.start + (a.right - a.left))

-- columns of the region, w of them from x on, that a block which starts at `first` has
columns_fit : (x w right first : ℕ) → right ≡ x + w → first < right → first - x + (min (right - first) 768 - (x - first)) ≤ w
columns_fit x w right first e l = omega arith

module _ (h : FujiHeader) (r : Rect) (n : ℕ) (a : Accepted h r n) where
  -- ---- edges: no sum saturates

  pub right_is : right_of r ≡ r.x + r.width
  right_is = let k = a.ruled in omega (arith, a.right, k.width_high, k.blocks_high)

  pub bottom_is : bottom_of r ≡ r.y + r.height
  bottom_is = let k = a.ruled in omega (arith, a.bottom, k.height_is, k.lines_high)

  -- such a region is not refused, and not empty
  pub touched : checked_of h r n ≡ Ok (Some (span_of r))
  touched =
      let decides = room_decides h r n (right_of r) refl (bottom_of r) refl (omega (arith, right_is, a.right)) (omega (arith, bottom_is, a.bottom)) in
      sym (says_touched h r n (span_of r) (sym decides ∙ le-ltb n (r.width * r.height) a.room) (has_samples r a.wide a.high) refl)

  column_inside : (i : ℕ) → i % r.width < r.width
  column_inside i = mod-lt i a.wide

  -- ---- blocks

  pub block_order : first_block r ≤ last_block r
  block_order = omega (arith, right_is, a.wide)

  pub block_inside : last_block r < h.blocks
  block_inside = omega (arith, right_is, a.right, a.wide, a.ruled.width_high)

  -- the block that an entry shows is touched
  pub block_touched : (i : ℕ) → (first_block r ≤ block_of r i) × (block_of r i ≤ last_block r)
  block_touched i =
      let c = column_inside i in
      (omega arith, omega (arith, right_is))

  pub part_fits : (b : ℕ) (image : List ℕ) → length image ≡ n → first_block r ≤ b → b ≤ last_block r → Fits (part_in r b) image
  unfolding part_in
  part_fits b image e l u =
      let first : 768 * b < right_of r = omega (arith, right_is, a.wide) in
      let height : bottom_of r - r.y ≡ r.height = omega (arith, bottom_is) in
      record {
        order = omega (arith, right_is, a.wide);
        columns = omega arith;
        inside = columns_fit r.x r.width (right_of r) (768 * b) right_is first;
        rows = rw (height, e, mul_comm r.height r.width) a.room;
      }

  -- an entry lies in the columns of one block's part: that of the block that it shows
  pub one_block : (b i : ℕ) → (InColumns (part_in r b) i → b ≡ block_of r i) × (b ≡ block_of r i → InColumns (part_in r b) i)
  unfolding part_in
  one_block b i =
      let c = column_inside i in
      (λ z. omega (arith, right_is, z.0, z.1), λ e. (omega arith, omega (arith, right_is)))

  -- and this is its column in the block
  pub column_in_block : (b i : ℕ) → b ≡ block_of r i → (part_in r b).left + (i % r.width - (part_in r b).start) ≡ r.x + i % r.width - 768 * b
  unfolding part_in
  column_in_block b i e = omega arith

  -- ---- lines

  pub lines_inside : line_count r ≤ h.lines
  lines_inside = omega (arith, bottom_is, a.bottom, a.high, a.ruled.height_is)

  -- each row before the bottom lies in one of the lines, and the last row in none before the last
  pub lines_cover : (row : ℕ) → row < bottom_of r → row < 6 * line_count r
  lines_cover row l = omega arith

  pub lines_needed : 6 * (line_count r - 1) ≤ bottom_of r - 1
  lines_needed = omega arith

  -- ---- entries: those below width·height are the ones that show a row of the region

  pub row_inside : (i : ℕ) → (r.y + i / r.width < bottom_of r → i < r.width * r.height) × (i < r.width * r.height → r.y + i / r.width < bottom_of r)
  row_inside i =
      let m = mul_comm r.width r.height in
      let d = div-lt_iff_lt-mul {k = r.width} {x = i} {y = r.height} a.wide in
      (λ l. rw m (d.0 (omega (arith, bottom_is))), λ l. omega (arith, bottom_is, d.1 (rw m at l)))
