-- How a call begins, step by step, and what holds of one that goes on. Assumes nothing.
use borrow.Author.Tests.{le-ltb, lt-ltb}
use mathlib.Core.Bool.{Bool, true, false, cond, not, ◌&&◌}
use mathlib.Core.List.{List}
use mathlib.Core.Path.{◌≡◌, sym, ap, ◌∙◌}
use Prim.Native.Nat.{ℕ, ◌≤◌, ◌<◌}
use lib.Dec.{lit≤}
use Rattle.image_map.specs.Places.{width_of}
use Rattle.stream.specs.declared.header.FujiHeader.{FujiHeader}
use Rattle.stream.specs.declared.header.Refusal.TheVariants.{NoBlock, WrongSize, Lossy, ShortScratch}
use Rattle.stream.specs.Streams.{open_of}
use Rattle.image_region.specs.Regions.{checked_of}
use Rattle.image_region.specs.declared.Rect.{Rect}
use Rattle.admission.specs.Beginnings.{is_short_scratch, with_scratch, with_region, with_stream, region_begins}
use Rattle.admission.specs.Beginnings.{whole_of, is_whole, with_size, with_picture, image_begins, with_block, with_opened, block_begins}
use Rattle.std.specs.Prelude.{Err, Ok, Result}
use Rattle.stream.specs.declared.header.Refusal.{Refusal}

-- the width is at most 512
pub narrow : (xtrans : Bool) (w : ℕ) → w ≡ width_of xtrans → w ≤ 512
narrow true w e = rw e (lit≤ tt)
narrow false w e = rw e (lit≤ tt)

-- ---- a call begins as the stream opens

module _ (d : List ℕ) (p : Result FujiHeader Refusal) (e : open_of d ≡ p) where
  pub region_is : (r : Rect) (n a b : ℕ) → with_stream p r n a b ≡ region_begins d r n a b
  unfolding region_begins
  region_is r n a b = rw e

  pub image_is : (w h n a b : ℕ) → with_picture p w h n a b ≡ image_begins d w h n a b
  unfolding image_begins
  image_is w h n a b = rw e

  pub block_is : (tight : Bool) (k a b : ℕ) → with_opened tight p k a b ≡ block_begins tight d k a b
  unfolding block_begins
  block_is tight k a b = rw e

-- ---- the steps

module _ (h : FujiHeader) (a b : ℕ) where
  pub scratch_short : is_short_scratch h.xtrans a b ≡ true → Err ShortScratch ≡ with_scratch h a b
  scratch_short e = rw e

  pub scratch_fits : is_short_scratch h.xtrans a b ≡ false → Ok h ≡ with_scratch h a b
  scratch_fits e = rw e

  pub no_block : (tight : Bool) (k : ℕ) → h.blocks ≤ k → Err NoBlock ≡ with_block tight h k a b
  no_block tight k s = rw (le-ltb k h.blocks s)

  pub lossy_block : (tight : Bool) (k : ℕ) → k < h.blocks → tight && not h.lossless ≡ true → Err Lossy ≡ with_block tight h k a b
  lossy_block tight k s e = rw (lt-ltb k h.blocks s, e)

  pub a_block : (tight : Bool) (k : ℕ) → k < h.blocks → tight && not h.lossless ≡ false → with_scratch h a b ≡ with_block tight h k a b
  a_block tight k s e =
      let inner = cond (tight && not h.lossless) (Err Lossy) (with_scratch h a b) in
      sym (ap (λ (x : Bool). cond x inner (Err NoBlock)) (lt-ltb k h.blocks s) ∙ ap (λ (x : Bool). cond x (Err Lossy) (with_scratch h a b)) e)

  pub whole_picture : (w k n : ℕ) → is_whole h w k ≡ true → with_region h (checked_of h (whole_of w k) n) a b ≡ with_size h w k n a b
  whole_picture w k n e = sym (ap (λ (x : Bool). cond x (with_region h (checked_of h (whole_of w k) n) a b) (Err WrongSize)) e)

  pub wrong_size : (w k n : ℕ) → is_whole h w k ≡ false → Err WrongSize ≡ with_size h w k n a b
  wrong_size w k n e = sym (ap (λ (x : Bool). cond x (with_region h (checked_of h (whole_of w k) n) a b) (Err WrongSize)) e)
