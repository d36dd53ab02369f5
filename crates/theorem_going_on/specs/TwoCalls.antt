-- Promises. Item 9 over calls: going on from a stored state gives the samples and answers of a call that reads from the top. Assumes nothing.
use Rattle.std.specs.Prelude.{true, false, List, ◌≡◌, ℕ, ◌<◌, length, get_or, Ok, Result, Some}
use Rattle.stream.specs.declared.header.FujiHeader.{FujiHeader}
use Rattle.image_region.specs.Regions.{first_block, last_block}
use Rattle.image_region.specs.declared.Rect.{Rect}
use Rattle.admission.specs.Beginnings.{region_begins}
use Rattle.read_block.specs.Images.{Left}
use Rattle.read_block.specs.Lent.{Buffers, Outputs}
use Rattle.read_block.specs.declared.Counted.{Counted}
use Rattle.theorem_going_on.specs.GoingOn.{SameBlock, Calls, is_later}
use Rattle.stream.specs.declared.header.Refusal.{Refusal}

-- a call of `decode_region` that reads the region r of the stream d from the top
pub record FromTop (d : List ℕ) (h : FujiHeader) (r : Rect) (tile : List ℕ) (before after : Buffers) (answer : Result Unit Refusal) : Type 0 where
  pub begins : region_begins d r (length before.image) (length before.lines) (length before.records) ≡ Ok (Some h)
  pub left : Left d r tile (region_begins d r (length before.image) (length before.lines) (length before.records)) before after answer

-- what going on in block b after line n leaves in the image, and answers, by what the call from the top does
pub record AsTheCall (d : List ℕ) (h : FujiHeader) (b n : ℕ) (r : Rect) (image resumed top : List ℕ) (answered answer : Result Unit Refusal) : Type 0 where
  -- the region's rows from the next line on, within the block's columns, have the samples of the call from the top
  pub samples : (i : ℕ) → is_later d h r b n i ≡ true → get_or resumed i 0 ≡ get_or top i 0
  -- other samples are unchanged
  pub others : (i : ℕ) → is_later d h r b n i ≡ false → get_or resumed i 0 ≡ get_or image i 0
  -- where the region is of that block alone, the answer is that of the call from the top
  pub answers : first_block r ≡ b → last_block r ≡ b → answered ≡ answer

-- a call stores, a call goes on from the bytes that it stored, and a call reads the same region from the top
abbrev pub GoingOnAsTheCall : Type 0
GoingOnAsTheCall =
    (d d' : List ℕ) (h : FujiHeader) (b n : ℕ) (r : Rect) (tile : List ℕ) (lent lent' : Outputs) (before after : Buffers) (stored resumed : Counted)
    (top top' : Buffers) (answer : Result Unit Refusal) → ((i : ℕ) → get_or d' i 0 < 256) → SameBlock d d' b
    → Calls d d' h b n r tile lent lent' before after stored resumed → FromTop d' h r tile top top' answer
    → AsTheCall d' h b n r before.image after.image top'.image resumed.answer answer
