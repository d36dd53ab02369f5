-- Promises. Decoding a region in windows: 9·(W + 2) samples of scratch, and the first truncated line of each block shows 0. What is read, the samples and the
-- answer are those of `decode_region`. Assumes nothing.
use Rattle.std.specs.Prelude.{Bool, cond, ◌&&◌, List, ◌++◌, ◌≡◌, ℕ, ◌+◌, ◌-◌, ◌*◌, ltb, leb, replicate, drop, Err, None, Ok, Option, Result, Some}
use Rattle.image_map.specs.Places.{width_of, Changed}
use Rattle.stream.specs.declared.header.FujiHeader.{FujiHeader}
use Rattle.image_region.specs.Regions.{block_of, first_block, last_block}
use Rattle.image_region.specs.declared.Rect.{Rect}
use Rattle.read_block.specs.Lent.{Buffers, cleared_records}
use Rattle.read_block.specs.Images.{read_in, line_of, decoded_sample, answer_of}
use Rattle.stream.specs.declared.header.Refusal.{Refusal}

-- three colour lines of W samples for each colour, each with a guard on both sides
abbrev pub window_size : Bool → ℕ
window_size xtrans = 9 * (width_of xtrans + 2)

-- whether entry i is the region's, of a block below e, and its line was read, or is the first truncated one of its block
unfoldable pub is_reached : List ℕ → FujiHeader → Rect → ℕ → ℕ → Bool
is_reached d h r e i = ltb i (r.width * r.height) && ltb (block_of r i) e && leb (line_of r i) (read_in d h r (block_of r i))

-- a line that was read shows its samples, and the truncated one 0
unfoldable pub reached_sample : List ℕ → FujiHeader → Rect → List ℕ → ℕ → ℕ
reached_sample d h r tile i = cond (ltb (line_of r i) (read_in d h r (block_of r i))) (decoded_sample d h r tile i) 0

-- the image after the blocks below e; all other entries are what they were
abbrev pub PicturedWindowed : List ℕ → FujiHeader → Rect → List ℕ → ℕ → (before after : List ℕ) → Type 0
PicturedWindowed d h r tile e before after = Changed (is_reached d h r e) (reached_sample d h r tile) before after

-- what a call leaves that reads a stream with this header
pub record WindowedDecoding (d : List ℕ) (h : FujiHeader) (r : Rect) (tile : List ℕ) (before after : Buffers) (answer : Result Unit Refusal) : Type 0 where
  pub answered : answer ≡ answer_of d h r (last_block r + 1 - first_block r)
  pub pictured : PicturedWindowed d h r tile (last_block r + 1) before.image after.image
  pub lines : after.lines ≡ replicate (window_size h.xtrans) 0 ++ drop (window_size h.xtrans) before.lines
  pub records : after.records ≡ cleared_records before.records

-- what a call leaves, by how it begins
abbrev pub LeftWindowed : List ℕ → Rect → List ℕ → Result (Option FujiHeader) Refusal → (before after : Buffers) → Result Unit Refusal → Type 0
LeftWindowed d r tile (Err x) before after answer = (answer ≡ Err x) × (after ≡ before)
LeftWindowed d r tile (Ok None) before after answer = (answer ≡ (Ok tt)) × (after ≡ before)
LeftWindowed d r tile (Ok (Some h)) before after answer = WindowedDecoding d h r tile before after answer
