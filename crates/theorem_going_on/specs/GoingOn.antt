-- Promises. Going on from a stored state gives what the reading from the top gives; from any other bytes that load it gives samples in range; and when a state
-- is stored. Of calls, whatever the buffers that they are lent held. Assumes nothing.
use Rattle.std.specs.Prelude.{Bool, true, cond, ◌&&◌, List, ◌↔◌, ◌≡◌, ℕ, suc, ◌+◌, ◌-◌, ◌^◌, ◌≤◌, ◌<◌, max, ltb, eqb, length, get_or, take, Ok, Some}
use Rattle.image_map.specs.Places.{width_of, Changed}
use Rattle.stream.specs.declared.header.FujiHeader.{FujiHeader}
use Rattle.image_region.specs.Regions.{block_of, last_block, line_count}
use Rattle.image_region.specs.declared.Rect.{Rect}
use Rattle.saved_state.specs.Checkpoints.{size_of_checkpoint}
use Rattle.admission.specs.Beginnings.{read_begins}
use Rattle.admission.specs.Resumings.{resume_begins}
use Rattle.read_block.specs.Blocks.{read_lines, totals_after}
use Rattle.read_block.specs.Images.{form_of, bytes_in, bases_in, is_read, read_in, line_of, is_decoded, decoded_sample, block_answer}
use Rattle.read_block.specs.Lent.{Buffers, Outputs}
use Rattle.saved_state.specs.Resuming.{is_touched, is_resumed, checked_in, LeftResumed}
use Rattle.saved_state.specs.Storing.{LeftStored}
use Rattle.read_block.specs.declared.Counted.{Counted}

-- ---- going on from a state that was stored

-- two streams have the same block b: the first 16 bytes, the block's bytes and its bases are the same. Elsewhere they may differ
pub record SameBlock (d d' : List ℕ) (b : ℕ) : Type 0 where
  pub header : (i : ℕ) → i < 16 → get_or d i 0 ≡ get_or d' i 0
  pub bytes : bytes_in d b ≡ bytes_in d' b
  pub bases : bases_in d b ≡ bases_in d' b

-- a call stores the state of block b of d after line n, and another goes on from these bytes in block b of d', to fill the region r. The second is not
-- refused for its stream, block, region or scratch, and the region is not empty
pub record Calls (d d' : List ℕ) (h : FujiHeader) (b n : ℕ) (r : Rect) (tile : List ℕ) (lent lent' : Outputs) (before after : Buffers)
    (stored resumed : Counted) : Type 0 where
  pub stores : LeftStored d b n lent lent' stored
  pub done : stored.answer ≡ (Ok tt)
  pub begins : resume_begins d' b r (length before.image) (length before.lines) (length before.records) ≡ Ok (Some h)
  pub goes : LeftResumed d' b (take (size_of_checkpoint (width_of h.xtrans)) lent'.out) r tile before after resumed

-- whether entry i is of block b and of a line after line n, and decoding the region shows it
abbrev pub is_later : List ℕ → FujiHeader → Rect → (b n i : ℕ) → Bool
is_later d h r b n i = eqb (block_of r i) b && ltb n (line_of r i) && is_decoded d h r (last_block r + 1) i

-- how many lines the two calls have read together: lines 0 to n, and those that reading from the top reads for the region
abbrev pub read_by_both : List ℕ → FujiHeader → Rect → (b n : ℕ) → ℕ
read_by_both d h r b n = cond (is_touched r b) (max (suc n) (read_in d h r b)) (suc n)

-- what going on in the stream d then gives
pub record AsFromTop (d : List ℕ) (h : FujiHeader) (b n : ℕ) (r : Rect) (tile image image' : List ℕ) (stored resumed : Counted) : Type 0 where
  -- if the region touches the block, the answer of the reading from the top, which is Ok or refusal 14; else nothing is read
  pub answered : resumed.answer ≡ cond (is_touched r b) (block_answer (form_of h) (bases_in d b) (bytes_in d b) b (line_count r)) (Ok tt)
  -- the later entries have the samples that decoding the region gives, and all others are what they were
  pub pictured : Changed (is_later d h r b n) (decoded_sample d h r tile) image image'
  -- the totals count only the lines that are read now: with those of storing they are those of all lines
  pub bits : stored.totals.bits + resumed.totals.bits ≡ (totals_after (form_of h) (bases_in d b) (bytes_in d b) (read_by_both d h r b n)).bits
  pub long : stored.totals.long + resumed.totals.long ≡ (totals_after (form_of h) (bases_in d b) (bytes_in d b) (read_by_both d h r b n)).long

-- of streams of bytes
abbrev pub GoingOn : Type 0
GoingOn =
    (d d' : List ℕ) (h : FujiHeader) (b n : ℕ) (r : Rect) (tile : List ℕ) (lent lent' : Outputs) (before after : Buffers) (stored resumed : Counted)
    → ((i : ℕ) → get_or d' i 0 < 256) → SameBlock d d' b → Calls d d' h b n r tile lent lent' before after stored resumed
    → AsFromTop d' h b n r tile before.image after.image stored resumed

-- ---- going on from any bytes

-- of any bytes that load, each entry that is filled has a sample of at most 2^bits − 1
abbrev pub InRangeFromAny : Type 0
InRangeFromAny =
    (d : List ℕ) (h : FujiHeader) (b : ℕ) (s : List ℕ) (r : Rect) (tile : List ℕ) (before after : Buffers) (answer : Counted) (k at i : ℕ)
    → resume_begins d b r (length before.image) (length before.lines) (length before.records) ≡ Ok (Some h)
    → LeftResumed d b s r tile before after answer → checked_in d b h s ≡ Ok (k, at) → is_resumed d b h s r i ≡ true
    → get_or after.image i 0 ≤ 2 ^ h.bits - 1

-- ---- storing

-- line n is below lines, the bytes are long enough, and lines 0 to n are read
pub record CanStore (d : List ℕ) (h : FujiHeader) (b n room : ℕ) : Type 0 where
  pub line : n < h.lines
  pub long : size_of_checkpoint (width_of h.xtrans) ≤ room
  pub lines : is_read (read_lines (form_of h) (bases_in d b) (bytes_in d b) (suc n)) ≡ true

-- a call that is not refused for its stream, block or scratch stores exactly then
abbrev pub StoresExactly : Type 0
StoresExactly =
    (d : List ℕ) (h : FujiHeader) (b n : ℕ) (lent lent' : Outputs) (answer : Counted)
    → read_begins d b (length lent.lines) (length lent.records) ≡ Ok h → LeftStored d b n lent lent' answer
    → (answer.answer ≡ (Ok tt)) ↔ CanStore d h b n (length lent.out)
