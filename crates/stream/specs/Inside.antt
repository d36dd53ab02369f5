-- Inside. What only our own functions say.
use Rattle.std.specs.Prelude.{List, ◌≡◌, ℕ, ◌+◌, ◌-◌, ◌*◌, ◌%◌, ◌≤◌, ◌<◌, length, false, Err, Ok, Result}
use Rattle.stream.specs.declared.header.FujiHeader.{FujiHeader}
use Rattle.stream.specs.Headers.{parse_of}
use Rattle.stream.specs.Ranges.{cut}
use Rattle.stream.specs.Streams.{sizes_end, row_start}
use Rattle.bits.specs.declared.ByteOffset.{ByteOffset}
use Rattle.stream.specs.declared.header.Refusal.{Refusal}

-- what the rules give for a header that parses
pub record Ruled (h : FujiHeader) : Type 0 where
  pub bits_low : 12 ≤ h.bits
  pub bits_high : h.bits ≤ 16
  pub bits_even : h.bits % 2 ≡ 0
  pub blocks_low : 1 ≤ h.blocks
  pub blocks_high : h.blocks ≤ 16
  pub lines_low : 1 ≤ h.lines
  pub lines_high : h.lines ≤ 2731
  pub height_is : h.height ≡ 6 * h.lines
  pub rounded_is : h.rounded_width ≡ 768 * h.blocks
  pub width_high : h.width ≤ 768 * h.blocks
  pub width_low : 768 * h.blocks < h.width + 768
  pub block_size_is : h.block_size ≡ 768

-- the range of so many bytes from `start` on, its start and its end cut
abbrev pub cut_range : List ℕ → ℕ → ℕ → Result (ByteOffset × ℕ) Refusal
cut_range d start size = Ok ((record { 0 = cut d start }), (cut d (start + size) - cut d start))

-- a range that lies in the bytes
abbrev pub Inside : List ℕ → Result (ByteOffset × ℕ) Refusal → Type 0
Inside d (Ok (from, n)) = from.0 + n ≤ length d
Inside d (Err r) = Unit {0}

-- what holds of a stream that opens
pub record Opened (d : List ℕ) (h : FujiHeader) : Type 0 where
  pub parsed : parse_of d ≡ Ok h
  pub ruled : Ruled h
  pub sizes : sizes_end h ≤ length d
  pub whole : h.lossless ≡ false → (b : ℕ) → b < h.blocks → row_start h b + h.lines ≤ length d
