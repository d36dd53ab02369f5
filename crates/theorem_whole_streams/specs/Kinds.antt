-- Promises. The header of a stream with another lossless flag, and streams whose blocks are all read whole.
use Rattle.std.specs.Prelude.{Bool, List, ◌≡◌, ℕ, ◌<◌, take, set, Ok}
use Rattle.numbers.specs.Numbers.{flag}
use Rattle.stream.specs.Headers.{parse_of}
use Rattle.stream.specs.declared.header.FujiHeader.{FujiHeader}
use Rattle.stream.specs.Streams.{open_of}
use Rattle.read_block.specs.Images.{form_of, bytes_in, bases_in}
use Rattle.read_set.specs.HandedSets.{set_with}
use Rattle.theorem_whole_streams.specs.ReadSets.{ReadsWhole}

-- the header's 16 bytes with this flag, in byte 2, and the header that they say
abbrev pub flagged : Bool → List ℕ → List ℕ
flagged lossless d = set (take 16 d) 2 (flag lossless)

abbrev pub with_flag : Bool → FujiHeader → FujiHeader
with_flag lossless h =
    record {
      lossless = lossless;
      xtrans = h.xtrans;
      bits = h.bits;
      height = h.height;
      rounded_width = h.rounded_width;
      width = h.width;
      block_size = h.block_size;
      blocks = h.blocks;
      lines = h.lines;
    }

abbrev pub FlaggedParses : Type 0
FlaggedParses = (lossless : Bool) (d : List ℕ) (h : FujiHeader) → parse_of d ≡ Ok h → parse_of (flagged lossless d) ≡ Ok (with_flag lossless h)

-- with the flag that it has, a header is what it was, and so are its bytes
abbrev pub FlagKept : Type 0
FlagKept =
    (d : List ℕ) (h : FujiHeader) → parse_of d ≡ Ok h → (with_flag h.lossless h ≡ h) × (flagged h.lossless d ≡ take 16 d)

-- a stream that opens, lossless or lossy, all of whose blocks are read whole. Its codes, tails and padding need not be tight, and bytes may follow
pub record Readable (d : List ℕ) (h : FujiHeader) : Type 0 where
  pub opens : open_of d ≡ Ok h
  pub reads : (b : ℕ) → b < h.blocks → ReadsWhole (form_of h) (bases_in d b) h.lines (bytes_in d b)

-- the colour lines of block b: what `read_set` hands out
abbrev pub set_in : List ℕ → FujiHeader → ℕ → List ℕ
set_in d h b = set_with (form_of h) (bases_in d b) h.lines (bytes_in d b)
