-- Promises. A whole stream from a header, base rows and blocks.
use Rattle.std.specs.Prelude.{List, [], ◌∷◌, ◌++◌, ◌≡◌, ℕ, zero, suc, ◌+◌, ◌-◌, ◌*◌, ◌/◌, ◌%◌, ◌^◌, ◌<◌, length, take, replicate, Ok}
use Rattle.stream.specs.Headers.{parse_of}
use Rattle.stream.specs.declared.header.FujiHeader.{FujiHeader}
use Rattle.stream.specs.Streams.{padded, row_length, row_start, open_of}
use Rattle.pass_schedule.specs.Steps.{upto}
use Rattle.read_block.specs.Images.{bytes_in, bases_in}
use Rattle.theorem_one_to_one.specs.Correspondence.{Bytes}

-- a size in four bytes, big-endian
abbrev pub four_bytes : ℕ → List ℕ
four_bytes n = n / 0x1000000 ∷ n / 0x10000 % 256 ∷ n / 0x100 % 256 ∷ n % 256 ∷ []

-- zeros follow, up to a multiple of 16
abbrev pub filled : List ℕ → List ℕ
filled l = l ++ replicate (padded (length l) - length l) 0

-- how long f 0, f 1, .. up to n are together
unfoldable pub length_of : (ℕ → List ℕ) → ℕ → ℕ
length_of f zero = 0
length_of f (suc n) = length_of f n + length (f n)

-- the 16 bytes of the header, the sizes of the blocks, the base rows (empty ones if lossless), each padded, and the blocks one after the other
unfoldable pub assembled : List ℕ → FujiHeader → (rows blocks : ℕ → List ℕ) → List ℕ
assembled d h rows blocks =
    take 16 d
    ++ (filled (upto (λ b. four_bytes (length (blocks b))) h.blocks) ++ (upto (λ b. filled (rows b)) h.blocks ++ upto blocks h.blocks))

-- rows and blocks that go into a stream with this header
pub record Parts (h : FujiHeader) (rows blocks : ℕ → List ℕ) : Type 0 where
  pub rows_long : (b : ℕ) → b < h.blocks → length (rows b) ≡ row_length h
  pub short : (b : ℕ) → b < h.blocks → length (blocks b) < 2 ^ 32

-- a stream that opens with this header, rows and blocks
pub record OpensAs (s : List ℕ) (h : FujiHeader) (rows blocks : ℕ → List ℕ) : Type 0 where
  pub opens : open_of s ≡ Ok h
  pub row : (b : ℕ) → b < h.blocks → bases_in s b ≡ rows b
  pub block : (b : ℕ) → b < h.blocks → bytes_in s b ≡ blocks b

-- what is assembled opens so, starts with the header's bytes, and has no byte more
pub record Assembling (d : List ℕ) (h : FujiHeader) (rows blocks : ℕ → List ℕ) : Type 0 where
  pub there : OpensAs (assembled d h rows blocks) h rows blocks
  pub head : take 16 (assembled d h rows blocks) ≡ take 16 d
  pub size : length (assembled d h rows blocks) ≡ row_start h h.blocks + length_of blocks h.blocks
  pub bytes : Bytes d → ((b : ℕ) → b < h.blocks → Bytes (rows b) × Bytes (blocks b)) → Bytes (assembled d h rows blocks)

abbrev pub AssembledOpens : Type 0
AssembledOpens =
    (d : List ℕ) (h : FujiHeader) → parse_of d ≡ Ok h → (rows blocks : ℕ → List ℕ) → Parts h rows blocks → Assembling d h rows blocks
