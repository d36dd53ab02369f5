-- Promises. A working copy with bases of 0 loses nothing.
use Rattle.std.specs.Prelude.{List, ◌≡◌, ℕ, ◌<◌, replicate}
use Rattle.stream.specs.declared.header.FujiHeader.{FujiHeader}
use Rattle.theorem_whole_streams.specs.Kinds.{Readable}
use Rattle.theorem_whole_streams.specs.LossyCopies.{lossy_header, lossy_copy}
use Rattle.theorem_whole_streams.specs.Tightened.{SameSets, SameDecoding}

-- it has the stream's colour lines, interpolated ones too, and decodes to the same samples and answers
abbrev pub ZeroBases : Type 0
ZeroBases =
    (d : List ℕ) (h : FujiHeader) → Readable d h → (bases : ℕ → List ℕ) → ((b : ℕ) → b < h.blocks → bases b ≡ replicate h.lines 0)
    → SameSets d (lossy_copy d h bases) h (lossy_header h) × SameDecoding d (lossy_copy d h bases) h (lossy_header h)
