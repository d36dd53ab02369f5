-- Promises. How long a tight stream and a working copy can be: output that suffices.
use Rattle.std.specs.Prelude.{List, ◌≡◌, ℕ, ◌+◌, ◌*◌, ◌≤◌, ◌<◌, length}
use Rattle.stream.specs.declared.header.FujiHeader.{FujiHeader}
use Rattle.stream.specs.Lengths.{length_bound}
use Rattle.stream.specs.Streams.{row_start}
use Rattle.theorem_whole_streams.specs.Kinds.{Readable}
use Rattle.theorem_whole_streams.specs.LossyCopies.{lossy_header, lossy_copy}
use Rattle.theorem_whole_streams.specs.Tightened.{tight_header, tightened}

-- no tight stream is longer than what stands before the blocks and the bound of `length_bound` for each block
abbrev pub TightenedBound : Type 0
TightenedBound =
    (d : List ℕ) (h : FujiHeader) → Readable d h
    → length (tightened d h) ≤ row_start (tight_header h) h.blocks + h.blocks * length_bound h

-- and no working copy, whatever its bases: a lossy code has at most as many bits as a tight lossless one
abbrev pub LossyCopyBound : Type 0
LossyCopyBound =
    (d : List ℕ) (h : FujiHeader) → Readable d h → (bases : ℕ → List ℕ) → ((b : ℕ) → b < h.blocks → length (bases b) ≡ h.lines)
    → length (lossy_copy d h bases) ≤ row_start (lossy_header h) h.blocks + h.blocks * length_bound h
