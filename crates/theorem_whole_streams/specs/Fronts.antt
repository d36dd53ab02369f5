-- Promises. What `put_front` (crates/stream_front) puts, with the blocks behind it, is the assembled stream.
use Rattle.std.specs.Prelude.{List, ◌++◌, ◌≡◌, ℕ, ◌*◌, ◌^◌, ◌<◌, length, get_or, take, drop, Ok}
use Rattle.stream.specs.Headers.{parse_of}
use Rattle.stream.specs.declared.header.FujiHeader.{FujiHeader}
use Rattle.stream.specs.Streams.{row_length}
use Rattle.pass_schedule.specs.Steps.{upto}
use Rattle.stream_front.specs.Fronts.{front_bytes}
use Rattle.theorem_whole_streams.specs.Assembled.{assembled}

-- row b of rows that stand one after the other
abbrev pub row_in : FujiHeader → List ℕ → ℕ → List ℕ
row_in h rows b = take (row_length h) (drop (b * row_length h) rows)

abbrev pub FrontAssembles : Type 0
FrontAssembles =
    (d : List ℕ) (h : FujiHeader) → parse_of d ≡ Ok h → (rows lengths : List ℕ) (blocks : ℕ → List ℕ) → length rows ≡ h.blocks * row_length h
    → ((b : ℕ) → b < h.blocks → (get_or lengths b 0 ≡ length (blocks b)) × (length (blocks b) < 2 ^ 32))
    → front_bytes d h rows lengths ++ upto blocks h.blocks ≡ assembled d h (row_in h rows) blocks
