-- Promises. The canonical form: two streams have the same colour lines exactly if their tight streams are the same bytes.
use Rattle.std.specs.Prelude.{Bool, true, List, ◌↔◌, ◌≡◌, ℕ}
use Rattle.stream.specs.declared.header.FujiHeader.{FujiHeader}
use Rattle.theorem_whole_streams.specs.Kinds.{flagged, with_flag, Readable}
use Rattle.theorem_whole_streams.specs.Tightened.{tightened, SameSets}

-- of streams that read whole and whose header bytes are the same but for the lossless flag. Codes, padding and what follows the blocks may differ
abbrev pub Canonical : Type 0
Canonical =
    (d e : List ℕ) (h : FujiHeader) (lossless : Bool) → Readable d h → Readable e (with_flag lossless h) → flagged true d ≡ flagged true e
    → (tightened d h ≡ tightened e (with_flag lossless h)) ↔ SameSets d e h (with_flag lossless h)
