-- Promises. Calls that make a stream of one that reads: with what they ask for, and only then, `tighten` puts its tight stream, and `lossy_copy` the working copy with
-- these bases. Assumes nothing.
use Rattle.std.specs.Prelude.{true, false, List, [], ◌∷◌, ◌++◌, ◌↔◌, ◌≡◌, ℕ, ◌*◌, ◌≤◌, length, take, drop, Ok, Result}
use Rattle.image_map.specs.Places.{width_of}
use Rattle.colour_lines.specs.Sets.{set_size}
use Rattle.stream.specs.declared.header.FujiHeader.{FujiHeader}
use Rattle.stream.specs.Refusals.{no_refusal}
use Rattle.stream.specs.Streams.{open_of}
use Rattle.admission.specs.Beginnings.{ScratchFits}
use Rattle.theorem_whole_streams.specs.Kinds.{Readable}
use Rattle.theorem_whole_streams.specs.Tightened.{tightened}
use Rattle.theorem_whole_streams.specs.LossyCopies.{lossy_copy}
use Rattle.stream_copies.specs.MadeStreams.{Lent, making_begins, LeftMade}
use Rattle.stream_copies.specs.Words.{ToldTightened, ToldCopy}
use Rattle.stream.specs.declared.header.Refusal.{Refusal}

-- what a call asks for, to put the stream s
pub record Asked (h : FujiHeader) (s : List ℕ) (before : Lent) : Type 0 where
  pub set : length before.set ≡ set_size (width_of h.xtrans) h.lines
  pub scratch : ScratchFits h (length before.lines) (length before.records)
  pub room : length s ≤ length before.out

-- s stands at the start of the output, its length is the answer, and what follows it is what it was
pub record Puts (s : List ℕ) (before after : Lent) (answer : Result ℕ Refusal) : Type 0 where
  pub answered : answer ≡ Ok (length s)
  pub output : after.out ≡ s ++ drop (length s) before.out

abbrev pub TightenPuts : Type 0
TightenPuts =
    (d : List ℕ) (h : FujiHeader) → Readable d h → (before after : Lent) (a : Result ℕ Refusal) → Asked h (tightened d h) before
    → LeftMade d [] (making_begins false (open_of d) [] before) before after a → Puts (tightened d h) before after a

-- row b of bases that stand one after the other
abbrev pub bases_row : FujiHeader → List ℕ → ℕ → List ℕ
bases_row h bases b = take h.lines (drop (b * h.lines) bases)

abbrev pub LossyCopyPuts : Type 0
LossyCopyPuts =
    (d : List ℕ) (h : FujiHeader) → Readable d h → (bases : List ℕ) → length bases ≡ h.blocks * h.lines
    → (before after : Lent) (a : Result ℕ Refusal) → Asked h (lossy_copy d h (bases_row h bases)) before
    → LeftMade d bases (making_begins true (open_of d) bases before) before after a → Puts (lossy_copy d h (bases_row h bases)) before after a

-- ---- and only then: such a call answers a length exactly if the stream reads whole, and what is lent fits

-- a length is answered
abbrev pub Answered : Result ℕ Refusal → Type 0
Answered a = (n : ℕ) × (a ≡ Ok n)

pub record TightenFits (d : List ℕ) (before : Lent) : Type 0 where
  pub header : FujiHeader
  pub readable : Readable d header
  pub asked : Asked header (tightened d header) before

abbrev pub TightenAnswers : Type 0
TightenAnswers =
    (d : List ℕ) (before after : Lent) (a : Result ℕ Refusal) → LeftMade d [] (making_begins false (open_of d) [] before) before after a
    → Answered a ↔ TightenFits d before

pub record LossyCopyFits (d bases : List ℕ) (before : Lent) : Type 0 where
  pub header : FujiHeader
  pub readable : Readable d header
  pub rows : length bases ≡ header.blocks * header.lines
  pub asked : Asked header (lossy_copy d header (bases_row header bases)) before

abbrev pub LossyCopyAnswers : Type 0
LossyCopyAnswers =
    (d bases : List ℕ) (before after : Lent) (a : Result ℕ Refusal) → LeftMade d bases (making_begins true (open_of d) bases before) before after a
    → Answered a ↔ LossyCopyFits d bases before

-- ---- the functions for C: no refusal is told exactly if the call fits; then the length is that of the stream, which stands at the start of the output

abbrev pub TightenTold : Type 0
TightenTold =
    (d : List ℕ) (before after : Lent) (size words : List ℕ) → ToldTightened d before after size words
    → ((words ≡ no_refusal) ↔ TightenFits d before)
    × ((F : TightenFits d before) → let s = tightened d F.header in (size ≡ length s ∷ []) × (after.out ≡ s ++ drop (length s) before.out))

abbrev pub LossyCopyTold : Type 0
LossyCopyTold =
    (d bases : List ℕ) (before after : Lent) (size words : List ℕ) → ToldCopy d bases before after size words
    → ((words ≡ no_refusal) ↔ LossyCopyFits d bases before)
    × ((F : LossyCopyFits d bases before) → let s = lossy_copy d F.header (bases_row F.header bases) in
    (size ≡ length s ∷ []) × (after.out ≡ s ++ drop (length s) before.out))
