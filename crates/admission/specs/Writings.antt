-- Promises. How the writer's calls begin: a refusal, or a header to go by. A call that is refused touches no buffer. Refusals come in the order of their
-- numbers, but for the lossy writer's: there 16 stands in the place of 8, and 17 follows it. Assumes nothing.
use Rattle.std.specs.Prelude.{cond, List, ℕ, eqb, Err, Ok, Result}
use Rattle.colour_lines.specs.Sets.{set_size}
use Rattle.image_map.specs.Places.{width_of}
use Rattle.stream.specs.Headers.{parse_of}
use Rattle.stream.specs.declared.header.FujiHeader.{FujiHeader}
use Rattle.stream.specs.declared.header.Refusal.TheVariants.{Lossy, WrongCount, Lossless, WrongBases}
use Rattle.admission.specs.Beginnings.{with_scratch}
use Rattle.stream.specs.declared.header.Refusal.{Refusal}

-- ---- the writer, for a set of so many samples

-- refusals 9 and 10
abbrev pub with_count : FujiHeader → ℕ → ℕ → ℕ → Result FujiHeader Refusal
with_count h count samples records =
    cond (eqb count (set_size (width_of h.xtrans) h.lines)) (with_scratch h samples records) (Err WrongCount)

-- refusal 8 before them
abbrev pub with_set : FujiHeader → ℕ → ℕ → ℕ → Result FujiHeader Refusal
with_set h count samples records = cond h.lossless (with_count h count samples records) (Err Lossy)

-- after refusals 1 and 2
abbrev pub with_parsed : Result FujiHeader Refusal → ℕ → ℕ → ℕ → Result FujiHeader Refusal
with_parsed (Err x) count samples records = Err x
with_parsed (Ok h) count samples records = with_set h count samples records

unfoldable pub writing_begins : List ℕ → ℕ → ℕ → ℕ → Result FujiHeader Refusal
writing_begins d count samples records = with_parsed (parse_of d) count samples records

-- ---- the lossy writer, with so many bases

-- refusal 16 in the place of 8, and 17 after it
abbrev pub with_bases : FujiHeader → ℕ → ℕ → ℕ → ℕ → Result FujiHeader Refusal
with_bases h bases count samples records =
    cond h.lossless
    (Err Lossless)
    (cond (eqb bases h.lines) (with_count h count samples records) (Err WrongBases))

-- after refusals 1 and 2
abbrev pub with_lossy : Result FujiHeader Refusal → ℕ → ℕ → ℕ → ℕ → Result FujiHeader Refusal
with_lossy (Err x) bases count samples records = Err x
with_lossy (Ok h) bases count samples records = with_bases h bases count samples records

unfoldable pub lossy_begins : List ℕ → ℕ → ℕ → ℕ → ℕ → Result FujiHeader Refusal
lossy_begins d bases count samples records = with_lossy (parse_of d) bases count samples records
