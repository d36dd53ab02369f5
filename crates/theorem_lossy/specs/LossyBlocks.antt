-- Promises. The block that the lossy writer writes is read whole by the ordinary rules with its bases, and ends where the writer says. Each sample that has a code reads
-- back within the base of the quantiser that coded it. Over all bases and depths. Assumes nothing.
use Rattle.std.specs.Prelude.{true, false, List, [], ◌∷◌, ◌++◌, ◌≢◌, ◌≡◌, ℕ, ◌≤◌, ◌<◌, length, get_or, drop, Err, Ok, Result, None, Option, Some}
use Rattle.bits.specs.BitLists.{is_tail}
use Rattle.pass_schedule.specs.Steps.{plan_of, pass_steps, is_interpolated}
use Rattle.read_pass.specs.Readings.{and_then}
use Rattle.theorem_one_to_one.specs.UsedBases.{base_in_steps, IsNear}
use Rattle.image_map.specs.Places.{width_of}
use Rattle.colour_lines.specs.Sets.{set_size, line_at, colour_line_at, position_at}
use Rattle.stream.specs.Headers.{parse_of}
use Rattle.stream.specs.Refusals.{no_refusal}
use Rattle.stream.specs.declared.header.FujiHeader.{FujiHeader}
use Rattle.stream.specs.declared.header.Refusal.TheVariants.{NotPredicted}
use Rattle.admission.specs.Writings.{lossy_begins}
use Rattle.read_block.specs.Records.{base_of}
use Rattle.read_block.specs.Blocks.{State, enter, runs, pass_at, before_line, read_lines}
use Rattle.read_block.specs.Images.{form_of}
use Rattle.read_block.specs.Lent.{Outputs}
use Rattle.read_block.specs.TightBlocks.{read_sample}
use Rattle.write_block.specs.Words.{ToldLossy}
use Rattle.write_block.specs.WrittenAnswers.{above_in, set_answer, LeftLossy}
use Rattle.write_block.specs.WrittenBlocks.{written_block}
use Rattle.read_block.specs.declared.Form.{Form}
use Rattle.stream.specs.declared.header.Refusal.{Refusal}

-- ---- the base by which a sample was coded

-- the pass of a colour line: 2 and 7 in the first, 8 and 15, 3 and 9, 10 and 16, 4 and 11, 12 and 17
unfoldable pub pass_of : ℕ → ℕ
pass_of l = get_or (0 ∷ 0 ∷ 0 ∷ 2 ∷ 4 ∷ 0 ∷ 0 ∷ 0 ∷ 1 ∷ 2 ∷ 3 ∷ 4 ∷ 5 ∷ 0 ∷ 0 ∷ 1 ∷ 3 ∷ 5 ∷ []) l 0

-- the base of the quantiser that the reading of the block s picks for position p of colour line l in line n, as it comes there: after the lines
-- before it, the passes before it in its line, and the steps before it in its pass
unfoldable pub base_at : Form → (bases s : List ℕ) → ℕ → ℕ → ℕ → Option ℕ
base_at F bases s n l p =
    let q = base_of bases n in
    let P = plan_of F.xtrans (pass_of l) in
    let W = width_of F.xtrans in
    and_then (read_lines F bases s n) (λ r.
    and_then (runs (pass_at F q s) (pass_of l) (before_line F bases n r)) (λ y. base_in_steps F.bits q W s l p (pass_steps W P) (enter F P y)))

-- ---- a block

-- index j of the set t reads back from the block s within that base, which is at most the one of its line
pub record ReadsNear (F : Form) (bases t s : List ℕ) (j : ℕ) : Type 0 where
  pub base : ℕ
  pub used : let W = width_of F.xtrans in base_at F bases s (line_at W j) (colour_line_at W j) (position_at W j) ≡ Some base
  pub low : base ≤ base_of bases (line_at (width_of F.xtrans) j)
  pub near : IsNear base (get_or t j 0) (read_sample F bases s j)

pub record LossyBlock (F : Form) (bases : List ℕ) (lines : ℕ) (t s : List ℕ) : Type 0 where
  -- all lines are read, each code is short or long as in a tight block, and zeros follow the last code up to 16 bytes
  pub end : State
  pub read : read_lines F bases s lines ≡ Some end
  pub codes : end.tight ≡ true
  pub tail : is_tail s end.at.0 ≡ true
  -- each sample that has a code reads back
  pub near : let W = width_of F.xtrans in
      (j : ℕ) → j < set_size W lines → is_interpolated F.xtrans (colour_line_at W j) (position_at W j) ≡ false → ReadsNear F bases t s j

-- that is the block that is written, and its length is answered where there is room for it
pub record Writes (F : Form) (bases : List ℕ) (lines : ℕ) (t : List ℕ) : Type 0 where
  pub block : LossyBlock F bases lines t (written_block F bases lines t)
  pub answered : (room : ℕ) → length (written_block F bases lines t) ≤ room → set_answer F bases lines t room ≡ Ok (length (written_block F bases lines t))

-- under every lossy header that breaks no rule, for as many bases as lines and every set of the right size of which no sample that has a code is
-- above 2^bits − 1
abbrev pub LossyBlocks : Type 0
LossyBlocks =
    (d bases t : List ℕ) (h : FujiHeader) → parse_of d ≡ Ok h → h.lossless ≡ false
    → length bases ≡ h.lines → length t ≡ set_size (width_of h.xtrans) h.lines → above_in (form_of h) bases t ≡ None
    → Writes (form_of h) bases h.lines t

-- ---- calls of `write_lossy`

-- how one begins
abbrev pub lossy_of : (d bases t : List ℕ) → Outputs → Result FujiHeader Refusal
lossy_of d bases t before = lossy_begins d (length bases) (length t) (length before.lines) (length before.records)

-- one that answers the length n: the output starts with a block of that length, which reads back, and goes on as it was
pub record LossyWritten (d bases t : List ℕ) (before after : Outputs) (n : ℕ) : Type 0 where
  pub header : FujiHeader
  pub parses : parse_of d ≡ Ok header
  pub block : List ℕ
  pub output : after.out ≡ block ++ drop n before.out
  pub size : length block ≡ n
  pub reads : LossyBlock (form_of header) bases header.lines t block

pub record LossyCalls : Type 0 where
  pub written : (d bases t : List ℕ) (before after : Outputs) (n : ℕ) → LeftLossy bases t (lossy_of d bases t before) before after (Ok n)
      → LossyWritten d bases t before after n
  -- refusal 12 is never given
  pub never_12 : (d bases t : List ℕ) (before after : Outputs) (a : Result ℕ Refusal) → LeftLossy bases t (lossy_of d bases t before) before after a
      → (j : ℕ) → a ≢ Err (NotPredicted j)
  -- the same from C: no refusal, and the length
  pub from_c : (d bases t : List ℕ) (before after : Outputs) (size words : List ℕ) → ToldLossy d bases t before after size words → words ≡ no_refusal
      → (n : ℕ) × (size ≡ n ∷ []) × LossyWritten d bases t before after n
