-- Inside. What the functions that walk over a block say. No definition of the format and no entry's contract rests on these.
use Rattle.std.specs.Prelude.{true, List, ◌≡◌, ℕ, suc, ◌+◌, ◌-◌, ◌*◌, ◌/◌, ◌≤◌, ◌<◌, get_or, Err, Ok, Result, None, Some}
use Rattle.statistics.specs.Inside.{InRange}
use Rattle.statistics.specs.declared.Record.{Record}
use Rattle.code.specs.declared.Place.{Place}
use Rattle.line_totals.specs.declared.Totals.{Totals}
use Rattle.line_totals.specs.declared.TightLines.{TightLines}
use Rattle.pass_steps.specs.Contexts.{no_record}
use Rattle.image_map.specs.Places.{width_of, Changed}
use Rattle.image_map.specs.Inside.{picture_row, in_rows, emitted_sample}
use Rattle.image_map.specs.declared.Part.{Part}
use Rattle.read_block.specs.Blocks.{State, read_lines, read_from, lines_of, totals_after}
use Rattle.read_block.specs.Inside.{tight_before}
use Rattle.read_block.specs.declared.Form.{Form}

-- ---- the image

-- the sample that entry i of the image shows: that of its line
abbrev pub shown_sample : Form → (bases s tile : List ℕ) → Part → ℕ → ℕ
shown_sample F bases s tile a i =
    emitted_sample F.xtrans (width_of F.xtrans) tile (lines_of (read_lines F bases s (suc (picture_row a i / 6)))) a i

-- the image after n lines: their rows have been put into it
abbrev pub Shown : Form → (bases s tile : List ℕ) → Part → ℕ → (before after : List ℕ) → Type 0
Shown F bases s tile a n before after = Changed (in_rows a 0 (6 * n)) (shown_sample F bases s tile a) before after

-- the same where lines are read from line `first` on, which finds the state z
abbrev pub shown_from : Form → (bases s tile : List ℕ) → ℕ → State → Part → ℕ → ℕ
shown_from F bases s tile first z a i =
    let lines = lines_of (read_from F bases s first z (suc (picture_row a i / 6 - first))) in
    emitted_sample F.xtrans (width_of F.xtrans) tile lines a i

abbrev pub ShownFrom : Form → (bases s tile : List ℕ) → ℕ → State → Part → ℕ → (before after : List ℕ) → Type 0
ShownFrom F bases s tile first z a n before after = Changed (in_rows a (6 * first) (6 * (first + n))) (shown_from F bases s tile first z a) before after

-- ---- the answers

-- every record is in range
abbrev pub AllInRange : List Record → Type 0
AllInRange l = (j : ℕ) → j < 336 → InRange (get_or l j no_record)

-- the lines that go to the image: all of them, or those before the truncated one
abbrev pub shown_lines : Result (Totals × TightLines) (ℕ × Totals) → ℕ → ℕ
shown_lines (Ok (all, tight)) count = count
shown_lines (Err (line, before)) count = line

-- where a block starts, the state at a place, and what was counted up to it
abbrev pub start_place : Place
start_place = record { at = record { 0 = 0 }; tight = true; long = 0 }

abbrev pub state_at : List ℕ → List Record → Place → State
state_at lines records from = record { lines = lines; records = records; at = from.at; tight = from.tight; long = from.long }

abbrev pub totals_at : Place → Totals
totals_at from = record { bits = from.at.0; long = from.long }

-- what a walk over the first `count` lines of a block says: all were read, with these totals, and so many had only tight codes
pub record ReadAll (F : Form) (bases s : List ℕ) (count : ℕ) (all : Totals) (tight : TightLines) : Type 0 where
  pub end : State
  pub read : read_lines F bases s count ≡ Some end
  pub all_is : all ≡ totals_after F bases s count
  pub tight_is : tight ≡ tight_before F bases s count

-- or this line is the first that is truncated
pub record CutAt (F : Form) (bases s : List ℕ) (count line : ℕ) (totals : Totals) : Type 0 where
  pub before : State
  pub inside : suc line ≤ count
  pub read : read_lines F bases s line ≡ Some before
  pub cut : read_lines F bases s (suc line) ≡ None
  pub totals_are : totals ≡ totals_after F bases s line

abbrev pub IsWalked : Form → List ℕ → List ℕ → ℕ → Result (Totals × TightLines) (ℕ × Totals) → Type 0
IsWalked F bases s count (Ok (all, tight)) = ReadAll F bases s count all tight
IsWalked F bases s count (Err (line, before)) = CutAt F bases s count line before
