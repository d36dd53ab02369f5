-- Promises. The set of colour lines of any block that is read whole, tight or not, lossless or lossy.
use Rattle.std.specs.Prelude.{List, [], ◌≡◌, ℕ, ◌≤◌, Some}
use Rattle.pass_steps.specs.Contexts.{Depth}
use Rattle.read_block.specs.Blocks.{State, read_lines, lines_of}
use Rattle.read_block.specs.TightBlocks.{set_read}
use Rattle.write_block.specs.WrittenBlocks.{write_lines}
use Rattle.read_block.specs.declared.Form.{Form}
use Rattle.read_set.specs.HandedSets.{set_with}
use Rattle.theorem_one_to_one.specs.PredictedSets.{PredictedSet}

-- all lines of the block s are read, with these bases
abbrev pub ReadsWhole : Form → (bases : List ℕ) → ℕ → List ℕ → Type 0
ReadsWhole F bases lines s = (z : State) × (read_lines F bases s lines ≡ Some z)

-- without bases, what `read_set` hands out is the set of a lossless block
abbrev pub WithoutBases : Type 0
WithoutBases = (F : Form) (lines : ℕ) (s : List ℕ) → set_with F [] lines s ≡ set_read F lines s

-- every sample is in 0..M and each interpolated position has its prediction: the set is that of a tight lossless block. No code need be tight
abbrev pub ReadablePredicted : Type 0
ReadablePredicted =
    (F : Form) (bases : List ℕ) (lines : ℕ) (s : List ℕ) → Depth F.bits → ReadsWhole F bases lines s → PredictedSet F lines (set_with F bases lines s)

-- and the colour lines after each line, guards too, go by the set alone: they are those that writing it goes through
abbrev pub LinesDetermined : Type 0
LinesDetermined =
    (F : Form) (bases : List ℕ) (lines : ℕ) (s : List ℕ) → Depth F.bits → ReadsWhole F bases lines s
    → (n : ℕ) → n ≤ lines → lines_of (read_lines F bases s n) ≡ (write_lines F [] (set_with F bases lines s) n).lines
