-- `read_block::reading::read_lines` meets its contract: i lines have been read, and the image shows them. Assumes nothing.
use mathlib.Core.Bool.{Bool}
use mathlib.Core.List.{List}
use mathlib.Core.Path.{◌≡◌}
use Prim.Native.Nat.{ℕ, ◌+◌, ◌*◌, ◌≤◌}
use lib.ListN.{length}
use Rattle.code.specs.declared.Place.{Place}
use Rattle.statistics.specs.declared.Record.{Record}
use Rattle.line_totals.specs.declared.TightLines.{TightLines}
use Rattle.image_map.specs.Places.{width_of}
use Rattle.image_map.specs.Inside.{Fits}
use Rattle.image_map.specs.declared.Part.{Part}
use Rattle.read_block.specs.Blocks.{State, read_from}
use Rattle.read_block.specs.Inside.{tight_of}
use Rattle.read_block.specs.Walks.{state_at, AllInRange, ShownFrom}
use Rattle.read_block.specs.WindowedLines.{samples_in, Held}
use Rattle.read_block.specs.declared.Form.{Form}
use Rattle.read_block.proofs.BlockLaws.{LinesRead}
use Rattle.read_block.proofs.reading.read_lines.Given as goal

-- what holds after i lines, where line `first` found the state z
pub record SoFar (windowed : Bool) (F : Form) (bases s tile : List ℕ) (a : Part) (first : ℕ) (z : State) (image₀ : List ℕ) (i : ℕ) (lines : List ℕ)
    (rs : List Record) (image : List ℕ) (place : Place) (tight : TightLines) : Type 0 where
  pub tight_is : tight ≡ tight_of (λ n. read_from F bases s first z n) i
  pub shown : ShownFrom F bases s tile first z a i image₀ image
  pub read : LinesRead windowed F bases s first z i lines rs place

abbrev pub invariant-loop-i : goal.invariant-loop-i
invariant-loop-i l =
    ((l.w ≡ width_of l.showing.xtrans) × (l.w ≤ 512)) × (length l.lines ≡ samples_in l.windowed l.showing.xtrans) × (length l.rs ≡ 336) × AllInRange l.rs
    × (l.tight_lines.lines ≤ l.i)
    × (Fits l.showing.part l.image × (length l.image ≡ length l.initial.image))
    × ((ls : List ℕ) → length ls ≡ 18 * (width_of l.showing.xtrans + 2) → Held l.windowed (width_of l.showing.xtrans) 6 ls l.initial.lines
    → SoFar l.windowed (record { bits = l.bits; xtrans = l.showing.xtrans }) l.bases l.block l.showing.tile l.showing.part l.first (state_at ls l.initial.rs l.initial.place) l.initial.image l.i l.lines l.rs l.image l.place l.tight_lines)
