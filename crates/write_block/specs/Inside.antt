-- Inside. What only our own functions say.
use Rattle.std.specs.Prelude.{List, [], ◌≡◌, ℕ, ◌≤◌, ◌<◌, length, get_or, None}
use Rattle.quantiser.specs.Quantisers.{largest}
use Rattle.pass_schedule.specs.Steps.{plan_of, pass_steps}
use Rattle.image_map.specs.Places.{width_of}
use Rattle.colour_lines.specs.Sets.{set_size}
use Rattle.write_pass.specs.Puts.{Wanted}
use Rattle.read_block.specs.declared.Form.{Form}
use Rattle.write_block.specs.WrittenBlocks.{write_lines}

-- the samples of a set that have a code are in 0..M
abbrev pub SetWanted : Form → List ℕ → Type 0
SetWanted F t = (n i : ℕ) → i < 6 → Wanted (largest F.bits) (width_of F.xtrans) t n (pass_steps (width_of F.xtrans) (plan_of F.xtrans i))

-- a set that fits: it has all samples, each in 0..M, and each interpolated position has its prediction
pub record FitSet (F : Form) (lines : ℕ) (t : List ℕ) : Type 0 where
  pub size : length t ≡ set_size (width_of F.xtrans) lines
  pub range : (j : ℕ) → get_or t j 0 ≤ largest F.bits
  pub predicted : (write_lines F [] t lines).wrong ≡ None
