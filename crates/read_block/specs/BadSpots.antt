-- Rules. Where a bad code stands: which lines, passes and steps were read before it, with tight codes alone, and how its own code was read.
use Rattle.std.specs.Prelude.{true, false, List, ◌∷◌, ◌++◌, ◌≡◌, ℕ, ◌<◌, get_or, Some}
use Rattle.statistics.specs.Statistics.{k_of}
use Rattle.quantiser.specs.Quantisers.{largest}
use Rattle.quantiser.specs.declared.Quantiser.{Quantiser}
use Rattle.code.specs.Codes.{code_at}
use Rattle.code.specs.Tight.{is_tight}
use Rattle.code.specs.declared.Code.{Code}
use Rattle.pass_schedule.specs.Steps.{Step, plan_of, pass_steps}
use Rattle.pass_steps.specs.Contexts.{used_quantiser, no_record, step_look, step_slot}
use Rattle.read_pass.specs.Readings.{Reading, reads}
use Rattle.image_map.specs.Places.{width_of}
use Rattle.read_block.specs.Records.{base_of}
use Rattle.read_block.specs.Blocks.{State, runs, enter, pass_at, before_line, read_lines}
use Rattle.code.specs.Reasons.{reason_of}
use Rattle.read_block.specs.BadCodes.{BadCode}
use Rattle.read_block.specs.declared.Form.{Form}

-- the k of a step's code, and its quantiser
abbrev pub step_k : ℕ → ℕ → Step → Reading → ℕ
step_k q W x r = k_of (get_or r.set (step_slot q W x r.lines) no_record)

abbrev pub step_quantiser : ℕ → ℕ → ℕ → Step → Reading → Quantiser
step_quantiser bits q W x r = used_quantiser bits q (step_look q W x r.lines).choice

-- among steps of pass i of line n: those before it were read, with tight codes alone, and its own code was read at its first bit
pub record BadStep (bits q W : ℕ) (s : List ℕ) (n i : ℕ) (l : List Step) (r : Reading) (b : BadCode) : Type 0 where
  pub line : b.line ≡ n
  pub pass : b.pass ≡ i
  pub before : List Step
  pub after : List Step
  pub among : l ≡ before ++ b.step ∷ after
  pub reading : Reading
  pub read : reads bits q W s before r ≡ Some reading
  pub clean : reading.tight ≡ r.tight
  pub coded : b.step.coded ≡ true
  pub at : b.at ≡ reading.at
  pub code : Code
  pub code_read : code_at s b.at.0 (step_k q W b.step reading) (step_quantiser bits q W b.step reading).limit
      (step_quantiser bits q W b.step reading).raw ≡ Some code
  pub loose : is_tight (largest bits) code ≡ false
  pub reason : reason_of (largest bits) (step_k q W b.step reading) (step_quantiser bits q W b.step reading).limit code ≡ Some b.reason

-- in pass i of line n, one of the first lines of the block s: the lines and passes before it were read, with tight codes alone
pub record BadIn (F : Form) (bases s : List ℕ) (lines n i : ℕ) (b : BadCode) : Type 0 where
  pub line_inside : n < lines
  pub pass_inside : i < 6
  pub start : State
  pub started : read_lines F bases s n ≡ Some start
  pub entry : State
  pub entered : runs (pass_at F (base_of bases n) s) i (before_line F bases n start) ≡ Some entry
  pub step : BadStep F.bits (base_of bases n) (width_of F.xtrans) s n i (pass_steps (width_of F.xtrans) (plan_of F.xtrans i))
      (enter F (plan_of F.xtrans i) entry) b
  pub clean : step.reading.tight ≡ true
