-- Inside. How a reading goes that looks for a bad code: by the definitions of reading, and of the first bad code.
use Rattle.std.specs.Prelude.{List, [], ℕ, None, Option, Some, option_map}
use Rattle.pass_schedule.specs.Steps.{Step, step_at}
use Rattle.read_pass.specs.Readings.{Reading, read_step, and_then, reads}
use Rattle.read_block.specs.Blocks.{State, runs, pass_at, end_line, read_lines}
use Rattle.read_block.specs.BadCodes.{BadCode, step_reason, bad_at, bad_in_steps, first_found, bad_in_pass, first_bad}
use Rattle.read_block.specs.declared.Form.{Form}
use Rattle.tight_diagnosis.specs.declared.trace.Sample.{Sample}
use Rattle.tight_diagnosis.specs.declared.trace.Stage.{Stage}

-- ---- the program's values

abbrev pub step_of : Sample → Step
step_of x = step_at x.line x.position x.coded

-- ---- ways

-- a bad code is found; the block's bytes end before there is one; or the reading goes on, with tight codes so far
pub data Way (A : Type 0) : Type 0 where
  found : BadCode → Way A
  cut_off : Way A
  on : A → Way A

-- by the first bad code of some steps, and by what they read
abbrev pub way_of : {A : Type 0} → Option BadCode → Option A → Way A
way_of (Some b) o = found b
way_of None None = cut_off
way_of None (Some a) = on a

-- the walk looks for a bad code and counts no long ones: it goes by a reading, or a state, without that count
abbrev pub plain : Reading → Reading
plain r = record { lines = r.lines; set = r.set; at = r.at; tight = r.tight; long = 0 }

abbrev pub plain_state : State → State
plain_state r = record { lines = r.lines; records = r.records; at = r.at; tight = r.tight; long = 0 }

-- one step, and a list of steps, of a pass of a lossless line
unfoldable pub step_way : Stage → List ℕ → Step → Reading → Way Reading
step_way t s x r =
    way_of (option_map (bad_at t.line t.pass x r) (step_reason t.bits 0 t.w s x r)) (option_map plain (read_step t.bits 0 t.w s x r))

unfoldable pub steps_way : Stage → List ℕ → List Step → Reading → Way Reading
steps_way t s l r = way_of (bad_in_steps t.line t.pass t.bits 0 t.w s l r) (option_map plain (reads t.bits 0 t.w s l r))

-- the first i passes of line n; all six, with the test at the line's end; and the first n lines
unfoldable pub passes_way : Form → List ℕ → ℕ → ℕ → State → Way State
passes_way F s n i r = way_of (first_found (pass_at F 0 s) (bad_in_pass F 0 s n) i r) (option_map plain_state (runs (pass_at F 0 s) i r))

unfoldable pub line_way : Form → List ℕ → ℕ → State → Way State
line_way F s n r = way_of (first_found (pass_at F 0 s) (bad_in_pass F 0 s n) 6 r) (option_map plain_state (and_then (runs (pass_at F 0 s) 6 r) (end_line s)))

unfoldable pub block_way : Form → List ℕ → ℕ → Way State
block_way F s n = way_of (first_bad F [] s n) (option_map plain_state (read_lines F [] s n))
