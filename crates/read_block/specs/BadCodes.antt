-- Rules. Bad codes: the first code of a block that is not tight, in coding order. Why it is not is in Reasons of `bad_code`.
use Rattle.std.specs.Prelude.{cond, List, [], ◌∷◌, ℕ, zero, suc, get_or, None, Option, option_map}
use Rattle.bits.specs.declared.BitPosition.{BitPosition}
use Rattle.statistics.specs.Statistics.{k_of}
use Rattle.quantiser.specs.Quantisers.{largest}
use Rattle.code.specs.declared.reasons.Reason.{Reason}
use Rattle.code.specs.Reasons.{coded_reason}
use Rattle.pass_schedule.specs.Steps.{Step, plan_of, pass_steps}
use Rattle.pass_steps.specs.Contexts.{used_quantiser, no_record, step_look, step_slot}
use Rattle.read_pass.specs.Readings.{Reading, read_step, and_then, step_code}
use Rattle.image_map.specs.Places.{width_of}
use Rattle.read_block.specs.Records.{base_of}
use Rattle.read_block.specs.Blocks.{State, runs, enter, pass_at, before_line, read_line_at, start_state}
use Rattle.read_block.specs.declared.Form.{Form}
use Rattle.std.specs.Option.{option_or}

-- ---- the steps of a pass

-- the reason of a step's code, which is the one that `read_step` takes; none if the step has no code
unfoldable pub step_reason : ℕ → ℕ → ℕ → List ℕ → Step → Reading → Option Reason
step_reason bits q W s x r =
    let k = k_of (get_or r.set (step_slot q W x r.lines) no_record) in
    let limit = (used_quantiser bits q (step_look q W x r.lines).choice).limit in
    cond x.coded (coded_reason (largest bits) k limit (step_code bits q W s x r)) None

-- a bad code: its line of six rows, its pass, 0 to 5, its step, which has the colour line and the position, its first bit, and the reason
pub record BadCode : Type 0 where
  pub line : ℕ
  pub pass : ℕ
  pub step : Step
  pub at : BitPosition
  pub reason : Reason

abbrev pub bad_at : ℕ → ℕ → Step → Reading → Reason → BadCode
bad_at n i x r reason = record { line = n; pass = i; step = x; at = r.at; reason = reason }

-- the first bad code of a list of steps, in pass i of line n; none if they end, or one is cut off, before there is one
unfoldable pub bad_in_steps : ℕ → ℕ → ℕ → ℕ → ℕ → List ℕ → List Step → Reading → Option BadCode
bad_in_steps n i bits q W s [] r = None
bad_in_steps n i bits q W s (x ∷ l) r =
    option_or (option_map (bad_at n i x r) (step_reason bits q W s x r)) (and_then (read_step bits q W s x r) (λ z. bad_in_steps n i bits q W s l z))

-- ---- passes and lines

-- what is found first where f 0, f 1, .. run one after the other, n of them, until one fails: g i looks through the run of f i
unfoldable pub first_found : {A B : Type 0} → (ℕ → A → Option A) → (ℕ → A → Option B) → ℕ → A → Option B
first_found f g zero r = None
first_found f g (suc n) r = option_or (first_found f g n r) (and_then (runs f n r) (λ z. g n z))

-- in pass i of line n, whose base is q
unfoldable pub bad_in_pass : Form → ℕ → List ℕ → ℕ → ℕ → State → Option BadCode
bad_in_pass F q s n i r =
    let P = plan_of F.xtrans i in
    bad_in_steps n i F.bits q (width_of F.xtrans) s (pass_steps (width_of F.xtrans) P) (enter F P r)

-- in line n
unfoldable pub bad_in_line : Form → List ℕ → List ℕ → ℕ → State → Option BadCode
bad_in_line F bases s n r = first_found (pass_at F (base_of bases n) s) (bad_in_pass F (base_of bases n) s n) 6 (before_line F bases n r)

-- the first bad code of the first n lines of the block with the bytes s
unfoldable pub first_bad : Form → List ℕ → List ℕ → ℕ → Option BadCode
first_bad F bases s n = first_found (read_line_at F bases s) (bad_in_line F bases s) n (start_state F bases)
