-- Promises. The totals of a block, its bits and its long codes: as a call answers them, and counted from its codes.
use Rattle.std.specs.Prelude.{cond, List, [], ◌∷◌, ◌++◌, ◌≡◌, ℕ, zero, suc, ◌+◌, leb, Err, None, Ok, Result, Some, Option}
use Rattle.numbers.specs.Numbers.{flag}
use Rattle.code.specs.declared.Code.{Code}
use Rattle.pass_schedule.specs.Steps.{Step, plan_of, pass_steps}
use Rattle.pass_steps.specs.Contexts.{used_quantiser, step_look}
use Rattle.read_pass.specs.Readings.{Reading, read_step, step_code}
use Rattle.line_totals.specs.Totals.{no_totals}
use Rattle.line_totals.specs.declared.Totals.{Totals}
use Rattle.image_map.specs.Places.{width_of}
use Rattle.stream.specs.Refusals.{meaning_of, or_zero}
use Rattle.stream.specs.declared.header.Refusal.{Refusal}
use Rattle.read_block.specs.Records.{base_of}
use Rattle.read_block.specs.Blocks.{State, runs, enter, pass_at, before_line, read_line_at, start_state, read_lines, totals_after}
use Rattle.read_block.specs.declared.Counted.{Counted}
use Rattle.read_block.specs.declared.Form.{Form}

-- ---- the answer for one block

-- the lines that are counted: all of an accepted block, and those before the line that a refusal names, which are none if it names none
abbrev pub lines_counted : Result Unit Refusal → ℕ → ℕ
lines_counted (Ok tt) lines = lines
lines_counted (Err x) lines = or_zero (meaning_of x).line

-- an answer for the block of so many lines with the bytes s, and its totals
abbrev pub counted : Form → (bases s : List ℕ) → ℕ → Result Unit Refusal → Counted
counted F bases s lines answer = record { answer = answer; totals = totals_after F bases s (lines_counted answer lines) }

-- a call that is refused before it reads
abbrev pub refused_by : Refusal → Counted
refused_by x = record { answer = Err x; totals = no_totals }

-- ---- the codes of a block

-- a code, with the limit of the quantiser that it is read by
pub record LimitedCode : Type 0 where
  pub code : Code
  pub limit : ℕ

-- whether its zeros are not below the limit, as a number
abbrev pub long_codes : LimitedCode → ℕ
long_codes x = flag (leb x.limit x.code.zeros)

abbrev pub used_bits : LimitedCode → ℕ
used_bits x = x.code.used

abbrev pub codes_of : ℕ → Option Code → List LimitedCode
codes_of limit (Some c) = record { code = c; limit = limit } ∷ []
codes_of limit None = []

-- the code of a step, if it has one
abbrev pub step_codes : ℕ → ℕ → ℕ → List ℕ → Step → Reading → List LimitedCode
step_codes bits q W s x r =
    let limit = (used_quantiser bits q (step_look q W x r.lines).choice).limit in
    cond x.coded (codes_of limit (step_code bits q W s x r)) []

unfoldable pub gather_from : {A B : Type 0} → Option A → (A → List B) → List B
gather_from None f = []
gather_from (Some z) f = f z

-- the codes of a list of steps, in their order
unfoldable pub codes_in_steps : ℕ → ℕ → ℕ → List ℕ → List Step → Reading → List LimitedCode
codes_in_steps bits q W s [] r = []
codes_in_steps bits q W s (x ∷ l) r = step_codes bits q W s x r ++ gather_from (read_step bits q W s x r) (λ z. codes_in_steps bits q W s l z)

-- what is gathered where f 0, f 1, .. run one after the other, n of them, until one fails: g i gathers from the run of f i
unfoldable pub gathered : {A B : Type 0} → (ℕ → A → Option A) → (ℕ → A → List B) → ℕ → A → List B
gathered f g zero r = []
gathered f g (suc n) r = gathered f g n r ++ gather_from (runs f n r) (λ z. g n z)

-- the codes of pass i of a line with base q, of line n, and of the first n lines of the block with the bytes s
unfoldable pub codes_in_pass : Form → ℕ → List ℕ → ℕ → State → List LimitedCode
codes_in_pass F q s i r =
    let P = plan_of F.xtrans i in
    codes_in_steps F.bits q (width_of F.xtrans) s (pass_steps (width_of F.xtrans) P) (enter F P r)

unfoldable pub codes_in_line : Form → List ℕ → List ℕ → ℕ → State → List LimitedCode
codes_in_line F bases s n r = gathered (pass_at F (base_of bases n) s) (codes_in_pass F (base_of bases n) s) 6 (before_line F bases n r)

unfoldable pub block_codes : Form → List ℕ → List ℕ → ℕ → List LimitedCode
block_codes F bases s n = gathered (read_line_at F bases s) (codes_in_line F bases s) n (start_state F bases)

-- ---- totals are true

unfoldable pub sum_of : {A : Type 0} → (A → ℕ) → List A → ℕ
sum_of f [] = 0
sum_of f (x ∷ l) = f x + sum_of f l

-- these are the totals of the first n lines: the bits lead to the reader's position after them and are those of their codes, and the long codes are
-- those of their codes whose zeros are not below the limit
pub record TotalsOf (F : Form) (bases s : List ℕ) (n : ℕ) (t : Totals) : Type 0 where
  pub end : State
  pub read : read_lines F bases s n ≡ Some end
  pub position : t.bits ≡ end.at.0
  pub bits : t.bits ≡ sum_of used_bits (block_codes F bases s n)
  pub long : t.long ≡ sum_of long_codes (block_codes F bases s n)
