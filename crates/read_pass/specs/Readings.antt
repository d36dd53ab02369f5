-- Rules. Reading: what a step makes of the colour lines, the records of its set, the bit position, the verdict and the count of long codes. Assumes
-- nothing.
use Rattle.std.specs.Prelude.{Bool, cond, ◌&&◌, List, [], ◌∷◌, ℕ, ◌+◌, get_or, set, None, Some, Option}
use Rattle.numbers.specs.Numbers.{flag}
use Rattle.bits.specs.declared.BitPosition.{BitPosition}
use Rattle.statistics.specs.Statistics.{k_of, updated}
use Rattle.statistics.specs.declared.Record.{Record}
use Rattle.quantiser.specs.Quantisers.{largest}
use Rattle.prediction.specs.declared.Context.{Context}
use Rattle.code.specs.Codes.{code_at}
use Rattle.code.specs.Samples.{residual_of, sample_of}
use Rattle.code.specs.Tight.{is_tight}
use Rattle.code.specs.declared.Code.{Code}
use Rattle.pass_schedule.specs.Steps.{Step, pass_steps, step_place}
use Rattle.pass_steps.specs.Contexts.{used_quantiser, no_record, step_context, step_look, step_slot}
use Rattle.pass_steps.specs.declared.Look.{Look}
use Rattle.pass_schedule.specs.declared.Plan.{Plan}

-- what a pass reads and changes: the colour lines, the records of its set, the bit position, whether all codes so far were tight, and how many
-- of them were long
pub record Reading : Type 0 where
  pub lines : List ℕ
  pub set : List Record
  pub at : BitPosition
  pub tight : Bool
  pub long : ℕ

-- an interpolated sample is its prediction
abbrev pub interpolate : ℕ → Context → Reading → Reading
interpolate i x r = record { lines = set r.lines (i + 1) x.prediction; set = r.set; at = r.at; tight = r.tight; long = r.long }

-- a sample with a code c, of which h says how it is coded
abbrev pub take_code : ℕ → ℕ → ℕ → ℕ → Context → Look → Code → Reading → Reading
take_code bits q i slot x h c r =
    record {
      lines = set r.lines (i + 1) (sample_of (largest bits) h.base (used_quantiser bits q h.choice).total h.negative x.prediction c.value);
      set = set r.set slot (updated (get_or r.set slot no_record) (residual_of c.value).size);
      at = c.after;
      tight = r.tight && is_tight (largest bits) c;
      long = r.long + flag c.long;
    }

abbrev pub taken : ℕ → ℕ → ℕ → ℕ → Context → Look → Reading → Option Code → Option Reading
taken bits q i slot x h r (Some c) = Some (take_code bits q i slot x h c r)
taken bits q i slot x h r None = None

-- the code of a sample, read from the bytes s
abbrev pub code_of : ℕ → ℕ → List ℕ → ℕ → Look → Reading → Option Code
code_of bits q s slot h r =
    let Q = used_quantiser bits q h.choice in
    code_at s r.at.0 (k_of (get_or r.set slot no_record)) Q.limit Q.raw

-- the code of a step
abbrev pub step_code : ℕ → ℕ → ℕ → List ℕ → Step → Reading → Option Code
step_code bits q W s x r = code_of bits q s (step_slot q W x r.lines) (step_look q W x r.lines) r

-- one step; none where the line is cut off
unfoldable pub read_step : ℕ → ℕ → ℕ → List ℕ → Step → Reading → Option Reading
read_step bits q W s x r =
    let i = step_place W x in
    let c = step_context W x r.lines in
    let h = step_look q W x r.lines in
    cond x.coded (taken bits q i (step_slot q W x r.lines) c h r (step_code bits q W s x r)) (Some (interpolate i c r))

unfoldable pub and_then : {A B : Type 0} → Option A → (A → Option B) → Option B
and_then None f = None
and_then (Some a) f = f a

-- the steps of a list, one after the other
unfoldable pub reads : ℕ → ℕ → ℕ → List ℕ → List Step → Reading → Option Reading
reads bits q W s [] r = Some r
reads bits q W s (x ∷ l) r = and_then (read_step bits q W s x r) (λ z. reads bits q W s l z)

-- a pass
unfoldable pub read_pass : ℕ → ℕ → ℕ → List ℕ → Plan → Reading → Option Reading
read_pass bits q W s P r = reads bits q W s (pass_steps W P) r
