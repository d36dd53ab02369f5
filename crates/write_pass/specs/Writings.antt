-- Rules. Writing: what a step makes of the colour lines and the records of its set, and the bits that it adds. The samples wanted are those of a set;
-- predictions come from the samples as they will read back, by the rules of reading. A lossless line has base 0. Assumes nothing.
use Rattle.std.specs.Prelude.{Bool, cond, not, ◌&&◌, List, [], ◌∷◌, ◌++◌, ℕ, ◌+◌, eqb, get_or, set, None, Option, Some}
use Rattle.statistics.specs.Statistics.{k_of, updated}
use Rattle.statistics.specs.declared.Record.{Record}
use Rattle.quantiser.specs.Quantisers.{largest}
use Rattle.prediction.specs.declared.Context.{Context}
use Rattle.code.specs.Samples.{residual_of, sample_of}
use Rattle.code.specs.Tight.{code_bits}
use Rattle.code.specs.Nearest.{code_near}
use Rattle.pass_schedule.specs.Steps.{Step, pass_steps, step_place}
use Rattle.pass_steps.specs.Contexts.{used_quantiser, no_record, step_context, step_look, step_slot}
use Rattle.pass_schedule.specs.declared.Plan.{Plan}
use Rattle.pass_steps.specs.declared.Look.{Look}
use Rattle.colour_lines.specs.Sets.{index_in}

-- what a pass writes and changes: the colour lines, the records of its set, the bits so far, and the index of the first interpolated sample, in
-- coding order, that is not its prediction
pub record Writing : Type 0 where
  pub lines : List ℕ
  pub set : List Record
  pub bits : List Bool
  pub wrong : Option ℕ

-- the first of two, if there is one
abbrev pub or_second : Option ℕ → Option ℕ → Option ℕ
or_second None b = b
or_second (Some a) b = Some a

-- an interpolated sample has no code, and is its prediction. Where the set is held to that, its sample v, at index j, must be the same
abbrev pub pass_over : Bool → ℕ → ℕ → ℕ → Context → Writing → Writing
pass_over strict i j v x r =
    record {
      lines = set r.lines (i + 1) x.prediction;
      set = r.set;
      bits = r.bits;
      wrong = or_second r.wrong (cond (strict && not (eqb v x.prediction)) (Some j) None);
    }

-- the code of the sample nearest to v, of which h says how it is coded in a line with base q
abbrev pub wanted_code : ℕ → ℕ → ℕ → Context → Look → ℕ
wanted_code bits q v x h = code_near h.base (used_quantiser bits q h.choice).total h.negative x.prediction v

-- the sample that a code gives when it is read
abbrev pub given_sample : ℕ → ℕ → ℕ → Context → Look → ℕ
given_sample bits q code x h = sample_of (largest bits) h.base (used_quantiser bits q h.choice).total h.negative x.prediction code

-- a sample with a code: its tight bits are added, and it stands in the lines as it will read back
abbrev pub put_code : ℕ → ℕ → ℕ → ℕ → ℕ → Context → Look → Writing → Writing
put_code bits q i slot v x h r =
    let Q = used_quantiser bits q h.choice in
    let old = get_or r.set slot no_record in
    let code = wanted_code bits q v x h in
    record {
      lines = set r.lines (i + 1) (given_sample bits q code x h);
      set = set r.set slot (updated old (residual_of code).size);
      bits = r.bits ++ code_bits (k_of old) Q.limit Q.raw code;
      wrong = r.wrong;
    }

-- one step of line n, whose base is q, with the samples of the set t
unfoldable pub write_step : ℕ → ℕ → ℕ → Bool → List ℕ → ℕ → Step → Writing → Writing
write_step bits q W strict t n x r =
    let i = step_place W x in
    let c = step_context W x r.lines in
    let h = step_look q W x r.lines in
    let j = index_in W n x.line x.position in
    let v = get_or t j 0 in
    cond x.coded (put_code bits q i (step_slot q W x r.lines) v c h r) (pass_over strict i j v c r)

-- the steps of a list, one after the other
unfoldable pub writes : ℕ → ℕ → ℕ → Bool → List ℕ → ℕ → List Step → Writing → Writing
writes bits q W strict t n [] r = r
writes bits q W strict t n (x ∷ l) r = writes bits q W strict t n l (write_step bits q W strict t n x r)

-- a pass of line n
unfoldable pub write_pass : ℕ → ℕ → ℕ → Bool → List ℕ → ℕ → Plan → Writing → Writing
write_pass bits q W strict t n P r = writes bits q W strict t n (pass_steps W P) r
