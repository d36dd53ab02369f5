-- Inside. What the functions of the second walk ask for, and what they hand back.
use Rattle.std.specs.Prelude.{true, List, ◌≡◌, ℕ, ◌+◌, ◌*◌, ◌%◌, ◌^◌, ◌≤◌, ◌<◌, length, Err, Ok, Result}
use Rattle.bits.specs.declared.BitPosition.{BitPosition}
use Rattle.quantiser.specs.Quantisers.{main_of}
use Rattle.quantiser.specs.declared.Quantiser.{Quantiser}
use Rattle.image_map.specs.Places.{width_of}
use Rattle.pass_schedule.specs.Inside.{PlanInRange}
use Rattle.pass_steps.specs.Values.{zip_records, SetInRange}
use Rattle.pass_steps.specs.Contexts.{Depth}
use Rattle.pass_schedule.specs.declared.Plan.{Plan}
use Rattle.read_pass.specs.Readings.{Reading}
use Rattle.read_block.specs.Blocks.{State}
use Rattle.read_block.specs.Walks.{AllInRange}
use Rattle.read_block.specs.BadCodes.{BadCode}
use Rattle.read_block.specs.declared.Form.{Form}
use Rattle.tight_diagnosis.specs.Ways.{Way, found, cut_off, on}
use Rattle.tight_diagnosis.specs.Faults.{spot_of}
use Rattle.tight_diagnosis.specs.declared.trace.Sample.{Sample}
use Rattle.tight_diagnosis.specs.declared.trace.Stage.{Stage}
use Rattle.tight_diagnosis.specs.declared.trace.Stop.{Stop}

-- ---- the answer

-- an answer says the way, and where the reading goes on, it is this one
abbrev pub Said : {A : Type 0} → (BitPosition → A) → Way A → Result BitPosition Stop → Type 0
Said here o (Ok at) = o ≡ on (here at)
Said here o (Err (Stop.Bad x)) = (b : BadCode) × (o ≡ found b) × (x ≡ spot_of b)
Said here o (Err Stop.CutOff) = o ≡ cut_off

pub record Says {A : Type 0} (here : BitPosition → A) (o : Way A) (r : Result BitPosition Stop) : Type 0 where
  pub is : Said here o r

-- ---- steps

-- the reading that the program holds: colour lines, a set as two lists, a bit position, and tight codes alone so far; it counts no long ones
abbrev pub clean : (lines sums ns : List ℕ) → BitPosition → Reading
clean lines sums ns at = record { lines = lines; set = zip_records sums ns; at = at; tight = true; long = 0 }

pub record StageAsks (t : Stage) (s lines sums ns : List ℕ) : Type 0 where
  pub bytes : length s < 2 ^ 32
  pub pass : t.pass ≤ 5
  pub width : t.w ≤ 512
  pub room : 18 * (t.w + 2) ≤ length lines
  pub depth : Depth t.bits
  pub quantiser : t.q ≡ main_of t.bits 0
  pub for_sums : length sums ≡ 112
  pub for_ns : length ns ≡ 112
  pub records : SetInRange (zip_records sums ns)

-- a sample that lies in its line
pub record Inside (t : Stage) (x : Sample) : Type 0 where
  pub low : 2 ≤ x.line
  pub high : x.line ≤ 17
  pub position : x.position < t.w

-- the steps of a pass
pub record PassAsks (t : Stage) (P : Plan) (s lines sums ns : List ℕ) : Type 0 where
  pub stage : StageAsks t s lines sums ns
  pub even : t.w % 2 ≡ 0
  pub plan : PlanInRange P

pub record Gives (o : Way Reading) (lines sums ns : List ℕ) (r : Result BitPosition Stop) : Type 0 where
  pub says : Says (clean lines sums ns) o r
  pub records : SetInRange (zip_records sums ns)

-- ---- lines

abbrev pub clean_state : (lines sums ns : List ℕ) → BitPosition → State
clean_state lines sums ns at = record { lines = lines; records = zip_records sums ns; at = at; tight = true; long = 0 }

pub record LineAsks (F : Form) (Q : Quantiser) (s lines sums ns : List ℕ) : Type 0 where
  pub bytes : length s < 2 ^ 32
  pub room : length lines ≡ 18 * (width_of F.xtrans + 2)
  pub depth : Depth F.bits
  pub quantiser : Q ≡ main_of F.bits 0
  pub for_sums : length sums ≡ 336
  pub for_ns : length ns ≡ 336
  pub records : AllInRange (zip_records sums ns)

pub record LineGives (o : Way State) (lines sums ns : List ℕ) (r : Result BitPosition Stop) : Type 0 where
  pub says : Says (clean_state lines sums ns) o r
  pub records : AllInRange (zip_records sums ns)

-- ---- a block, whose colour lines and records are the walk's own

abbrev pub Ends : Way State → Result BitPosition Stop → Type 0
Ends o (Ok at) = (z : State) × (o ≡ on z) × (z.at ≡ at)
Ends o (Err (Stop.Bad x)) = (b : BadCode) × (o ≡ found b) × (x ≡ spot_of b)
Ends o (Err Stop.CutOff) = o ≡ cut_off
