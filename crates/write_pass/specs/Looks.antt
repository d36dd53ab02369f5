-- Inside. What looking at a lossless set finds: that writing meets no wrong sample, and the colour lines that it leaves.
use Rattle.std.specs.Prelude.{Bool, true, false, List, ◌≡◌, ℕ, ◌+◌, ◌*◌, ◌%◌, ◌^◌, ◌≤◌, ◌<◌, length, get_or, set, None}
use Rattle.statistics.specs.declared.Record.{Record}
use Rattle.quantiser.specs.Quantisers.{largest}
use Rattle.pass_schedule.specs.Steps.{Step, pass_steps, step_place}
use Rattle.pass_steps.specs.Contexts.{step_context, Depth}
use Rattle.pass_schedule.specs.Inside.{PlanInRange}
use Rattle.pass_schedule.specs.declared.Plan.{Plan}
use Rattle.pass_steps.specs.declared.Spot.{Spot}
use Rattle.write_pass.specs.Puts.{Within, Wanted}
use Rattle.colour_lines.specs.Sets.{line_size, index_in}
use Rattle.write_pass.specs.Writings.{writes}

-- one sample that is right: it stands in the lines afterwards, and is its prediction where it is interpolated
pub record SampleLooked (W : ℕ) (t : List ℕ) (n : ℕ) (x : Step) (lines lines' : List ℕ) : Type 0 where
  pub placed : lines' ≡ set lines (step_place W x + 1) (get_or t (index_in W n x.line x.position) 0)
  pub predicted : x.coded ≡ false → get_or t (index_in W n x.line x.position) 0 ≡ (step_context W x lines).prediction

-- writing these steps of a lossless line, from these lines on and whatever the records are, meets no wrong sample, and leaves those lines
abbrev pub Right : (bits W : ℕ) (t : List ℕ) (n : ℕ) (l : List Step) (lines lines' : List ℕ) → Type 0
Right bits W t n l lines lines' =
    (s : List Record) (b : List Bool)
    → let z = writes bits 0 W true t n l (record { lines = lines; set = s; bits = b; wrong = None }) in
    (z.lines ≡ lines') × (z.wrong ≡ None)

-- what some steps at a position ask for
pub record LookAsks (spot : Spot) (t : List ℕ) (n : ℕ) (l : List Step) (lines : List ℕ) : Type 0 where
  pub width : spot.w ≤ 512
  pub plan : PlanInRange spot.plan
  pub depth : Depth spot.bits
  pub line : n < 2 ^ 16
  pub samples : (n + 1) * line_size spot.w ≤ length t
  pub wanted : Wanted (largest spot.bits) spot.w t n l
  pub long : 18 * (spot.w + 2) ≤ length lines
  pub held : Within (largest spot.bits) lines

-- and a pass
pub record PassLookAsks (bits W : ℕ) (P : Plan) (t : List ℕ) (n : ℕ) (lines : List ℕ) : Type 0 where
  pub high : W ≤ 512
  pub even : W % 2 ≡ 0
  pub plan : PlanInRange P
  pub depth : Depth bits
  pub line : n < 2 ^ 16
  pub samples : (n + 1) * line_size W ≤ length t
  pub wanted : Wanted (largest bits) W t n (pass_steps W P)
  pub long : 18 * (W + 2) ≤ length lines
  pub held : Within (largest bits) lines
