-- `read_pass::pass` meets its contract: before each chunk the steps of the turns so far are read. Assumes nothing.
use mathlib.Core.List.{List}
use mathlib.Core.Path.{◌≡◌}
use Prim.Native.Nat.{ℕ, ◌+◌, ◌/◌, ◌%◌, ◌*◌, min}
use lib.ListN.{length}
use Rattle.pass_schedule.specs.Steps.{turn_steps, upto}
use Rattle.pass_schedule.specs.declared.Plan.{Plan}
use Rattle.pass_steps.specs.Values.{SetInRange, AreKs}
use Rattle.read_pass.specs.Readings.{Reading}
use Rattle.read_pass.specs.Pairs.{held}
use Rattle.read_pass.proofs.StepLaws.{StepsGive}
use Rattle.read_pass.proofs.pass.Given as goal
use Rattle.std.specs.Prelude.{Some}

-- what is known before position c: from r₀ on the turns before it have been read, up to r
pub record Turns (bits q W : ℕ) (s : List ℕ) (P : Plan) (c : ℕ) (ks first second : List ℕ) (r₀ r : Reading) : Type 0 where
  pub even : c % 2 ≡ 0
  pub same : length r.lines ≡ length r₀.lines
  pub records : SetInRange r.set
  pub ks_kept : AreKs r.set ks
  pub one : length first ≡ 432
  pub two : length second ≡ 432
  pub read : StepsGive bits q W s (upto (turn_steps W P) (c / 2)) r₀ (Some r)

abbrev pub invariant-loop-i : goal.invariant-loop-i
invariant-loop-i l =
    Turns l.bits l.base l.w l.block l.plan (min (96 * l.i) (l.w + 8)) l.ks l.first l.second (held l.initial.lines l.initial.sums l.initial.ns l.initial.place) (held l.lines l.sums l.ns l.place)
