-- `write_pass::looking::look_pass` meets its contract: before each turn the steps of the turns so far were right. Assumes nothing.
use mathlib.Core.List.{List}
use mathlib.Core.Path.{◌≡◌}
use Prim.Native.Nat.{ℕ, ◌+◌, ◌-◌, ◌/◌, ◌%◌, ◌≤◌}
use lib.ListN.{length}
use Rattle.pass_schedule.specs.Steps.{turn_steps, upto}
use Rattle.pass_schedule.specs.declared.Plan.{Plan}
use Rattle.write_pass.specs.Looks.{Right}
use Rattle.write_pass.proofs.looking.look_pass.Given as goal

-- what is known before each turn
pub record Turns (bits W : ℕ) (t : List ℕ) (n : ℕ) (P : Plan) (lines₀ lines : List ℕ) (p : ℕ) : Type 0 where
  pub even : p % 2 ≡ 0
  pub last : p ≤ W + 8
  pub same : length lines ≡ length lines₀
  pub looked : Right bits W t n (upto (turn_steps W P) (p / 2)) lines₀ lines

abbrev pub invariant-loop-p : goal.invariant-loop-p
invariant-loop-p l = Turns l.bits l.w l.samples l.n l.plan l.initial.lines l.lines l.p

abbrev pub decreases-loop-p : goal.decreases-loop-p
decreases-loop-p l = l.w + 8 - l.p
