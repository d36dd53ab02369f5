-- `write_pass::write_pass` meets its contract: after each turn the steps of the turns so far have put their bits. Assumes nothing.
use mathlib.Core.Bool.{Bool}
use mathlib.Core.List.{List}
use mathlib.Core.Path.{◌≡◌}
use Prim.Native.Nat.{ℕ, ◌+◌, ◌-◌, ◌/◌, ◌%◌, ◌≤◌}
use lib.ListN.{length}
use Rattle.bits.specs.declared.BitPosition.{BitPosition}
use Rattle.pass_schedule.specs.Steps.{turn_steps, upto}
use Rattle.pass_steps.specs.Values.{zip_records, SetInRange, AreKs}
use Rattle.pass_schedule.specs.declared.Plan.{Plan}
use Rattle.write_pass.specs.Puts.{LineNumbers, StepsPut}
use Rattle.write_pass.proofs.write_pass.Given as goal
use Rattle.std.specs.Prelude.{Ok}

-- what is known before each turn: the turns before position p have put their bits
pub record Turns (bits q W : ℕ) (strict : Bool) (totals raws limits t : List ℕ) (n : ℕ) (P : Plan) (store : Bool) (from : BitPosition)
    (lines₀ sums₀ ns₀ out₀ lines sums ns ks out : List ℕ) (at : BitPosition) (p : ℕ) : Type 0 where
  pub numbers : LineNumbers bits q totals raws limits
  pub even : p % 2 ≡ 0
  pub last : p ≤ W + 8
  pub same_lines : length lines ≡ length lines₀
  pub same-output : length out ≡ length out₀
  pub records : SetInRange (zip_records sums ns)
  pub ks_kept : AreKs (zip_records sums ns) ks
  pub put : StepsPut bits q W strict t n (upto (turn_steps W P) (p / 2)) store from.0 lines₀ sums₀ ns₀ out₀ lines sums ns out (Ok at)

abbrev pub invariant-loop-p : goal.invariant-loop-p
invariant-loop-p l =
    Turns l.bits l.base l.w l.strict l.totals l.raws l.limits l.samples l.n l.plan l.store l.initial.at l.initial.lines l.initial.sums l.initial.ns l.initial.out l.lines l.sums l.ns l.ks l.out l.at l.p

abbrev pub decreases-loop-p : goal.decreases-loop-p
decreases-loop-p l = l.w + 8 - l.p
