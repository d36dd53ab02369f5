-- `read_pass::window_plan` meets its contract. Assumes nothing.
use mathlib.Core.Bool.{Bool, true, false}
use mathlib.Core.Path.{◌≡◌}
use Prim.Native.Nat.{ℕ}
use Rattle.pass_schedule.specs.declared.Plan.{Plan}
use Rattle.read_pass.specs.Windows.{window_line, placed, window_plan}
use Rattle.read_pass.proofs.window_plan.Goals as goal

moved : (t : Bool) (P : Plan) (a c : ℕ) → t ≡ true → a ≡ window_line P.first → c ≡ window_line P.second → placed P a c ≡ window_plan t P
unfolding window_plan
moved t P a c e ea ec = rw (e, ea, ec)

stays : (t : Bool) (P : Plan) → t ≡ false → P ≡ window_plan t P
unfolding window_plan
stays t P e = rw e

pub returns-then-windowed : goal.returns-then-windowed
returns-then-windowed c = moved c.args.windowed c.args.p _ _ c.if-windowed.true c.window_line.ensures
    c.window_line-then-windowed.ensures

pub returns : goal.returns
returns c = stays _ _ c.if-windowed.false
