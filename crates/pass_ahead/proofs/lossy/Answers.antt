-- `pass_ahead::lossy` meets its contract: the entries before i are there. Assumes nothing.
use Rattle.std.proofs.Math.Nat.{min_comm}
use Rattle.numbers.proofs.FlagLaws.{flag_of}
use mathlib.Core.Path.{◌∙◌}
use native.Mathlib.Omega.{arith}
use mathlib.Core.Bool.{Bool, cond}
use mathlib.Core.Path.{ap, ◌∙◌}
use Prim.Native.Nat.{ℕ, ◌+◌, ◌<◌, min}
use lib.ListN.{get_or}
use Rattle.numbers.specs.Numbers.{minus, flag}
use Rattle.pass_ahead.specs.Arrays.{AheadRow}
use Rattle.pass_ahead.proofs.LookLaws.{look_based, nine_raised}
use Rattle.pass_ahead.proofs.ArrayLaws.{turn_begins, row_more, turn_ends}
use Rattle.pass_ahead.proofs.lossy.Goals as goal
use Rattle.pass_ahead.proofs.lossy.Goals.{After-flat_part-in-loop-i-2, Start}

-- the rows of the function's lists
abbrev row : (c : Start) → ℕ → ℕ → ℕ → Type 0
row c = AheadRow c.args.base c.args.odds.now c.args.evens.now c.args.tops.now

small : (c : After-flat_part-in-loop-i-2) → c.loop-i.i < 48
small c = omega (arith, c.loop-i-test.true, c.requires.1.0)

pub loop-i-preserved : goal.loop-i-preserved
loop-i-preserved c =
    let rf = get_or c.args.tops.now c.loop-i.i 0 in
    let rc = get_or c.args.odds.now (c.loop-i.i + 4) 0 in
    let rb = get_or c.args.evens.now (c.loop-i.i + 4) 0 in
    let rd = get_or c.args.odds.now (c.loop-i.i + 5) 0 in
    let upper = get_or c.args.odds.now (c.loop-i.i + 1) 0 in
    let small : c.loop-i.i < 48 = omega (arith, c.loop-i-test.true, c.requires.1.0) in
    turn_ends (row (goal.at.loop-i-preserved c).Start) 9
    (row_more (row (goal.at.loop-i-preserved c).Start) 9 8 c.loop-i.i _ _ _ small (omega arith) (omega arith) (c.min.ensures ∙ min_comm _ _ ∙ ap (min 8) c.abs_diff.ensures)
    (row_more (row (goal.at.loop-i-preserved c).Start) 9 7 c.loop-i.i _ _ _ small (omega arith) (omega arith) c.flat_part-in-loop-i-2.ensures.0
    (row_more (row (goal.at.loop-i-preserved c).Start) 9 6 c.loop-i.i _ _ _ small (omega arith) (omega arith) c.flat_part-in-loop-i.ensures.0
    (row_more (row (goal.at.loop-i-preserved c).Start) 9 5 c.loop-i.i _ _ _ small (omega arith) (omega arith) c.flat_part.ensures.0
    (row_more (row (goal.at.loop-i-preserved c).Start) 9 4 c.loop-i.i _ _ _ small (omega arith) (omega arith) (nine_raised c.args.base _ (minus upper (get_or c.args.evens.now c.loop-i.i 0)) c.raised16.ensures.0)
    (row_more (row (goal.at.loop-i-preserved c).Start) 9 3 c.loop-i.i _ _ _ small (omega arith) (omega arith) (ap (λ (n : ℕ). 1 + n) ((c.from.ensures ∙ flag_of _) ∙ ap flag c.is_extreme-e.ensures))
    (row_more (row (goal.at.loop-i-preserved c).Start) 9 2 c.loop-i.i _ _ _ small (omega arith) (omega arith) (c.pick.ensures ∙ ap (λ (e : Bool). cond e upper 0) c.is_extreme-e.ensures)
    (row_more (row (goal.at.loop-i-preserved c).Start) 9 1 c.loop-i.i _ _ _ small (omega arith) (omega arith) (look_based c.args.base rf rc rb rd _ _ c.marks_of-t.ensures c.lossy_packed.ensures)
    (row_more (row (goal.at.loop-i-preserved c).Start) 9 0 c.loop-i.i _ _ _ small (omega arith) (omega arith) c.even_prediction.ensures (turn_begins (row (goal.at.loop-i-preserved c).Start) 9 c.loop-i.invariant))))))))))
