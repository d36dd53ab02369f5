-- The turns of a pass, and how many steps they have. Assumes nothing.
use mathlib.Core.Bool.{Bool, true, false, cond}
use mathlib.Core.List.{List, [], ◌++◌}
use mathlib.Core.Path.{◌≡◌}
use Prim.Native.Nat.{ℕ, zero, suc, ◌-◌, ◌*◌, ◌/◌, ◌%◌, ◌≤◌}
use native.Mathlib.Omega.{arith}
use lib.Dec.{ltb, leb}
use lib.ListN.{length, length-append}
use Rattle.pass_schedule.specs.Steps.{Step, even_steps, odd_steps, even_part, odd_part, turn_steps, upto}
use Rattle.pass_schedule.specs.declared.Plan.{Plan}

-- the turn at the even position p
pub turn_is : (W : ℕ) (P : Plan) (p : ℕ) → p % 2 ≡ 0 → even_part W P p ++ odd_part P p ≡ turn_steps W P (p / 2)
unfolding turn_steps
turn_is W P p h = let e : 2 * (p / 2) ≡ p = omega arith in rw e

-- a turn has at most four steps
part_le : (b : Bool) (l : List Step) → length l ≤ 2 → length (cond b l []) ≤ 2
part_le true l h = h
part_le false l h = omega arith

pub evens_le : (W : ℕ) (P : Plan) (p : ℕ) → length (even_part W P p) ≤ 2
evens_le W P p = part_le (ltb p W) (even_steps P p) (omega arith)

turn_le : (W : ℕ) (P : Plan) (t : ℕ) → length (turn_steps W P t) ≤ 4
unfolding turn_steps
turn_le W P t = rw length-append (omega (arith, evens_le W P (2 * t), part_le (leb 8 (2 * t)) (odd_steps P (2 * t - 7)) (omega arith)))

pub turns_le : (W : ℕ) (P : Plan) (t : ℕ) → length (upto (turn_steps W P) t) ≤ 4 * t
unfolding upto
turns_le W P zero = omega arith
turns_le W P (suc t) = rw length-append (omega (arith, turns_le W P t, turn_le W P t))
