-- Inside. Windows: of each colour only the last three lines are kept, red in lines 0 to 2, green in 3 to 5, blue in 6 to 8. The last of the three is the one
-- that a pass reads. Assumes nothing.
use Rattle.std.specs.Prelude.{Bool, cond, ℕ, ltb}
use Rattle.pass_schedule.specs.declared.Plan.{Plan}

-- where a colour line, among the 18, is read
unfoldable pub window_line : ℕ → ℕ
window_line l = cond (ltb l 5) 2 (cond (ltb l 13) 5 8)

-- the same pass over other lines
abbrev pub placed : Plan → ℕ → ℕ → Plan
placed P a c = record { first = a; second = c; set = P.set; first_rule = P.first_rule; second_rule = P.second_rule }

unfoldable pub window_plan : Bool → Plan → Plan
window_plan windowed P = cond windowed (placed P (window_line P.first) (window_line P.second)) P
