-- Rules. The 18 colour lines of a block, one after the other: each has a guard, W samples and a guard. Red lines are 0 to 4, green 5 to 12, blue 13
-- to 17; the first two of each colour are the last two of the line before. Assumes nothing.
use Rattle.std.specs.Prelude.{List, ℕ, ◌+◌, ◌-◌, ◌*◌, get_or, set, drop, replicate}
use Rattle.std.proofs.Math.Seq.{paste}

-- lines begin at 0
abbrev pub zero_lines : ℕ → List ℕ
zero_lines W = replicate (18 * (W + 2)) 0

-- the left guard of line l holds the first sample of the line above, and the right guard the last
abbrev pub left_guard : ℕ → ℕ → List ℕ → List ℕ
left_guard W l lines = set lines (l * (W + 2)) (get_or lines ((l - 1) * (W + 2) + 1) 0)

abbrev pub right_guard : ℕ → ℕ → List ℕ → List ℕ
right_guard W l lines = set lines (l * (W + 2) + (W + 1)) (get_or lines ((l - 1) * (W + 2) + W) 0)

unfoldable pub guarded : ℕ → ℕ → List ℕ → List ℕ
guarded W l lines = right_guard W l (left_guard W l lines)

-- line `from`, with its guards, becomes line `to`
unfoldable pub moved : ℕ → ℕ → ℕ → List ℕ → List ℕ
moved W from to lines = paste lines (to * (W + 2)) (drop (from * (W + 2)) lines) (W + 2)

-- the last two lines of each colour become its first two
unfoldable pub turned : ℕ → List ℕ → List ℕ
turned W lines =
    moved W 17 14 (moved W 16 13 (moved W 12 6 (moved W 11 5 (moved W 4 1 (moved W 3 0 lines)))))
