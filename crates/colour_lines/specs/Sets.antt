-- Rules. Sets of colour lines: for each line of six rows the samples of red 2 to 4, green 7 to 12 and blue 15 to 17, W each, without guards.
use Rattle.std.specs.Prelude.{cond, ℕ, ◌+◌, ◌-◌, ◌*◌, ◌/◌, ◌%◌, ltb}

-- how many samples a set has for one line of six rows, and for all of them
abbrev pub line_size : ℕ → ℕ
line_size W = 12 * W

abbrev pub set_size : ℕ → ℕ → ℕ
set_size W lines = lines * line_size W

-- the number of colour line l among the twelve
unfoldable pub rank_of : ℕ → ℕ
rank_of l = cond (ltb l 5) (l - 2) (cond (ltb l 13) (l - 4) (l - 6))

-- and the colour line with that number
unfoldable pub line_of_rank : ℕ → ℕ
line_of_rank c = cond (ltb c 3) (c + 2) (cond (ltb c 9) (c + 4) (c + 6))

-- the index in a set of position p of colour line l, in line n
unfoldable pub index_in : ℕ → ℕ → ℕ → ℕ → ℕ
index_in W n l p = n * line_size W + (rank_of l * W + p)

-- what stands at index j of a set: the line, the colour line and the position
abbrev pub line_at : ℕ → ℕ → ℕ
line_at W j = j / line_size W

abbrev pub colour_line_at : ℕ → ℕ → ℕ
colour_line_at W j = line_of_rank (j % line_size W / W)

abbrev pub position_at : ℕ → ℕ → ℕ
position_at W j = j % line_size W % W
