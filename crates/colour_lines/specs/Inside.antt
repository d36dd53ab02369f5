-- Inside. What only our own functions say.
use Rattle.std.specs.Prelude.{Bool, cond, List, ℕ, ◌-◌}
use Rattle.colour_lines.specs.ColourLines.{guarded, moved}

-- before a new line l comes, the two before it go one further up
unfoldable pub shifted : ℕ → ℕ → List ℕ → List ℕ
shifted W l lines = moved W l (l - 1) (moved W (l - 1) (l - 2) lines)

unfoldable pub roomed : Bool → ℕ → ℕ → List ℕ → List ℕ
roomed windowed W l lines = cond windowed (shifted W l lines) lines

-- before a pass over two lines there is room for them in their windows, and their guards are set
unfoldable pub entered : Bool → ℕ → ℕ → ℕ → List ℕ → List ℕ
entered windowed W first second lines =
    guarded W second (guarded W first (roomed windowed W second (roomed windowed W first lines)))
