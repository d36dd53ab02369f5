-- Inside. What only our own functions say.
use Rattle.std.specs.Prelude.{cond, List, ◌≡◌, ℕ, ◌≤◌, ltb, length, get_or}
use Rattle.short_codes.specs.Sheets.{count_of, entry_at}

-- what that gives for our own functions
pub record Bounded (depth k n : ℕ) : Type 0 where
  pub depth_low : 12 ≤ depth
  pub depth_high : depth ≤ 16
  pub k_high : k ≤ 15
  pub n_high : n ≤ 16

-- the sheet stands at the start of a list, and the rest is as it was
pub record Filled (depth k n : ℕ) (list list' : List ℕ) : Type 0 where
  pub as_long : length list' ≡ length list
  pub entries : (i : ℕ) → get_or list' i 0 ≡ cond (ltb i (count_of depth k n)) (entry_at depth k i) (get_or list i 0)
