-- Inside. Rows that become 0.
use Rattle.std.specs.Prelude.{Bool, ◌&&◌, List, ℕ, ◌+◌, ◌*◌}
use Rattle.image_map.specs.Inside.{in_rows}
use Rattle.image_map.specs.Places.{Changed}
use Rattle.image_map.specs.declared.Part.{Part}

-- the rows of line n are 0, where that is wanted
abbrev pub LineZeroed : Bool → Part → ℕ → (before after : List ℕ) → Type 0
LineZeroed wanted a n before after = Changed (λ i. wanted && in_rows a (6 * n) (6 * n + 6) i) (λ i. 0) before after
