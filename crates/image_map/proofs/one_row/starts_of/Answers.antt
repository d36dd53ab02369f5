-- `image_map::one_row::starts_of` meets its contract, entry by entry. Assumes nothing.
use mathlib.Core.List.{List, [], ◌∷◌}
use mathlib.Core.Path.{◌≡◌}
use Prim.Native.Nat.{ℕ, zero, suc, ◌+◌, ◌*◌, ◌<◌}
use native.Mathlib.Nat.{add-zero}
use native.Mathlib.Omega.{arith}
use lib.ListN.{get_or}
use Rattle.image_map.specs.Places.{colour_line}
use Rattle.image_map.specs.Starts.{AreStarts}
use Rattle.image_map.proofs.one_row.starts_of.Goals as goal

-- six entries, each f of its place
six : (f : ℕ → ℕ) (x₀ x₁ x₂ x₃ x₄ x₅ : ℕ) → x₀ ≡ f 0 → x₁ ≡ f 1 → x₂ ≡ f 2 → x₃ ≡ f 3 → x₄ ≡ f 4 → x₅ ≡ f 5
    → (j : ℕ) → j < 6 → get_or (x₀ ∷ x₁ ∷ x₂ ∷ x₃ ∷ x₄ ∷ x₅ ∷ []) j 0 ≡ f j
six f x₀ x₁ x₂ x₃ x₄ x₅ e₀ e₁ e₂ e₃ e₄ e₅ zero h = e₀
six f x₀ x₁ x₂ x₃ x₄ x₅ e₀ e₁ e₂ e₃ e₄ e₅ (suc zero) h = e₁
six f x₀ x₁ x₂ x₃ x₄ x₅ e₀ e₁ e₂ e₃ e₄ e₅ (suc (suc zero)) h = e₂
six f x₀ x₁ x₂ x₃ x₄ x₅ e₀ e₁ e₂ e₃ e₄ e₅ (suc (suc (suc zero))) h = e₃
six f x₀ x₁ x₂ x₃ x₄ x₅ e₀ e₁ e₂ e₃ e₄ e₅ (suc (suc (suc (suc zero)))) h = e₄
six f x₀ x₁ x₂ x₃ x₄ x₅ e₀ e₁ e₂ e₃ e₄ e₅ (suc (suc (suc (suc (suc zero))))) h = e₅
six f x₀ x₁ x₂ x₃ x₄ x₅ e₀ e₁ e₂ e₃ e₄ e₅ (suc (suc (suc (suc (suc (suc j)))))) h = absurd (omega arith)

-- where the colour line of the tile's column j begins
abbrev start : List ℕ → ℕ → ℕ → ℕ → ℕ
start tile r s j = colour_line (get_or tile (6 * r + j) 0) r * s + 1

pub returns : goal.returns
unfolding AreStarts
returns c =
    six (start c.args.tile c.args.r c.args.s) _ _ _ _ _ _ (rw add-zero c.line_start.ensures) c.line_start-2.ensures c.line_start-3.ensures c.line_start-4.ensures c.line_start-5.ensures c.line_start-6.ensures

pub overflow_mul-k : goal.overflow_mul-k
overflow_mul-k c = omega (arith, c.requires.0)

pub bounds-tile-k : goal.bounds-tile-k
bounds-tile-k c = omega (arith, c.requires.0)

pub line_start-requires : goal.line_start-requires
line_start-requires c = c.requires

pub overflow_add-k : goal.overflow_add-k
overflow_add-k c = omega (arith, c.requires.0)

pub bounds-tile-k-2 : goal.bounds-tile-k-2
bounds-tile-k-2 c = omega (arith, c.requires.0)

pub line_start-requires-2 : goal.line_start-requires-2
line_start-requires-2 c = c.requires

pub overflow_add-k-2 : goal.overflow_add-k-2
overflow_add-k-2 c = omega (arith, c.requires.0)

pub bounds-tile-k-3 : goal.bounds-tile-k-3
bounds-tile-k-3 c = omega (arith, c.requires.0)

pub line_start-requires-3 : goal.line_start-requires-3
line_start-requires-3 c = c.requires

pub overflow_add-k-3 : goal.overflow_add-k-3
overflow_add-k-3 c = omega (arith, c.requires.0)

pub bounds-tile-k-4 : goal.bounds-tile-k-4
bounds-tile-k-4 c = omega (arith, c.requires.0)

pub line_start-requires-4 : goal.line_start-requires-4
line_start-requires-4 c = c.requires

pub overflow_add-k-4 : goal.overflow_add-k-4
overflow_add-k-4 c = omega (arith, c.requires.0)

pub bounds-tile-k-5 : goal.bounds-tile-k-5
bounds-tile-k-5 c = omega (arith, c.requires.0)

pub line_start-requires-5 : goal.line_start-requires-5
line_start-requires-5 c = c.requires

pub overflow_add-k-5 : goal.overflow_add-k-5
overflow_add-k-5 c = omega (arith, c.requires.0)

pub bounds-tile-k-6 : goal.bounds-tile-k-6
bounds-tile-k-6 c = omega (arith, c.requires.0)

pub line_start-requires-6 : goal.line_start-requires-6
line_start-requires-6 c = c.requires
