-- `saved_state::load::set_near_guards` meets its contract, one line after the other. Assumes nothing.
use mathlib.Core.List.{List}
use mathlib.Core.Path.{◌≡◌}
use Prim.Native.Nat.{ℕ}
use Rattle.colour_lines.specs.ColourLines.{guarded}
use Rattle.saved_state.specs.Checkpoints.{with_guards}
use Rattle.saved_state.proofs.load.set_near_guards.Goals as goal

all_three : (W : ℕ) (l₀ l₁ l₂ l₃ : List ℕ) → l₁ ≡ guarded W 4 l₀ → l₂ ≡ guarded W 12 l₁ → l₃ ≡ guarded W 17 l₂ → l₃ ≡ with_guards W l₀
unfolding with_guards
all_three W l₀ l₁ l₂ l₃ e₁ e₂ e₃ = rw (e₃, e₂, e₁)

pub returns : goal.returns
returns c =
    all_three _ _ _ _ _ c.set_guards.ensures c.set_guards-2.ensures c.set_guards-3.ensures
