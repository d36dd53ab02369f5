-- `saved_state::load::load_lines` meets its contract. Assumes nothing.
use mathlib.Core.List.{List}
use mathlib.Core.Path.{◌≡◌}
use Prim.Native.Nat.{ℕ}
use native.Mathlib.Omega.{arith}
use Rattle.saved_state.specs.Checkpoints.{with_six, with_guards, loaded_lines}
use Rattle.saved_state.proofs.load.load_lines.Goals as goal

both : (W : ℕ) (s l₀ l₁ l₂ : List ℕ) → l₁ ≡ with_six W s l₀ → l₂ ≡ with_guards W l₁ → l₂ ≡ loaded_lines W s l₀
unfolding loaded_lines
both W s l₀ l₁ l₂ e f = rw (f, e)

pub returns : goal.returns
returns c =
    both _ _ _ _ _ c.load_six.ensures c.set_near_guards.ensures

pub load_six-requires : goal.load_six-requires
load_six-requires c = c.requires

pub set_near_guards-requires : goal.set_near_guards-requires
set_near_guards-requires c = omega
    (arith, c.requires)

pub shape_of-lines : goal.shape_of-lines
shape_of-lines c = omega
    (arith, c.requires)
