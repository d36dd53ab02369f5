-- `saved_state::load::load_six` meets its contract: the lines before m are loaded. Assumes nothing.
use mathlib.Core.List.{List}
use mathlib.Core.Path.{◌≡◌}
use Prim.Native.Nat.{ℕ, zero, suc}
use lib.ListN.{length}
use Rattle.saved_state.specs.Checkpoints.{with_kept}
use Rattle.saved_state.proofs.load.load_six.Given as goal

unfoldable pub with_lines : ℕ → List ℕ → ℕ → List ℕ → List ℕ
with_lines W s zero lines = lines
with_lines W s (suc m) lines = with_kept W s m (with_lines W s m lines)

abbrev pub invariant-loop-m : goal.invariant-loop-m
invariant-loop-m l = (length l.lines ≡ length l.initial.lines) × (l.lines ≡ with_lines l.w l.s l.m l.initial.lines)
