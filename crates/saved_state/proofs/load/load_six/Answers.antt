-- `saved_state::load::load_six` meets its contract: the lines before m are loaded. Assumes nothing.
use borrow.Author.Rules.{rules}
use mathlib.Core.List.{List}
use mathlib.Core.Path.{◌≡◌, refl}
use Prim.Native.Nat.{ℕ, ◌+◌}
use native.Mathlib.Numerals.{add-one}
use native.Mathlib.Omega.{arith}
use Rattle.saved_state.specs.Checkpoints.{with_kept, with_six}
use Rattle.saved_state.proofs.load.load_six.Invariants.{with_lines}
use Rattle.saved_state.proofs.load.load_six.Goals as goal

more : (W m : ℕ) (s l₀ l l' : List ℕ) → l ≡ with_lines W s m l₀ → l' ≡ with_kept W s m l → l' ≡ with_lines W s (m + 1) l₀
unfolding with_lines
more W m s l₀ l l' e f = rw (add-one m, f, e)

done : (W m : ℕ) (s l₀ l : List ℕ) → m ≡ 6 → l ≡ with_lines W s m l₀ → l ≡ with_six W s l₀
unfolding with_lines with_six
done W m s l₀ l e f = rw e at f

pub loop-m-init : goal.loop-m-init
unfolding with_lines
loop-m-init c = (refl, refl)

pub loop-m-preserved : goal.loop-m-preserved
loop-m-preserved c = (search rules, more _ c.loop-m.m _ _ _ _ c.loop-m.invariant.1 c.load_line.ensures)

pub returns : goal.returns
returns c = done _ c.loop-m.m _ _ _ (omega arith) c.loop-m.invariant.1
