-- `saved_state::store::kept_line` meets its contract, line by line. Assumes nothing.
use borrow.Author.Rules.{rules}
use mathlib.Core.Path.{◌≡◌, refl}
use Prim.Native.Nat.{ℕ, zero, suc, ◌≤◌}
use native.Mathlib.Omega.{arith}
use Rattle.saved_state.specs.Checkpoints.{kept_line}
use Rattle.saved_state.proofs.store.kept_line.Goals as goal

last : (m : ℕ) → 5 ≤ m → 17 ≡ kept_line m
unfolding kept_line
last zero h = absurd (omega arith)
last (suc zero) h = absurd (omega arith)
last (suc (suc zero)) h = absurd (omega arith)
last (suc (suc (suc zero))) h = absurd (omega arith)
last (suc (suc (suc (suc zero)))) h = absurd (omega arith)
last (suc (suc (suc (suc (suc m))))) h = refl

pub returns-in-0 : goal.returns-in-0
unfolding kept_line
returns-in-0 c = search rules

pub returns-in-1 : goal.returns-in-1
unfolding kept_line
returns-in-1 c = search rules

pub returns-in-2 : goal.returns-in-2
unfolding kept_line
returns-in-2 c = search rules

pub returns-in-3 : goal.returns-in-3
unfolding kept_line
returns-in-3 c = search rules

pub returns-in-4 : goal.returns-in-4
unfolding kept_line
returns-in-4 c = search rules

pub returns-in_default : goal.returns-in_default
returns-in_default c = (last _ (omega arith), search rules)
