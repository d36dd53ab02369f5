-- `limits::lines_taking` meets its contract, by whether a line was truncated. Assumes nothing.
use borrow.Author.Tests.{lt-ltb, le-ltb}
use mathlib.Core.Bool.{cond}
use mathlib.Core.Path.{◌≡◌}
use Prim.Native.Nat.{ℕ, suc, ◌+◌, ◌≤◌, ◌<◌}
use native.Mathlib.Numerals.{add-one}
use native.Mathlib.Omega.{arith}
use lib.Dec.{ltb}
use Rattle.limits.proofs.lines_taking.Goals as goal

cut : (m e : ℕ) → m < e → (m + 1 ≡ cond (ltb m e) (suc m) e) × (m + 1 ≤ e)
cut m e h = (rw (lt-ltb m e h, add-one), omega arith)

all : (m e : ℕ) → e ≤ m → (e ≡ cond (ltb m e) (suc m) e) × (e ≤ e)
all m e h = (rw (le-ltb m e h), omega arith)

pub returns-then-read-found : goal.returns-then-read-found
returns-then-read-found c = cut _ _ c.if-read-found.true

pub returns : goal.returns
returns c = all _ _ c.if-read-found.false
