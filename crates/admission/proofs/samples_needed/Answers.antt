-- `admission::samples_needed` meets its contract. Assumes nothing.
use borrow.Author.Rules.{rules}
use mathlib.Core.Path.{ap}
use Prim.Native.Nat.{ℕ, ◌+◌, ◌*◌, ◌≤◌}
use native.Mathlib.Omega.{arith}
use Rattle.admission.proofs.BeginningLaws.{narrow}
use Rattle.admission.proofs.samples_needed.Goals as goal
use Rattle.admission.proofs.samples_needed.Goals.{After-width}

small : (c : After-width) → c.width.result ≤ 512
small c = narrow c.args.xtrans _ c.width.ensures

pub overflow_add-result : goal.overflow_add-result
overflow_add-result c = search (rules, small c)

pub overflow_mul-result : goal.overflow_mul-result
overflow_mul-result c = search (rules, small c)

pub returns : goal.returns
returns c = (ap (λ (w : ℕ). 18 * (w + 2)) c.width.ensures, omega (arith, small c))
