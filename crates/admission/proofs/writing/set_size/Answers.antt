-- `admission::writing::set_size` meets its contract. Assumes nothing.
use borrow.Author.Rules.{rules}
use mathlib.Core.Path.{ap}
use Prim.Native.Nat.{ℕ, ◌*◌, ◌^◌, ◌≤◌, ◌<◌}
use native.Mathlib.Nat.{mul-le-mul}
use native.Mathlib.Omega.{arith}
use Rattle.admission.proofs.BeginningLaws.{narrow}
use Rattle.admission.proofs.writing.set_size.Goals as goal
use Rattle.admission.proofs.writing.set_size.Goals.{After-width}

product : (n w : ℕ) → n < 2 ^ 32 → w ≤ 512 → n * (12 * w) ≤ 2 ^ 32 * 6144
product n w h k = mul-le-mul {n₂ = 2 ^ 32} {m₂ = 6144} (omega (arith, h)) (omega (arith, k))

small : (c : After-width) → c.width.result ≤ 512
small c = narrow c.args.h.xtrans _ c.width.ensures

pub overflow_mul-result : goal.overflow_mul-result
overflow_mul-result c = search (rules, small c)

pub overflow_mul-result-2 : goal.overflow_mul-result-2
overflow_mul-result-2 c =
    let l : c.args.h.lines < 2 ^ 32 = search rules in
    record { fits = omega (arith, product c.args.h.lines c.width.result l (small c)) }

pub returns : goal.returns
returns c = ap (λ (w : ℕ). c.args.h.lines * (12 * w)) c.width.ensures
