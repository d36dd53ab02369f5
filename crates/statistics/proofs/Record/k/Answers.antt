-- `statistics::Record::k` meets its contract: it is the search from 0 on. Assumes nothing.
use mathlib.Core.Path.{◌≡◌}
use Prim.Native.Nat.{ℕ, ◌+◌, ◌≤◌}
use native.Mathlib.Omega.{arith}
use Rattle.numbers.specs.Numbers.{least_from}
use Rattle.statistics.specs.Statistics.{enough, k_of}
use Rattle.statistics.specs.declared.Record.{Record}
use Rattle.statistics.proofs.RecordLaws.{k_least}
use Rattle.statistics.proofs.Record.k.Goals as goal

found : (t : Record) (r : ℕ) → r + 0 ≡ least_from 15 (enough t.sum t.n) 0 → (r ≡ k_of t) × (r ≤ 15)
unfolding k_of
found t r e =
    let f : r ≡ least_from 15 (enough t.sum t.n) 0 = omega arith in
    (f, omega (arith, (k_least t).capped))

pub returns : goal.returns
returns c = found c.args.self c.too_small_from.result c.too_small_from.ensures.0
