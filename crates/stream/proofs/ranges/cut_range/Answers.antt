-- `stream::ranges::cut_range` meets its contract. Assumes nothing.
use mathlib.Core.List.{List}
use mathlib.Core.Path.{◌≡◌}
use Prim.Native.Nat.{ℕ, ◌+◌, ◌-◌}
use native.Mathlib.Omega.{arith}
use Rattle.stream.specs.Ranges.{cut}
use Rattle.stream.specs.Inside.{cut_range}
use Rattle.stream.proofs.ranges.cut_range.Goals as goal
use Rattle.std.specs.Prelude.{Ok}

ranged : (d : List ℕ) (start size from to : ℕ) → from ≡ cut d start → to ≡ cut d (start + size) → Ok ((record { 0 = from }), (to - from)) ≡ cut_range d start size
ranged d start size from to f t = rw (t, f)

pub returns : goal.returns
returns c =
    ranged c.args.d.now c.args.start c.args.size _ _ c.cut-from.ensures c.cut-to.ensures

pub overflow_add-start : goal.overflow_add-start
overflow_add-start c = omega (arith, c.requires)

pub overflow_sub-result : goal.overflow_sub-result
overflow_sub-result c = omega (arith, c.cut-from.ensures, c.cut-to.ensures)
