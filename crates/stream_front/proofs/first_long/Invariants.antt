-- `stream_front::first_long` meets its contract. The invariant: the search from b on gives what the search from 0 on gives. Assumes nothing.
use mathlib.Core.List.{List}
use mathlib.Core.Path.{◌≡◌}
use Prim.Native.Nat.{ℕ, ◌-◌}
use lib.ListN.{length}
use Rattle.numbers.specs.Numbers.{least_from}
use Rattle.stream_front.specs.Fronts.{is_long, first_long}
use Rattle.stream_front.proofs.first_long.Given as goal

abbrev pub longFrom : List ℕ → ℕ → ℕ
longFrom lengths b = least_from (length lengths - b) (λ i. is_long lengths i) b

abbrev pub invariant-loop-b : goal.invariant-loop-b
invariant-loop-b l = first_long l.fn.lengths ≡ longFrom l.fn.lengths l.b
