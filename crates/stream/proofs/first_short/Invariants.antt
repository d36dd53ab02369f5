-- `stream::first_short` meets its contract. The invariant: the search from b on gives what the search from 0 on gives. Assumes nothing.
use Rattle.std.proofs.Common.{◌≡◌, ℕ, ◌-◌, List}
use Rattle.numbers.specs.Numbers.{least_from}
use Rattle.stream.specs.Streams.{is_short, first_short}
use Rattle.stream.specs.declared.header.FujiHeader.{FujiHeader}
use Rattle.stream.proofs.first_short.Given as goal

-- the search from b on
abbrev pub shortFrom : List ℕ → FujiHeader → ℕ → ℕ
shortFrom d h b = least_from (h.blocks - b) (λ i. is_short d h i) b

abbrev pub invariant-loop-b : goal.invariant-loop-b
invariant-loop-b l = first_short l.d l.h ≡ shortFrom l.d l.h l.b
