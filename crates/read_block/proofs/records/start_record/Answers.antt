-- `read_block::records::start_record` meets its contract: the quantiser of a place. Assumes nothing.
use borrow.Author.Tests.{lt-ltb, le-ltb, ne_eqb}
use mathlib.Core.Path.{◌≡◌}
use Prim.Native.Nat.{ℕ, ◌+◌, ◌-◌, ◌/◌, ◌%◌, ◌≤◌, ◌<◌}
use native.Mathlib.Omega.{arith}
use Rattle.quantiser.specs.Quantisers.{main_of, flat_of, start_sum}
use Rattle.quantiser.specs.declared.Quantiser.{Quantiser}
use Rattle.statistics.specs.declared.Record.{Record}
use Rattle.read_block.specs.Records.{start_record}
use Rattle.read_block.proofs.records.start_record.Goals as goal

of_main : (bits q j s : ℕ) (Q : Quantiser) → j % 56 < 41 → Q ≡ main_of bits q → s ≡ start_sum Q
    → ◌≡◌ {A = Record} (record { sum = s; n = 1 }) (start_record bits q j)
unfolding start_record
of_main bits q j s Q h eq es = simp (lt-ltb (j % 56) 41 h, es, eq)

of_flat : (bits q j s : ℕ) (Q : Quantiser) → 41 ≤ j % 56 → Q ≡ flat_of bits ((j % 56 - 41) / 5 + 1) → s ≡ start_sum Q
    → ◌≡◌ {A = Record} (record { sum = s; n = 1 }) (start_record bits q j)
unfolding start_record
of_flat bits q j s Q h eq es = simp (le-ltb (j % 56) 41 h, ne_eqb ((j % 56 - 41) / 5 + 1) 0 (λ (e : (j % 56 - 41) / 5 + 1 ≡ 0). omega arith), es, eq)

pub returns-then-place-lt41 : goal.returns-then-place-lt41
returns-then-place-lt41 c = of_main _ _ _ _ _ c.if-place-lt41.true c.main-q.ensures.0 c.start_sum.ensures.0

pub returns : goal.returns
returns c = of_flat _ _ _ _ _ c.if-place-lt41.false c.flat-q.ensures.0 c.start_sum-2.ensures.0
