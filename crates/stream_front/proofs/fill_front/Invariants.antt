-- `stream_front::fill_front` meets its contract. The invariant: the bytes before i stand there, and what follows is what it was. Assumes nothing.
use mathlib.Core.List.{◌++◌}
use mathlib.Core.Path.{◌≡◌}
use lib.ListN.{length, drop}
use Rattle.read_block.specs.Records.{table}
use Rattle.stream_front.specs.Fronts.{front_byte}
use Rattle.stream_front.proofs.fill_front.Given as goal

abbrev pub invariant-loop-i : goal.invariant-loop-i
invariant-loop-i l =
    (length l.out ≡ length l.initial.out) × (l.out ≡ table (front_byte l.header l.h l.rows l.lengths) l.i ++ drop l.i l.initial.out)
