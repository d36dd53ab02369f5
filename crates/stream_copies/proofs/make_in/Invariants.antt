-- `stream_copies::make_in` meets its contract: b blocks are laid. Assumes nothing.
use mathlib.Core.Path.{◌≡◌}
use lib.ListN.{length}
use Rattle.stream_copies.proofs.LaidLaws.{Laid}
use Rattle.stream_copies.proofs.make_in.Given as goal

abbrev pub invariant-loop-b : goal.invariant-loop-b
invariant-loop-b l =
    (length l.out ≡ length l.initial.out) × (length l.set ≡ length l.initial.set) × (length l.lines ≡ length l.initial.lines) × (length l.rs ≡ length l.initial.rs) × (length l.lengths ≡ 16)
    × Laid l.d l.h l.rows (record { out = l.initial.out; lines = l.initial.lines; records = l.initial.rs }) (record { out = l.out; lines = l.lines; records = l.rs }) l.lengths l.at l.b
