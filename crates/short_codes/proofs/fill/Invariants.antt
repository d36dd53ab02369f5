-- `short_codes::fill` meets its contract: the entries before `code` are written. Assumes nothing.
use mathlib.Core.Path.{◌≡◌}
use lib.ListN.{length}
use Rattle.numbers.proofs.FillLaws.{NewTo}
use Rattle.short_codes.specs.Sheets.{entry_at}
use Rattle.short_codes.proofs.fill.Given as goal

abbrev pub invariant-loop-code : goal.invariant-loop-code
invariant-loop-code l =
    (length l.list ≡ length l.initial.list) × NewTo (entry_at l.depth l.k) l.code l.initial.list l.list
