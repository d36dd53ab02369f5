-- `cameras::free_in` meets its contract: the lowest entry that nobody holds. Assumes nothing.
use Rattle.std.proofs.Common.{arith, not, sym, ap, ◌∙◌}
use Rattle.cameras.proofs.SearchLaws.{found, goes_on, ended}
use Rattle.cameras.specs.Entries.{is_held, entry_at, free_in}
use Rattle.cameras.proofs.free_in.Goals as goal

pub returns-then-not-is_held : goal.returns-then-not-is_held
unfolding free_in
returns-then-not-is_held c =
    found (λ j. not (is_held (entry_at c.args.entries.all j))) _ c.loop-j.invariant (omega arith) (ap not (sym c.is_held.ensures) ∙ c.if-not-is_held.true-raw)

pub loop-j-preserved : goal.loop-j-preserved
loop-j-preserved c =
    goes_on (λ j. not (is_held (entry_at c.args.entries.all j))) _ c.loop-j.invariant (omega arith) (ap not (sym c.is_held.ensures) ∙ c.if-not-is_held.false-raw)

pub returns : goal.returns
unfolding free_in
returns c = ended (λ j. not (is_held (entry_at c.args.entries.all j))) _ c.loop-j.invariant (omega arith)
