-- `cameras::taking::pair_in` meets its contract: the lowest held entry of a pair. Assumes nothing.
use Rattle.std.proofs.Common.{arith, sym, ◌∙◌}
use Rattle.cameras.proofs.SearchLaws.{found, goes_on, ended}
use Rattle.cameras.specs.Entries.{is_pair, entry_at, pair_in}
use Rattle.cameras.proofs.taking.pair_in.Goals as goal

pub returns-then-is_pair : goal.returns-then-is_pair
unfolding pair_in
returns-then-is_pair c =
    found (λ j. is_pair c.args.bits c.args.base (entry_at c.args.entries.all j)) _ c.loop-i.invariant (omega arith) (sym c.is_pair.ensures ∙ c.if-is_pair.true)

pub loop-i-preserved : goal.loop-i-preserved
loop-i-preserved c =
    goes_on (λ j. is_pair c.args.bits c.args.base (entry_at c.args.entries.all j)) _ c.loop-i.invariant (omega arith) (sym c.is_pair.ensures ∙ c.if-is_pair.false)

pub returns : goal.returns
unfolding pair_in
returns c = ended (λ j. is_pair c.args.bits c.args.base (entry_at c.args.entries.all j)) _ c.loop-i.invariant (omega arith)
