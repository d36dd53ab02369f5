-- `pass_ahead::raised16` meets its contract, by the sign of the difference. Assumes nothing.
use borrow.Author.Rules.{rules}
use mathlib.Core.Path.{ap, ◌∙◌}
use Rattle.quantiser.specs.Quantisers.{level_size}
use Rattle.pass_ahead.proofs.LookLaws.{below, not_below}
use Rattle.pass_ahead.proofs.raised16.Goals as goal

pub returns-then-a-b : goal.returns-then-a-b
returns-then-a-b c =
    (below c.args.used c.args.a c.args.b _ c.if-a-b.true (c.level_size16-size.ensures.0 ∙ ap (level_size c.args.used) c.abs_diff.ensures) c.level_size16-size.ensures.1, search rules)

pub returns-else-a-b : goal.returns-else-a-b
returns-else-a-b c =
    (not_below c.args.used c.args.a c.args.b _ c.if-a-b.false (c.level_size16-size.ensures.0 ∙ ap (level_size c.args.used) c.abs_diff.ensures), search rules)
