-- `pass_ahead::records::choice_at` meets its contract. Assumes nothing.
use borrow.Author.Rules.{rules}
use Rattle.pass_ahead.proofs.SignLaws.{choice_first, choice_flat}
use Rattle.pass_ahead.proofs.records.choice_at.Goals as goal

pub returns-then-place-lt41 : goal.returns-then-place-lt41
returns-then-place-lt41 c = (choice_first _ c.if-place-lt41.true, search rules)

pub returns : goal.returns
returns c = (choice_flat _ c.if-place-lt41.false, search rules)
