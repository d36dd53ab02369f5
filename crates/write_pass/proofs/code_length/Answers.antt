-- `write_pass::code_length` meets its contract. Assumes nothing.
use borrow.Author.Rules.{rules}
use Rattle.code.proofs.TightLaws.{short_length, long_length}
use Rattle.write_pass.proofs.CodePuts.{short_le}
use mathlib.Core.Path.{sym}
use Rattle.write_pass.proofs.code_length.Goals as goal

pub returns-then-zeros-limit : goal.returns-then-zeros-limit
returns-then-zeros-limit c =
    (sym (short_length _ _ _ _ c.if-zeros-limit.true), (search rules, short_le _ _ _ _ c.requires.0 c.requires.1.0 c.requires.1.1 c.if-zeros-limit.true))

pub returns-else-zeros-limit : goal.returns-else-zeros-limit
returns-else-zeros-limit c = (sym (long_length _ _ _ _ c.if-zeros-limit.false), (search rules, search rules))
