-- `pass_ahead::level_size16` meets its contract: the level counts the thresholds that are reached. Assumes nothing.
use Rattle.numbers.proofs.FlagLaws.{flag_of}
use mathlib.Core.Path.{◌∙◌}
use borrow.Author.Rules.{rules}
use Rattle.pass_ahead.proofs.LookLaws.{level_counted}
use Rattle.pass_ahead.proofs.level_size16.Goals as goal

pub returns : goal.returns
returns c =
    (level_counted c.args.used c.args.m _ _ _ _ c.args.t c.requires (c.from.ensures ∙ flag_of _) (c.from-2.ensures ∙ flag_of _) (c.from-3.ensures ∙ flag_of _) (c.from-4.ensures ∙ flag_of _), search rules)
