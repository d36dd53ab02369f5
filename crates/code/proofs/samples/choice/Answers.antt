-- `code::samples::choice` meets its contract: the bounds that the flatness has reached are counted. Assumes nothing.
use Rattle.std.proofs.Common.{rules}
use Rattle.numbers.proofs.FlagLaws.{flag_of}
use Rattle.code.proofs.ChoiceLaws.{counted}
use Rattle.code.proofs.samples.choice.Goals as goal

pub returns : goal.returns
returns c = (
  rw (c.from-first.ensures, c.from-second.ensures, c.from-third.ensures, flag_of _, flag_of _, flag_of _, c.first_bound.ensures, c.second_bound.ensures, c.third_bound.ensures)
      (counted _ _),
  search rules,
)
