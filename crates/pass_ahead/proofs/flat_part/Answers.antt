-- `pass_ahead::flat_part` meets its contract, by the sign of the difference. Assumes nothing.
use Rattle.numbers.proofs.FlagLaws.{flag_of, flag_le}
use mathlib.Core.Path.{◌∙◌}
use borrow.Author.Rules.{rules}
use mathlib.Core.Path.{◌≡◌, ap, ◌∙◌}
use Prim.Native.Nat.{ℕ}
use lib.Dec.{leb}
use Rattle.numbers.specs.Numbers.{flag}
use Rattle.pass_ahead.proofs.LookLaws.{flat_below, flat_not_below}
use Rattle.pass_ahead.proofs.flat_part.Goals as goal
use Rattle.pass_ahead.proofs.flat_part.Goals.{After-from-size}

size : (c : After-from-size) → c.from-size.result ≡ flag (leb c.args.choice (Rattle.numbers.specs.Numbers.distance c.args.rb c.args.rc))
size c = (c.from-size.ensures ∙ flag_of _) ∙ ap (λ (m : ℕ). flag (leb c.args.choice m)) c.abs_diff.ensures

pub returns-then-rb-rc : goal.returns-then-rb-rc
returns-then-rb-rc c =
    (flat_below c.args.choice c.args.rb c.args.rc _ c.requires c.if-rb-rc.true (size (goal.at.returns-then-rb-rc c).After-from-size) (rw (size (goal.at.returns-then-rb-rc c).After-from-size) (flag_le _)), search rules)

pub returns-else-rb-rc : goal.returns-else-rb-rc
returns-else-rb-rc c =
    (flat_not_below c.args.choice c.args.rb c.args.rc _ c.requires c.if-rb-rc.false (size (goal.at.returns-else-rb-rc c).After-from-size), search rules)
