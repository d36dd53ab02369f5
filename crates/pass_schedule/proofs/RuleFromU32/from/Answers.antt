-- `pass_schedule::RuleFromU32::from` meets its contract: an arm for each number. Assumes nothing.
use Rattle.std.proofs.Common.{◌≡◌, refl, ℕ, zero, suc, rules}
use Rattle.pass_schedule.specs.Inside.{rule_of}
use Rattle.pass_schedule.specs.declared.Rule.TheVariants.{Everywhere}
use Rattle.pass_schedule.proofs.RuleFromU32.from.Goals as goal

-- the number that is none of the first three
last : (n : ℕ) → (n ≡ 0 → ⊥) → (n ≡ 1 → ⊥) → (n ≡ 2 → ⊥) → rule_of n ≡ Everywhere
unfolding rule_of
last zero a b c = absurd (a refl)
last (suc zero) a b c = absurd (b refl)
last (suc (suc zero)) a b c = absurd (c refl)
last (suc (suc (suc n))) a b c = refl

pub returns-in-0 : goal.returns-in-0
unfolding rule_of
returns-in-0 c = rw c.in-0.is

pub returns-in-1 : goal.returns-in-1
unfolding rule_of
returns-in-1 c = rw c.in-1.is

pub returns-in-2 : goal.returns-in-2
unfolding rule_of
returns-in-2 c = rw c.in-2.is

pub returns-in_default : goal.returns-in_default
returns-in_default c = rw (last c.args.number (search rules) (search rules) (search rules))
