-- `statistics::Record::update` meets its contract: a shift by 1 halves, and a shift by 0 does nothing. Assumes nothing.
use mathlib.Core.Path.{◌∙◌}
use Rattle.numbers.proofs.FlagLaws.{flag_of}
use mathlib.Core.Path.{sym, subst}
use Rattle.statistics.specs.Inside.{InRange}
use Rattle.statistics.specs.declared.Record.{Record}
use Rattle.statistics.proofs.RecordLaws.{shifted_update, updated_in_range}
use Rattle.statistics.proofs.Record.update.Goals as goal

pub returns : goal.returns
returns c =
    let e = shifted_update c.args.self c.args.size c.from-halved.result (c.from-halved.ensures ∙ flag_of _) in
    (e, subst (λ (t : Record). InRange t) (sym e) (updated_in_range c.args.self c.args.size c.requires.0 c.requires.1))
