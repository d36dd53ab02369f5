-- `stream::open` meets its contract, by the two ways in which parsing ends. Assumes nothing.
use mathlib.Core.Path.{sym, ◌∙◌}
use Rattle.stream.proofs.HeaderLaws.{ruled}
use Rattle.stream.proofs.StreamLaws.{open_refused, open_parsed}
use Rattle.numbers.proofs.PassedLaws.{passed_on}
use Rattle.stream.proofs.open.Goals as goal

pub open_in-requires : goal.open_in-requires
open_in-requires c = ruled _ _ (sym c.parse.ensures ∙ c.in_ok-h.was)

pub returns-in_err-h : goal.returns-in_err-h
returns-in_err-h c = rw (passed_on _ _ c.from_residual.ensures) (sym (open_refused _ _ (sym c.parse.ensures ∙ c.in_err-h.was)))

pub returns : goal.returns
returns c =
    c.open_in.ensures ∙ sym (open_parsed _ _ (sym c.parse.ensures ∙ c.in_ok-h.was))
