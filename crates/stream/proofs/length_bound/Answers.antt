-- `stream::length_bound` meets its contract, by the two ways in which parsing ends. Assumes nothing.
use mathlib.Core.Path.{sym, ap, ◌∙◌}
use Rattle.stream.specs.Lengths.{bound_answer}
use Rattle.stream.proofs.HeaderLaws.{ruled}
use Rattle.numbers.proofs.PassedLaws.{passed_on}
use Rattle.stream.proofs.length_bound.Goals as goal

pub bound_in-requires : goal.bound_in-requires
bound_in-requires c = ruled _ _ (sym c.parse.ensures ∙ c.in_ok-h.was)

pub returns-in_err-h : goal.returns-in_err-h
returns-in_err-h c = rw (passed_on _ _ c.from_residual.ensures) (ap bound_answer (sym c.in_err-h.was ∙ c.parse.ensures))

pub returns : goal.returns
returns c = c.bound_in.ensures ∙ ap bound_answer (sym c.in_ok-h.was ∙ c.parse.ensures)
