-- `stream::base_row_range` meets its contract, by the two ways in which opening ends. Assumes nothing.
use mathlib.Core.Path.{sym, ◌∙◌}
use Rattle.stream.proofs.StreamLaws.{opened, row_refused, row_opened}
use Rattle.numbers.proofs.PassedLaws.{passed_on}
use Rattle.stream.proofs.base_row_range.Goals as goal

pub row_in-requires : goal.row_in-requires
row_in-requires c = (opened _ _ (sym c.open.ensures ∙ c.in_ok-h.was)).ruled

pub returns-in_err-h : goal.returns-in_err-h
returns-in_err-h c = rw (passed_on _ _ c.from_residual.ensures) (sym (row_refused _ _ _ (sym c.open.ensures ∙ c.in_err-h.was)))

pub returns : goal.returns
returns c =
    c.row_in.ensures ∙ sym (row_opened _ _ _ (sym c.open.ensures ∙ c.in_ok-h.was))
