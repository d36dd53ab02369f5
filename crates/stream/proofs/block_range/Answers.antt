-- `stream::block_range` meets its contract, by the two ways in which opening ends. Assumes nothing.
use mathlib.Core.Path.{sym, ◌∙◌}
use Rattle.stream.proofs.StreamLaws.{opened, range_refused, range_opened}
use Rattle.numbers.proofs.PassedLaws.{passed_on}
use Rattle.stream.proofs.block_range.Goals as goal

pub range_in-requires : goal.range_in-requires
range_in-requires c = opened _ _ (sym c.open.ensures ∙ c.in_ok-h.was)

pub returns-in_err-h : goal.returns-in_err-h
returns-in_err-h c = rw (passed_on _ _ c.from_residual.ensures) ((sym (range_refused _ _ _ (sym c.open.ensures ∙ c.in_err-h.was)), tt))

pub returns : goal.returns
returns c =
    let e = sym c.open.ensures ∙ c.in_ok-h.was in
    (c.range_in.ensures.0 ∙ sym (range_opened _ _ _ e), c.range_in.ensures.1)
