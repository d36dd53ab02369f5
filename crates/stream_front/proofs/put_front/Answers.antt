-- `stream_front::put_front` meets its contract. Assumes nothing.
use mathlib.Core.Path.{sym, ◌∙◌}
use Rattle.stream.proofs.HeaderLaws.{parsed, ruled}
use Rattle.stream_front.proofs.FrontLaws.{left_refused, left_header}
use Rattle.numbers.proofs.PassedLaws.{passed_on}
use Rattle.stream_front.proofs.put_front.Goals as goal

pub put_in-requires : goal.put_in-requires
put_in-requires c =
    let e = sym c.parse.ensures ∙ c.in_ok-h.was in
    (ruled _ _ e, (parsed _ _ e).whole)

pub returns-in_err-h : goal.returns-in_err-h
returns-in_err-h c = rw (passed_on _ _ c.from_residual.ensures) (left_refused _ _ _ _ _ _ c.parse.ensures c.in_err-h.was)

pub returns : goal.returns
returns c =
    left_header _ _ _ _ _ _ _ _ c.parse.ensures c.in_ok-h.was c.put_in.ensures
