-- `write_pass::coded_as` meets its contract: a lossless line, and any other. Assumes nothing.
use Rattle.write_pass.proofs.ChosenLaws.{coded_exact, asks_known, coded_known}
use Rattle.write_pass.proofs.coded_as.Goals as goal

pub code_for-requires : goal.code_for-requires
code_for-requires c =
    (c.largest.ensures.1, (rw c.largest.ensures.0 c.requires.prediction, rw c.largest.ensures.0 c.requires.wanted))

pub returns-then-base-eq0 : goal.returns-then-base-eq0
returns-then-base-eq0 c =
    coded_exact _ _ _ c.look_of-h.result _ _ _ _ _ _ c.if-base-eq0.true c.requires c.look_of-h.ensures.0 c.look_of-h.ensures.1.0 c.slot_of.ensures c.largest.ensures.0
    c.code_for.ensures.0

pub lossy_as-requires : goal.lossy_as-requires
lossy_as-requires c = asks_known c.if-base-eq1.true c.requires

pub returns-then-base-eq1 : goal.returns-then-base-eq1
returns-then-base-eq1 c = coded_known c.if-base-eq1.true c.lossy_as.ensures
