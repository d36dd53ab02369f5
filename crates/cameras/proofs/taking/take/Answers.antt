-- `cameras::taking::take` meets its contract: a held entry is shared, or else the lowest free one is taken. Assumes nothing.
use Rattle.cameras.proofs.EntryLaws.{pair_taken, free_taken, none_taken}
use Rattle.cameras.proofs.taking.take.Goals as goal

pub returns-in-Some : goal.returns-in-Some
returns-in-Some c = pair_taken _ _ _ _ _ _ c.in-Some.ensures.0 c.in-Some.ensures.1 c.held_by.ensures

pub returns-in-Some-free_in : goal.returns-in-Some-free_in
returns-in-Some-free_in c = free_taken _ _ _ _ c.in_default.ensures _ _ c.in-Some-free_in.ensures.0 c.in-Some-free_in.ensures.1 c.new_entry.ensures

pub returns : goal.returns
returns c = none_taken c.args.camera _ _ _ c.in_default.ensures c.in_default-free_in.ensures
