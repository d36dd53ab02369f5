-- `cameras::taking::is_pair` meets its contract: depth and base, and that somebody holds it. Assumes nothing.

use Rattle.cameras.proofs.taking.is_pair.Goals as goal

pub is_held-requires : goal.is_held-requires
is_held-requires c = tt

pub returns : goal.returns
returns c = rw c.is_held.ensures
