-- `admission::windowed_begins` meets its contract. Assumes nothing.
use Rattle.admission.proofs.windowed_begins.Goals as goal

pub returns : goal.returns
returns c = c.region_begins.ensures
