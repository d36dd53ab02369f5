-- `bit_output::store32` meets its contract: four stores in a row. Assumes nothing.
use Rattle.bit_output.proofs.WordLaws.{word_stored}
use Rattle.bit_output.proofs.store32.Goals as goal

pub returns : goal.returns
returns c = word_stored _ _ _ c.requires.0 c.requires.1
