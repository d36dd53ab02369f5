-- `tight_diagnosis::spot_words` meets its contract. Assumes nothing.
use Rattle.tight_diagnosis.proofs.spot_words.Goals as goal

pub returns : goal.returns
returns c = rw c.reason_word.ensures
