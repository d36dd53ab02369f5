-- `saved_state::head::be_byte` meets its contract. Assumes nothing.
use Rattle.saved_state.proofs.PutLaws.{byte_is}
use Rattle.saved_state.proofs.head.be_byte.Goals as goal

pub returns : goal.returns
returns c = byte_is _ _ _
