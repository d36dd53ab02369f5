-- `saved_state::blocks::refuse` meets its contract. Assumes nothing.
use Rattle.saved_state.proofs.blocks.refuse.Goals as goal

pub returns : goal.returns
returns c = record {
  value = c.refused.ensures;
  lines_after = (c.clear.ensures, c.clear_records.ensures);
}
