-- `saved_state::store::set_byte` meets its contract. Assumes nothing.
use mathlib.Core.Path.{◌∙◌, ap}
use Prim.Native.Nat.{◌%◌}
use Rattle.statistics.specs.declared.Record.{Record}
use Rattle.saved_state.specs.Checkpoints.{record_byte}
use Rattle.saved_state.proofs.store.set_byte.Goals as goal

pub returns : goal.returns
returns c = c.record_byte.ensures ∙ ap (λ (r : Record). record_byte r (c.args.i % 5)) c.stored_record.ensures
