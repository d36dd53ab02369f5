-- `saved_state::store::stored_record` meets its contract, by its test. Assumes nothing.
use mathlib.Core.Bool.{Bool, true, false, ◌&&◌}
use mathlib.Core.Path.{◌≡◌}
use Prim.Native.Nat.{ℕ, ◌%◌}
use lib.Dec.{leb}
use Rattle.statistics.specs.declared.Record.{Record}
use Rattle.saved_state.specs.Checkpoints.{stored_record}
use Rattle.saved_state.proofs.store.stored_record.Goals as goal

module _ (lossless : Bool) (j : ℕ) (r : Record) where
  unused : (f : Bool) → f ≡ leb 41 (j % 56) → (lossless && f) ≡ true → record { sum = 0; n = 1 } ≡ stored_record lossless j r
  unfolding stored_record
  unused f ef e = rw (← ef, e)

  used : (f : Bool) → f ≡ leb 41 (j % 56) → (lossless && f) ≡ false → r ≡ stored_record lossless j r
  unfolding stored_record
  used f ef e = rw (← ef, e)

pub returns-then-lossless-is_flat : goal.returns-then-lossless-is_flat
returns-then-lossless-is_flat c = unused _ _ _ _ c.is_flat.ensures c.if-lossless-is_flat.true

pub returns : goal.returns
returns c = used _ _ _ _ c.is_flat.ensures c.if-lossless-is_flat.false
