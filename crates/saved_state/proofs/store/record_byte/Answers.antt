-- `saved_state::store::record_byte` meets its contract. Assumes nothing.
use borrow.Author.Tests.{lt-ltb, le-ltb}
use mathlib.Core.Path.{◌≡◌}
use Prim.Native.Nat.{ℕ, ◌≤◌, ◌<◌}
use native.Mathlib.Omega.{arith}
use Rattle.statistics.specs.declared.Record.{Record}
use Rattle.saved_state.specs.Heads.{be_byte}
use Rattle.saved_state.specs.Checkpoints.{record_byte}
use Rattle.saved_state.proofs.store.record_byte.Goals as goal

module _ (r : Record) (k t : ℕ) where
  of-sum : k < 4 → t ≡ be_byte 4 k r.sum → t ≡ record_byte r k
  unfolding record_byte
  of-sum h e = rw (lt-ltb k 4 h) e

  of-n : 4 ≤ k → t ≡ be_byte 1 0 r.n → t ≡ record_byte r k
  unfolding record_byte
  of-n h e = rw (le-ltb k 4 h) e

pub returns-then-k-lt4 : goal.returns-then-k-lt4
returns-then-k-lt4 c = of-sum _ _ _ (omega arith) c.be_byte.ensures

pub returns : goal.returns
returns c = of-n _ _ _ (omega arith) c.be_byte-2.ensures
