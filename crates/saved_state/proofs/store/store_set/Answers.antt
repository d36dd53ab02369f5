-- `saved_state::store::store_set` meets its contract: the bytes before i are stored. Assumes nothing.
use borrow.Author.Rules.{rules}
use mathlib.Core.Bool.{Bool}
use mathlib.Core.List.{List}
use mathlib.Core.Path.{◌≡◌, refl}
use Prim.Native.Nat.{ℕ, ◌/◌, ◌%◌}
use native.Mathlib.Omega.{arith}
use lib.ListN.{length, length-set}
use Rattle.pass_steps.specs.Values.{zip_records}
use Rattle.pass_steps.proofs.ZipLaws.{record_at, zip_get_d}
use Rattle.saved_state.specs.Heads.{put_each}
use Rattle.saved_state.specs.Checkpoints.{record_byte, stored_record, records_byte}
use Rattle.saved_state.proofs.PutLaws.{put_more, put_done}
use Rattle.saved_state.proofs.store.store_set.Goals as goal

-- record i / 5 stands in both arrays
byte : (lossless : Bool) (sums ns : List ℕ) (i t : ℕ) → length sums ≡ 112 → length ns ≡ 112
    → t ≡ record_byte (stored_record lossless (i / 5) (record_at sums ns (i / 5))) (i % 5) → t ≡ records_byte lossless (zip_records sums ns) i
unfolding records_byte
byte lossless sums ns i t a b e = rw (zip_get_d sums ns (i / 5) (omega arith)) e

pub loop-i-init : goal.loop-i-init
unfolding put_each
loop-i-init c = (refl, search rules, search rules, refl, refl)

pub loop-i-preserved : goal.loop-i-preserved
loop-i-preserved c = (
  simp length-set c.loop-i.invariant.0,
  c.loop-i.invariant.1,
  c.loop-i.invariant.2,
  c.loop-i.invariant.3,
  put_more _ _ _ c.loop-i.i _ _ c.loop-i.invariant.4 (byte _ _ _ c.loop-i.i _ c.loop-i.invariant.1 c.loop-i.invariant.2 c.set_byte.ensures),
)

pub returns : goal.returns
returns c = rw c.loop-i.invariant.3 at (put_done _ _ _ c.loop-i.i 560 _ c.loop-i.invariant.4 (omega arith))
