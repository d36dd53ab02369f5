-- `bit_pump::BitPumpMsb::zero_run` meets its contract: the one bit of a run lies inside the block, so the position behind it fits.
use mathlib.Core.Path.{◌≡◌, sym}
use mathlib.Core.List.{List}
use Prim.Native.Nat.{ℕ, ◌^◌, ◌<◌}
use native.Mathlib.Omega.{arith}
use lib.ListN.{length}
use Rattle.bits.specs.Bits.{zero_run}
use Rattle.bits.specs.Inside.{after_run}
use Rattle.bits.proofs.RunLaws.{run_inside}
use Rattle.bit_pump.proofs.BitPumpMsb.zero_run.Goals as goal
use Rattle.std.specs.Prelude.{None, Option, Some}

past_fits : (s : List ℕ) (p : ℕ) (r : Option ℕ) → length s < 2 ^ 58 → p < 2 ^ 64 → r ≡ zero_run s p → after_run p r < 2 ^ 64
past_fits s p (Some z) h f e = omega (arith, run_inside s p z (sym e))
past_fits s p None h f e = f

pub after_run-self-requires : goal.after_run-self-requires
after_run-self-requires c = past_fits _ _ _ c.requires (omega arith) c.zero_run-run.ensures
