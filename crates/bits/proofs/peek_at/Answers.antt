-- `bits::peek_at` meets its contract: the bits before and after the n are shifted out, by `bits_at_window`. Assumes nothing.
use mathlib.Core.Path.{◌≡◌}
use mathlib.Core.List.{List}
use Prim.Native.Nat.{ℕ, ◌-◌, ◌*◌, ◌/◌, ◌%◌, ◌^◌, ◌≤◌}
use Rattle.bits.specs.Bits.{bits_at}
use Rattle.bits.proofs.BitLaws.{bits_at_window}
use Rattle.bits.proofs.peek_at.Goals as goal

peeked : (s : List ℕ) (p n i w : ℕ) → n ≤ 32 → i ≡ p / 8 → w ≡ bits_at s (8 * i) 64 → (w * 2 ^ (p % 8)) % 2 ^ 64 / 2 ^ 32 / 2 ^ (32 - n) ≡ bits_at s p n
peeked s p n i w h ei ew = rw (ew, ei) (bits_at_window s p n h)

pub returns : goal.returns
returns c =
    rw (← c.counted-m.ensures.0)
    (peeked _ _ _ _ _ c.counted-m.ensures.1 c.byte.ensures c.window-w.ensures)
