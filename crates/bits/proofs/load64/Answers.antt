-- `bits::load64` meets its contract: two groups of four bytes are 64 bits, by `be64_bits`. Assumes nothing.
use mathlib.Core.Path.{◌≡◌}
use mathlib.Core.List.{List}
use Prim.Native.Nat.{ℕ, ◌+◌, ◌*◌, ◌<◌}
use lib.ListN.{get_or}
use Rattle.bits.specs.Bits.{bits_at, be32}
use Rattle.bits.proofs.BitLaws.{be64_bits}
use Rattle.bits.proofs.load64.Goals as goal

loaded : (s : List ℕ) (i a b : ℕ) → ((k : ℕ) → get_or s k 0 < 256) → a ≡ be32 s i → b ≡ be32 s (i + 4) → a * 0x100000000 + b ≡ bits_at s (8 * i) 64
loaded s i a b h ea eb = rw (ea, eb) (be64_bits s i h)

pub returns : goal.returns
returns c = loaded _ _ _ _ (λ k. (c.shared_slice_known-1.given k).fits) c.load32.ensures.0 c.load32-2.ensures.0
