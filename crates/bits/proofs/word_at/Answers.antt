-- `bits::word_at` meets its contract, by `shifted_window`. Assumes nothing.
use borrow.Author.Tests.{le-leb, lt-leb}
use mathlib.Core.Path.{◌≡◌}
use mathlib.Core.List.{List}
use Prim.Native.Nat.{ℕ, ◌+◌, ◌*◌, ◌/◌, ◌%◌, ◌^◌, ◌≤◌, ◌<◌}
use lib.ListN.{length}
use Rattle.bits.specs.Bits.{bits_at}
use Rattle.bits.specs.Inside.{word_at}
use Rattle.bits.proofs.BitLaws.{shifted_window}
use Rattle.bits.proofs.word_at.Goals as goal

there : (s : List ℕ) (p i w : ℕ) → i ≡ p / 8 → i + 8 ≤ length s → w ≡ bits_at s (8 * i) 64 → (w * 2 ^ (p % 8)) % 2 ^ 64 ≡ word_at s p
unfolding word_at
there s p i w ei h ew = rw (ew, ei, le-leb _ _ (rw ei at h)) (shifted_window s p)

gone : (s : List ℕ) (p i : ℕ) → i ≡ p / 8 → length s < i + 8 → 0 ≡ word_at s p
unfolding word_at
gone s p i ei h = rw (lt-leb _ _ (rw ei at h))

pub returns-then-from-s : goal.returns-then-from-s
returns-then-from-s c = there _ _ _ _ c.byte-from.ensures c.if-from-s.true c.load64.ensures

pub returns : goal.returns
returns c = gone _ _ _ c.byte-from.ensures c.if-from-s.false
