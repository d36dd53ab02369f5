-- `bits::load_tail` meets its contract: the k bytes from i on are the first k - 1, and one more. Assumes nothing.
use mathlib.Core.Path.{◌≡◌}
use mathlib.Core.List.{List}
use Prim.Native.Nat.{ℕ, ◌+◌, ◌-◌, ◌*◌, ◌^◌, ◌≤◌, ◌<◌}
use native.Mathlib.Nat.{lt_of_lt_of_le, pos_of_ne-zero}
use native.Mathlib.Omega.{arith}
use lib.ListN.{get_or}
use lib.Pow.{pow_mono}
use Rattle.bits.specs.Bits.{bits_at}
use Rattle.bits.proofs.BitLaws.{bits_at_lt, bits_at_more}
use Rattle.bits.proofs.+load_tail.Goals as goal

none : (s : List ℕ) (i k : ℕ) → k ≡ 0 → 0 ≡ bits_at s (8 * i) (8 * k)
unfolding bits_at
none s i k e = rw e

-- seven bytes leave room for one more
room : (s : List ℕ) (i k w : ℕ) → k ≤ 8 → (k ≡ 0 → ⊥) → w ≡ bits_at s (8 * i) (8 * (k - 1)) → w < 2 ^ 56
room s i k w h ne e =
    rw e
    (lt_of_lt_of_le (bits_at_lt s (8 * i) (8 * (k - 1))) (pow_mono {i = 8 * (k - 1)} {j = 56} (omega (arith, pos_of_ne-zero ne))))

more : (s : List ℕ) (i k w r : ℕ) → (k ≡ 0 → ⊥) → w ≡ bits_at s (8 * i) (8 * (k - 1)) → r ≡ get_or s (i + (k - 1)) 0 → r < 256
    → w * 256 + r ≡ bits_at s (8 * i) (8 * k)
more s i k w r ne ew er lt =
    let e : 8 * k ≡ 8 * (k - 1) + 8 = omega (arith, pos_of_ne-zero ne) in
    rw e (omega (arith, bits_at_more s i (k - 1) (rw (← er) lt)))

pub returns-then-k-eq0 : goal.returns-then-k-eq0
returns-then-k-eq0 t c = none _ _ _ c.if-k-eq0.true

pub overflow_mul-result : goal.overflow_mul-result
overflow_mul-result t c = record { fits = omega (arith, room _ _ _ _ c.requires.1 c.if-k-eq0.false c.load_tail.ensures) }

pub overflow_add-result : goal.overflow_add-result
overflow_add-result t c =
    record { fits = omega (arith, room _ _ _ _ c.requires.1 c.if-k-eq0.false c.load_tail.ensures, c.byte_at.ensures) }

pub returns : goal.returns
returns t c = more _ _ _ _ _ c.if-k-eq0.false c.load_tail.ensures c.byte_at.ensures.0 c.byte_at.ensures.1
