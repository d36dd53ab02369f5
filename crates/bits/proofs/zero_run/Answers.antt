-- `bits::zero_run` meets its contract. The invariant: no one bit from `at` up to `here`; the measure: the bytes from `from` on. Assumes nothing.
use mathlib.Core.Path.{◌≡◌}
use mathlib.Core.List.{List}
use Prim.Native.Nat.{ℕ, ◌+◌, ◌-◌, ◌*◌, ◌/◌, ◌%◌, ◌^◌, ◌≤◌}
use native.Mathlib.Nat.{le_refl, sub_self}
use native.Mathlib.Omega.{arith}
use Rattle.bits.specs.Bits.{bits_at}
use Rattle.bits.proofs.BitLaws.{shifted_window}
use Rattle.bits.proofs.RunLaws.{zero_join, window_one, window_none, run_one, run_none}
use Rattle.bits.proofs.zero_run.Goals as goal

-- the window, shifted
abbrev word : ℕ → ℕ → ℕ
word w q = (w * 2 ^ (q % 8)) % 2 ^ 64

is_word : (s : List ℕ) (q from w : ℕ) → from ≡ q / 8 → w ≡ bits_at s (8 * from) 64 → word w q ≡ bits_at s q (64 - q % 8) * 2 ^ (q % 8)
is_word s q from w f e = rw (e, f, shifted_window s q)

-- the next window begins eight bytes on: the zeros up to q, and those of a window that is 0
again : (s : List ℕ) (p q from next : ℕ) → p ≤ q → from ≡ q / 8 → next ≡ 8 * (from + 8) → bits_at s p (q - p) ≡ 0 → bits_at s q ((q / 8 + 8) * 8 - q) ≡ 0
    → (p ≤ next) × (from + 8 ≡ next / 8) × (bits_at s p (next - p) ≡ 0)
again s p q from next le f n h k =
    let e : next - p ≡ (q - p) + ((q / 8 + 8) * 8 - q) = omega arith in
    let g : p + (q - p) ≡ q = omega arith in
    (omega arith, omega arith, rw e (zero_join s p (q - p) ((q / 8 + 8) * 8 - q) h (rw g k)))

pub loop-from-init : goal.loop-from-init
unfolding bits_at
loop-from-init c = (le_refl _, c.byte-from.ensures, rw sub_self)

pub returns-then-w-ne0 : goal.returns-then-w-ne0
returns-then-w-ne0 c =
    let o = window_one _ c.loop-from.here.0 _ (is_word _ c.loop-from.here.0 _ _ c.loop-from.invariant.1 c.window.ensures) c.if-w-ne0.true in
    run_one _ _ c.loop-from.here.0 _ c.loop-from.invariant.0 c.loop-from.invariant.2 o.0 o.1

pub loop-from-preserved : goal.loop-from-preserved
loop-from-preserved c =
    let none = window_none _ c.loop-from.here.0 _ (is_word _ c.loop-from.here.0 _ _ c.loop-from.invariant.1 c.window.ensures) c.if-w-ne0.false in
    again _ _ c.loop-from.here.0 _ _ c.loop-from.invariant.0 c.loop-from.invariant.1 c.first_bit-here.ensures c.loop-from.invariant.2 none

pub returns : goal.returns
returns c = run_none _ _ _ (omega (arith, c.loop-from.invariant.1, c.loop-from-test.false)) c.loop-from.invariant.2
