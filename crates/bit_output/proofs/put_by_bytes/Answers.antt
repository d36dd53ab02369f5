-- `bit_output::put_by_bytes` meets its contract: after each turn the first digits stand in the output. Assumes nothing.
use mathlib.Core.Path.{◌≡◌, refl, ◌∙◌}
use Prim.Native.Nat.{ℕ, ◌+◌, ◌-◌, ◌%◌, ◌^◌, ◌≤◌, ◌<◌, min}
use native.Mathlib.Nat.{min-le_left, min-le_right, min-eq_left, le-min}
use native.Mathlib.Omega.{arith}
use lib.ListN.{length-set}
use Rattle.bits.specs.Positions.{ahead}
use Rattle.bit_output.proofs.PutLaws.{put_turn, no_digits}
use Rattle.bit_output.proofs.put_by_bytes.Goals as goal
use Rattle.bit_output.proofs.put_by_bytes.Goals.{After-byte-from, After-min-t}

-- t is at least 1, and up to what is left
part : (p used left t : ℕ) → used ≡ p % 8 → 1 ≤ left → t ≡ min (8 - used) left → (1 ≤ t) × (t ≤ left) × (used + t ≤ 8)
part p used left t u h e =
    let a : 1 ≤ 8 - used = omega arith in
    (rw e (le-min a h), rw e (min-le_right (8 - used) left), omega (arith, min-le_left (8 - used) left))

-- the positions of the output do not end
moved : (p t q at n left : ℕ) → q ≡ ahead p t → p ≡ at + (n - left) → t ≤ left → left ≤ n → n ≤ 64 → at < 2 ^ 60 → q ≡ at + (n - (left - t))
moved p t q at n left e f tl ln n64 low = e ∙ min-eq_left (omega arith) ∙ omega arith

here : (c : After-min-t) → (1 ≤ c.min-t.result) × (c.min-t.result ≤ c.loop-left.left) × (c.in_byte-used.result + c.min-t.result ≤ 8)
here c = part _ _ _ _ c.in_byte-used.ensures c.loop-left-test.true c.min-t.ensures

pub loop-left-init : goal.loop-left-init
loop-left-init c = (omega arith, omega arith, refl, no_digits _ _ _ _)

pub loop-left-preserved : goal.loop-left-preserved
loop-left-preserved c =
    let h = here (goal.at.loop-left-preserved c).After-min-t in (
      omega (arith, c.loop-left.invariant.0),
      moved _ _ _ _ _ _ c.ahead-here.ensures c.loop-left.invariant.1 h.1 c.loop-left.invariant.0 c.requires.0 c.requires.1.0,
      rw length-set c.loop-left.invariant.2,
      rw (c.filled.ensures, c.next_bits.ensures.0, c.in_byte-used.ensures, c.byte-from.ensures)
          (put_turn _ _ _ _ _ _ _ _ c.loop-left.invariant.3 (λ j. (c.slice_known-in-loop-left-1.given j).fits) h.0 h.1 c.loop-left.invariant.0 c.loop-left.invariant.1 (rw c.in_byte-used.ensures at h.2) c.loop-left.invariant.2 c.requires.1.1),
    )
