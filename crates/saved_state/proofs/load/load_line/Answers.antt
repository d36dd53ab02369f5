-- `saved_state::load::load_line` meets its contract: the samples before p are loaded. Assumes nothing.
use mathlib.Core.List.{List}
use mathlib.Core.Path.{◌≡◌, refl, ◌∙◌}
use Prim.Native.Nat.{ℕ, ◌+◌, ◌*◌, ◌≤◌, ◌<◌}
use native.Mathlib.Nat.{mul-le-mul_right}
use native.Mathlib.Omega.{arith}
use lib.ListN.{length-set}
use Rattle.saved_state.specs.Heads.{put_each}
use Rattle.saved_state.specs.Checkpoints.{stored_sample, kept_line, with_kept}
use Rattle.saved_state.proofs.PutLaws.{put_more}
use Rattle.saved_state.proofs.load.load_line.Goals as goal

-- the sixth line is the last
sixth : (m w : ℕ) → m < 6 → m * w ≤ 5 * w
sixth m w h = mul-le-mul_right w (omega arith)

from_is : (l m w start : ℕ) → l ≡ kept_line m → start ≡ l * (w + 2) → start + 1 ≡ kept_line m * (w + 2) + 1
from_is l m w start e f = rw (f, e)

done : (s lines₀ lines : List ℕ) (w m first from p : ℕ) → first ≡ m * w → from ≡ kept_line m * (w + 2) + 1 → p ≡ w
    → lines ≡ put_each (λ i. stored_sample s (first + i)) from p lines₀ → lines ≡ with_kept w s m lines₀
done s lines₀ lines w m first from p e f g h = h ∙ rw (e, f, g)

pub overflow_mul-first : goal.overflow_mul-first
overflow_mul-first c = omega (arith, sixth c.args.m c.args.w c.requires.1.0)

pub loop-p-init : goal.loop-p-init
unfolding put_each
loop-p-init c = (
  refl,
  refl,
  sixth c.args.m c.args.w c.requires.1.0,
  from_is _ _ _ _ c.kept_line.ensures.0 c.start_of-from.ensures.0,
  omega arith,
  refl,
)

pub loop-p-preserved : goal.loop-p-preserved
loop-p-preserved c = (
  simp length-set c.loop-p.invariant.0,
  c.loop-p.invariant.1,
  c.loop-p.invariant.2,
  c.loop-p.invariant.3,
  c.loop-p.invariant.4,
  put_more _ _ _ c.loop-p.p _ _ c.loop-p.invariant.5 c.be_at.ensures.0,
)

pub returns : goal.returns
returns c = done _ _ _ _ _ _ _ c.loop-p.p c.loop-p.invariant.1 c.loop-p.invariant.3 (omega arith) c.loop-p.invariant.5

pub start_of-from-requires : goal.start_of-from-requires
start_of-from-requires c = omega (arith, c.requires)

pub overflow_add-from : goal.overflow_add-from
overflow_add-from c = omega (arith, c.start_of-from.ensures)

pub overflow_add-first : goal.overflow_add-first
overflow_add-first c = omega (arith, c.requires)

pub overflow_mul-first-in-loop-p : goal.overflow_mul-first-in-loop-p
overflow_mul-first-in-loop-p c = omega (arith, c.requires)

pub overflow_add-first-in-loop-p : goal.overflow_add-first-in-loop-p
overflow_add-first-in-loop-p c = omega (arith, c.requires)

pub be_at-requires : goal.be_at-requires
be_at-requires c = omega (arith, c.requires)

pub overflow_cast-lines : goal.overflow_cast-lines
overflow_cast-lines c = omega (arith, c.be_at.ensures)

pub overflow_add-lines : goal.overflow_add-lines
overflow_add-lines c = omega (arith, c.start_of-from.ensures)

pub offset_bounds-lines-from : goal.offset_bounds-lines-from
offset_bounds-lines-from c = omega (arith, c.start_of-from.ensures)

pub bounds-lines-from : goal.bounds-lines-from
bounds-lines-from c = omega (arith, c.start_of-from.ensures)

pub shape_of-lines : goal.shape_of-lines
shape_of-lines c = omega (arith, c.requires)
