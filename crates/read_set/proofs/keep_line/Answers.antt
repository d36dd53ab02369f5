-- `read_set::keep_line` meets its contract. The invariant: the first c colour lines stand in the set. Assumes nothing.
use mathlib.Core.List.{List}
use mathlib.Core.Path.{◌≡◌, refl, ◌∙◌}
use Prim.Native.Nat.{ℕ, ◌+◌, ◌*◌, ◌≤◌, ◌<◌}
use native.Mathlib.Nat.{mul-le-mul_right}
use native.Mathlib.Omega.{arith}
use Rattle.colour_lines.specs.Sets.{line_size}
use Rattle.pass_schedule.specs.Steps.{upto}
use Rattle.read_set.specs.HandedSets.{put_over}
use lib.ListN.{length}
use Rattle.read_set.proofs.PutLaws.{colour, put_none, colour_step, all_twelve}
use Rattle.read_set.proofs.keep_line.Goals as goal
use Rattle.read_set.proofs.keep_line.Goals.{After-start_of-from}

product : (l w : ℕ) → l ≤ 65536 → w ≤ 512 → l * (12 * w) ≤ 65536 * 6144
product l w hl hw = let p : l * (12 * w) ≤ 65536 * (12 * w) = mul-le-mul_right (12 * w) hl in omega arith

none : (d : List ℕ) (first w : ℕ) (lines : List ℕ) → d ≡ put_over d first (upto (colour w lines) 0)
unfolding upto
none d first w lines = put_none d first

room : (n w k : ℕ) → (n + 1) * line_size w ≤ k → n * (12 * w) + 12 * w ≤ k
room n w k h = let e : (n + 1) * (12 * w) ≡ n * (12 * w) + 12 * w = omega arith in omega arith

below : (c w : ℕ) → c < 12 → c * w + w ≤ 12 * w
below c w h = let m : (c + 1) * w ≤ 12 * w = mul-le-mul_right w (omega arith) in omega arith

places : (c : After-start_of-from) → c.start_of-from.result + 1 + c.args.w ≤ length c.args.lines.now
places c = omega (arith, c.start_of-from.ensures, c.requires.1.1.0)

pub loop-c-init : goal.loop-c-init
loop-c-init c = (
  refl,
  none c.args.set.now (c.args.n * (12 * c.args.w)) c.args.w c.args.lines.now,
  room c.args.n c.args.w _ c.requires.1.1.1,
  product c.args.n c.args.w (omega (arith, c.requires.1.0)) c.requires.0,
)

pub copy_samples-requires : goal.copy_samples-requires
copy_samples-requires c = (
  omega (arith, places (goal.at.copy_samples-requires c).After-start_of-from),
  omega (arith, below c.loop-c.c c.args.w (omega arith), c.loop-c.invariant.0, c.loop-c.invariant.2),
)

pub loop-c-preserved : goal.loop-c-preserved
loop-c-preserved c =
    let n =
    colour_step c.args.w c.args.lines.now c.args.set.now c.loop-c.set _ (c.args.n * (12 * c.args.w)) c.loop-c.c c.line_of_rank.result c.requires.1.1.0
    c.line_of_rank.ensures.0 (omega arith) c.loop-c.invariant.2 c.loop-c.invariant.1
    (rw c.start_of-from.ensures.0 at c.copy_samples.ensures) in
    (n.0, n.1, c.loop-c.invariant.2, c.loop-c.invariant.3)

pub returns : goal.returns
returns c =
    let e : c.loop-c.c ≡ 12 = omega arith in
    all_twelve c.args.w c.args.lines.now c.args.set.now c.loop-c.set (c.args.n * (12 * c.args.w)) (c.loop-c.invariant.1 ∙ rw e)
