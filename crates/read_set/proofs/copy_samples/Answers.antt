-- `read_set::copy_samples` meets its contract. The invariant: the first j samples are copied. Assumes nothing.
use mathlib.Core.Path.{◌≡◌, refl, ◌∙◌}
use native.Mathlib.Omega.{arith}
use lib.ListN.{length-set}
use Rattle.read_set.proofs.PutLaws.{put_none, copy_more}
use Rattle.read_set.proofs.copy_samples.Goals as goal

pub loop-j-init : goal.loop-j-init
loop-j-init c = (refl, put_none c.args.to.now c.args.start)

pub loop-j-preserved : goal.loop-j-preserved
loop-j-preserved c = (
  simp length-set c.loop-j.invariant.0,
  rw c.loop-j.invariant.1 (copy_more c.args.to.now c.args.from.now c.args.start c.args.at c.args.n c.loop-j.j c.requires.0 c.requires.1
      (omega arith)),
)

pub returns : goal.returns
returns c =
    let e : c.loop-j.j ≡ c.args.n = omega arith in
    c.loop-j.invariant.1 ∙ rw e
