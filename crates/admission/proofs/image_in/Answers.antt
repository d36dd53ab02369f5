-- `admission::image_in` meets its contract: refusal 6, then those of the region. Assumes nothing.
use mathlib.Core.Path.{◌≡◌, sym, ap, ◌∙◌}
use Prim.Native.Nat.{ℕ}
use Rattle.stream.specs.declared.header.FujiHeader.{FujiHeader}
use Rattle.image_region.specs.Regions.{checked_of}
use Rattle.image_region.specs.declared.Rect.{Rect}
use Rattle.admission.specs.Beginnings.{with_region}
use Rattle.admission.proofs.BeginningLaws.{whole_picture, wrong_size}
use Rattle.admission.proofs.image_in.Goals as goal

at : (h : FujiHeader) (r q : Rect) (n a b : ℕ) → r ≡ q → with_region h (checked_of h r n) a b ≡ with_region h (checked_of h q n) a b
at h r q n a b e = ap (λ (x : Rect). with_region h (checked_of h x n) a b) e

pub returns-then-is_whole : goal.returns-then-is_whole
returns-then-is_whole c =
    let w = sym c.is_whole.ensures ∙ c.if-is_whole.true in
    c.region_in.ensures
    ∙ (at c.args.h _ _ c.args.image c.args.samples c.args.records c.whole.ensures ∙ whole_picture c.args.h c.args.samples c.args.records c.args.width c.args.height c.args.image w)

pub returns : goal.returns
returns c =
    wrong_size c.args.h c.args.samples c.args.records c.args.width c.args.height c.args.image (sym c.is_whole.ensures ∙ c.if-is_whole.false)
