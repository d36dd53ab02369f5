-- How going on in a block begins, step by step, and what holds of a call that goes on. Assumes nothing.
use borrow.Author.Tests.{ltb-true, lt-ltb, le-ltb}
use mathlib.Core.Bool.{Bool, true, false, cond}
use mathlib.Core.List.{List}
use mathlib.Core.Path.{◌≡◌, refl, sym, ◌∙◌}
use Prim.Native.Nat.{ℕ, ◌≤◌, ◌<◌}
use native.Mathlib.Omega.{arith}
use lib.Dec.{ltb}
use Rattle.stream.specs.declared.header.FujiHeader.{FujiHeader}
use Rattle.stream.specs.declared.header.Refusal.TheVariants.{NoBlock}
use Rattle.stream.specs.Streams.{open_of}
use Rattle.image_region.specs.Regions.{checked_of}
use Rattle.image_region.specs.declared.Rect.{Rect}
use Rattle.admission.specs.Beginnings.{with_region}
use Rattle.admission.proofs.CallLaws.{RegionAccepted, checked_reads}
use Rattle.admission.specs.Resumings.{with_resumed, resume_begins}
use Rattle.std.specs.Prelude.{Err, Ok, Result, Some}
use Rattle.stream.specs.declared.header.Refusal.{Refusal}

pub resume_is : (d : List ℕ) (p : Result FujiHeader Refusal) → open_of d ≡ p → (k : ℕ) (r : Rect) (n a b : ℕ) → with_resumed p k r n a b ≡ resume_begins d k r n a b
unfolding resume_begins
resume_is d p e k r n a b = rw e

module _ (h : FujiHeader) (a b : ℕ) where
  pub no_resumed : (k : ℕ) (r : Rect) (n : ℕ) → h.blocks ≤ k → Err NoBlock ≡ with_resumed (Ok h) k r n a b
  no_resumed k r n s = rw (le-ltb k h.blocks s)

  pub a_resumed : (k : ℕ) (r : Rect) (n : ℕ) → k < h.blocks → with_region h (checked_of h r n) a b ≡ with_resumed (Ok h) k r n a b
  a_resumed k r n s = rw (lt-ltb k h.blocks s)

-- going on in block k
pub resume_reads : (d : List ℕ) (k : ℕ) (r : Rect) (n a b : ℕ) (h : FujiHeader) → resume_begins d k r n a b ≡ Ok (Some h)
    → RegionAccepted d r n a b h × (k < h.blocks)
unfolding resume_begins
resume_reads d k r n a b h = from (open_of d) refl
  where
    held : (g : FujiHeader) → open_of d ≡ Ok g → (s : Bool) → ltb k g.blocks ≡ s
        → cond s (with_region g (checked_of g r n) a b) (Err NoBlock) ≡ Ok (Some h) → RegionAccepted d r n a b h × (k < h.blocks)
    held g o false p e = absurd (let no : ◌≡◌ {A = ℕ} 0 1 = cc in omega arith)
    held g o true p e =
        let f = checked_reads d r n a b h g o (checked_of g r n) refl e in
        let i : Ok g ≡ Ok h = sym o ∙ f.opens in
        let j : g ≡ h = cc in
        (f, rw j at (ltb-true k g.blocks p))

    from : (p : Result FujiHeader Refusal) → open_of d ≡ p → with_resumed p k r n a b ≡ Ok (Some h) → RegionAccepted d r n a b h × (k < h.blocks)
    from (Err x) o e = absurd (let no : ◌≡◌ {A = ℕ} 0 1 = cc in omega arith)
    from (Ok g) o e = held g o (ltb k g.blocks) refl e
