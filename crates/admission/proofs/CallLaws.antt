-- What holds of a call that is neither refused nor empty. Assumes nothing.
use borrow.Author.Tests.{ltb-false, ltb-true, lt-ltb, le-ltb}
use mathlib.Core.Bool.{Bool, true, false, cond, not, ◌&&◌, ◌||◌}
use mathlib.Core.List.{List}
use mathlib.Core.Path.{◌≡◌, refl, sym, ap, ◌∙◌, subst}
use Prim.Native.Nat.{ℕ, ◌+◌, ◌*◌, ◌<◌}
use native.Mathlib.Omega.{arith}
use lib.Dec.{ltb}
use Rattle.numbers.proofs.OrderLaws.{split}
use Rattle.image_map.specs.Places.{width_of}
use Rattle.stream.specs.declared.header.FujiHeader.{FujiHeader}
use Rattle.stream.specs.declared.header.Refusal.{Refusal}
use Rattle.stream.specs.declared.header.Refusal.TheVariants.{NoBlock, WrongSize, Lossy, ShortScratch}
use Rattle.stream.specs.Streams.{open_of}
use Rattle.stream.proofs.StreamLaws.{opened}
use Rattle.image_region.specs.Regions.{checked_of}
use Rattle.image_region.specs.Inside.{Accepted}
use Rattle.image_region.specs.declared.Rect.{Rect}
use Rattle.image_region.proofs.CheckLaws.{accepted}
use Rattle.admission.specs.Beginnings.{samples_needed, records_needed, is_short_scratch, with_scratch, begun, with_region, with_stream, region_begins}
use Rattle.admission.specs.Beginnings.{whole_of, is_whole, with_picture, image_begins, with_opened, block_begins}
use Rattle.admission.specs.Beginnings.{ScratchFits}
use Rattle.std.specs.Prelude.{Err, None, Ok, Option, Result, Some}
use Rattle.image_region.specs.declared.Span.{Span}

-- ---- scratch is long enough

pub clash : {X : Type 0} (x : Refusal) (h : FujiHeader) → Err x ≡ Ok h → X
clash x h e = absurd (let no : ◌≡◌ {A = ℕ} 0 1 = cc in omega arith)

pub scratch_fits : (g h : FujiHeader) (a b : ℕ) → with_scratch g a b ≡ Ok h → (g ≡ h) × ScratchFits g a b
scratch_fits g h a b = go (ltb a (samples_needed g.xtrans)) (ltb b records_needed) refl refl
  where
    go : (s t : Bool) → ltb a (samples_needed g.xtrans) ≡ s → ltb b records_needed ≡ t
        → cond (s || t) (Err ShortScratch) (Ok g) ≡ Ok h → (g ≡ h) × ScratchFits g a b
    go true t p q e = clash ShortScratch h e
    go false true p q e = clash ShortScratch h e
    go false false p q e = (cc, record { for_lines = ltb-false a (samples_needed g.xtrans) p; for_records = ltb-false b records_needed q })

-- windows are short of samples exactly if they have fewer than 9·(W + 2)
half : (s m : ℕ) → ltb (2 * s) (2 * m) ≡ ltb s m
half s m = split m s (λ h. le-ltb (2 * s) (2 * m) (omega arith) ∙ sym (le-ltb s m h)) (λ h. lt-ltb (2 * s) (2 * m) (omega arith) ∙ sym (lt-ltb s m h))

pub windows_short : (xtrans : Bool) (samples records : ℕ)
    → is_short_scratch xtrans (2 * samples) records ≡ ltb samples (9 * (width_of xtrans + 2)) || ltb records records_needed
windows_short xtrans samples records =
    let e : 18 * (width_of xtrans + 2) ≡ 2 * (9 * (width_of xtrans + 2)) = omega arith in
    rw (e, half samples (9 * (width_of xtrans + 2)))

-- ---- decoding

pub record RegionAccepted (d : List ℕ) (r : Rect) (image samples records : ℕ) (h : FujiHeader) : Type 0 where
  pub opens : open_of d ≡ Ok h
  pub region : Accepted h r image
  pub fits : ScratchFits h samples records

module _ (d : List ℕ) (r : Rect) (n a b : ℕ) (h : FujiHeader) where
  begun_reads : (g : FujiHeader) (p : Result FujiHeader Refusal) → with_scratch g a b ≡ p → begun p ≡ Ok (Some h) → (g ≡ h) × ScratchFits g a b
  begun_reads g (Err x) e f = absurd (let no : ◌≡◌ {A = ℕ} 0 1 = cc in omega arith)
  begun_reads g (Ok k) e f = let i : k ≡ h = cc in scratch_fits g h a b (e ∙ ap Ok i)

  pub checked_reads : (g : FujiHeader) → open_of d ≡ Ok g → (k : Result (Option Span) Refusal) → checked_of g r n ≡ k → with_region g k a b ≡ Ok (Some h)
      → RegionAccepted d r n a b h
  checked_reads g o (Err x) c e = absurd (let no : ◌≡◌ {A = ℕ} 0 1 = cc in omega arith)
  checked_reads g o (Ok None) c e = absurd (let no : ◌≡◌ {A = ℕ} 0 1 = cc in omega arith)
  checked_reads g o (Ok (Some s)) c e =
      let f = begun_reads g (with_scratch g a b) refl e in
      subst (λ (x : FujiHeader). RegionAccepted d r n a b x) f.0
      (record { opens = o; region = (accepted g r n s (opened d g o).ruled c).0; fits = f.1 })

  pub region_reads : region_begins d r n a b ≡ Ok (Some h) → RegionAccepted d r n a b h
  unfolding region_begins
  region_reads = from (open_of d) refl
    where
      from : (p : Result FujiHeader Refusal) → open_of d ≡ p → with_stream p r n a b ≡ Ok (Some h) → RegionAccepted d r n a b h
      from (Err x) o e = absurd (let no : ◌≡◌ {A = ℕ} 0 1 = cc in omega arith)
      from (Ok g) o e = checked_reads g o (checked_of g r n) refl e

pub image_reads : (d : List ℕ) (w k n a b : ℕ) (h : FujiHeader) → image_begins d w k n a b ≡ Ok (Some h) → RegionAccepted d (whole_of w k) n a b h
unfolding image_begins
image_reads d w k n a b h = from (open_of d) refl
  where
    sized : (g : FujiHeader) → open_of d ≡ Ok g → (s : Bool)
        → cond s (with_region g (checked_of g (whole_of w k) n) a b) (Err WrongSize) ≡ Ok (Some h) → RegionAccepted d (whole_of w k) n a b h
    sized g o true e = checked_reads d (whole_of w k) n a b h g o (checked_of g (whole_of w k) n) refl e
    sized g o false e = absurd (let no : ◌≡◌ {A = ℕ} 0 1 = cc in omega arith)

    from : (p : Result FujiHeader Refusal) → open_of d ≡ p → with_picture p w k n a b ≡ Ok (Some h) → RegionAccepted d (whole_of w k) n a b h
    from (Err x) o e = absurd (let no : ◌≡◌ {A = ℕ} 0 1 = cc in omega arith)
    from (Ok g) o e = sized g o (is_whole g w k) e

-- ---- the reading of one block

pub record BlockAccepted (tight : Bool) (d : List ℕ) (b samples records : ℕ) (h : FujiHeader) : Type 0 where
  pub opens : open_of d ≡ Ok h
  pub block : b < h.blocks
  pub lossless : tight ≡ true → h.lossless ≡ true
  pub fits : ScratchFits h samples records

module _ (tight : Bool) (d : List ℕ) (k a b : ℕ) (h : FujiHeader) where
  not_lossy : (t l : Bool) → t && not l ≡ false → t ≡ true → l ≡ true
  not_lossy t true e f = refl
  not_lossy true false e f = sym e
  not_lossy false false e f = f

  block_from : (g : FujiHeader) → open_of d ≡ Ok g → (s t : Bool) → ltb k g.blocks ≡ s → tight && not g.lossless ≡ t
      → cond s (cond t (Err Lossy) (with_scratch g a b)) (Err NoBlock) ≡ Ok h → BlockAccepted tight d k a b h
  block_from g o false t p q e = clash NoBlock h e
  block_from g o true true p q e = clash Lossy h e
  block_from g o true false p q e =
      let f = scratch_fits g h a b e in
      subst (λ (x : FujiHeader). BlockAccepted tight d k a b x) f.0
      (record { opens = o; block = ltb-true k g.blocks p; lossless = not_lossy tight g.lossless q; fits = f.1 })

  pub block_reads : block_begins tight d k a b ≡ Ok h → BlockAccepted tight d k a b h
  unfolding block_begins
  block_reads = from (open_of d) refl
    where
      from : (p : Result FujiHeader Refusal) → open_of d ≡ p → with_opened tight p k a b ≡ Ok h → BlockAccepted tight d k a b h
      from (Err x) o e = clash x h e
      from (Ok g) o e = block_from g o (ltb k g.blocks) (tight && not g.lossless) refl refl e
