-- How the writer's calls begin, step by step. Assumes nothing.
use borrow.Author.Tests.{eq-eqb, ne_eqb}
use mathlib.Core.Bool.{Bool, true, false, cond}
use mathlib.Core.List.{List}
use mathlib.Core.Logic.{◌≢◌}
use mathlib.Core.Path.{◌≡◌, sym, ap, ◌∙◌}
use Prim.Native.Nat.{ℕ}
use lib.Dec.{eqb}
use Rattle.colour_lines.specs.Sets.{set_size}
use Rattle.image_map.specs.Places.{width_of}
use Rattle.stream.specs.Headers.{parse_of}
use Rattle.stream.specs.declared.header.FujiHeader.{FujiHeader}
use Rattle.stream.specs.declared.header.Refusal.TheVariants.{Lossy, WrongCount, Lossless, WrongBases}
use Rattle.admission.specs.Beginnings.{with_scratch}
use Rattle.admission.specs.Writings.{with_count, with_set, with_parsed, writing_begins, with_bases, with_lossy, lossy_begins}
use Rattle.std.specs.Prelude.{Err, Result}
use Rattle.stream.specs.declared.header.Refusal.{Refusal}

-- ---- a call begins as the header parses

pub writing_is : (d : List ℕ) (p : Result FujiHeader Refusal) → parse_of d ≡ p → (n a b : ℕ) → with_parsed p n a b ≡ writing_begins d n a b
unfolding writing_begins
writing_is d p e n a b = rw e

pub lossy_is : (d : List ℕ) (p : Result FujiHeader Refusal) → parse_of d ≡ p → (k n a b : ℕ) → with_lossy p k n a b ≡ lossy_begins d k n a b
unfolding lossy_begins
lossy_is d p e k n a b = rw e

-- ---- the steps

module _ (h : FujiHeader) (a b : ℕ) where
  -- a set, which has the right size or not
  count_is : (n s : ℕ) (y : Bool) → s ≡ set_size (width_of h.xtrans) h.lines → eqb n s ≡ y
      → cond y (with_scratch h a b) (Err WrongCount) ≡ with_count h n a b
  count_is n s y es f = sym (ap (λ (x : Bool). cond x (with_scratch h a b) (Err WrongCount)) (rw es at f))

  pub wrong_count : (n s : ℕ) → s ≡ set_size (width_of h.xtrans) h.lines → n ≢ s → Err WrongCount ≡ with_count h n a b
  wrong_count n s es f = count_is n s false es (ne_eqb n s f)

  pub right_count : (n s : ℕ) → s ≡ set_size (width_of h.xtrans) h.lines → n ≡ s → with_scratch h a b ≡ with_count h n a b
  right_count n s es f = count_is n s true es (eq-eqb n s f)

  pub lossy_set : (n : ℕ) → h.lossless ≡ false → Err Lossy ≡ with_set h n a b
  lossy_set n e = sym (ap (λ (x : Bool). cond x (with_count h n a b) (Err Lossy)) e)

  pub a_set : (n : ℕ) → h.lossless ≡ true → with_count h n a b ≡ with_set h n a b
  a_set n e = sym (ap (λ (x : Bool). cond x (with_count h n a b) (Err Lossy)) e)

  pub lossless_set : (k n : ℕ) → h.lossless ≡ true → Err Lossless ≡ with_bases h k n a b
  lossless_set k n e = rw e

  -- a set with bases, which are as many as lines or not
  bases_are : (k n : ℕ) (y : Bool) → h.lossless ≡ false → eqb k h.lines ≡ y → cond y (with_count h n a b) (Err WrongBases) ≡ with_bases h k n a b
  bases_are k n y e f =
      let inner = cond (eqb k h.lines) (with_count h n a b) (Err WrongBases) in
      sym (ap (λ (x : Bool). cond x (Err Lossless) inner) e ∙ ap (λ (x : Bool). cond x (with_count h n a b) (Err WrongBases)) f)

  pub wrong_bases : (k n : ℕ) → h.lossless ≡ false → k ≢ h.lines → Err WrongBases ≡ with_bases h k n a b
  wrong_bases k n e f = bases_are k n false e (ne_eqb k h.lines f)

  pub right_bases : (k n : ℕ) → h.lossless ≡ false → k ≡ h.lines → with_count h n a b ≡ with_bases h k n a b
  right_bases k n e f = bases_are k n true e (eq-eqb k h.lines f)
