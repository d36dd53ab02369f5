-- What holds of a set that is written. Assumes nothing.
use borrow.Author.Tests.{eqb-true}
use mathlib.Core.Bool.{Bool, true, false, cond}
use mathlib.Core.List.{List}
use mathlib.Core.Path.{◌≡◌, refl, sym, ap, ◌∙◌}
use Prim.Native.Nat.{ℕ}
use lib.Dec.{eqb}
use Rattle.colour_lines.specs.Sets.{set_size}
use Rattle.image_map.specs.Places.{width_of}
use Rattle.stream.specs.Headers.{parse_of}
use Rattle.stream.specs.declared.header.FujiHeader.{FujiHeader}
use Rattle.stream.specs.declared.header.Refusal.TheVariants.{Lossy, WrongCount, Lossless, WrongBases}
use Rattle.stream.proofs.HeaderLaws.{ruled}
use Rattle.admission.specs.Beginnings.{with_scratch}
use Rattle.admission.proofs.CallLaws.{clash, scratch_fits}
use Rattle.admission.specs.Writings.{with_count, with_parsed, writing_begins, with_lossy, lossy_begins}
use Rattle.admission.specs.Inside.{SetFits, FitsOn}
use Rattle.std.specs.Prelude.{Err, Ok, Result}
use Rattle.stream.specs.declared.header.Refusal.{Refusal}

module _ (d : List ℕ) (n a b : ℕ) (h : FujiHeader) where
  count_goes : (g : FujiHeader) → parse_of d ≡ Ok g → (t : Bool) → eqb n (set_size (width_of g.xtrans) g.lines) ≡ t
      → cond t (with_scratch g a b) (Err WrongCount) ≡ Ok h → (g ≡ h) × SetFits g n a b
  count_goes g o false q e = clash WrongCount h e
  count_goes g o true q e =
      let f = scratch_fits g h a b e in
      (f.0, record { is_ruled = ruled d g o; size = eqb-true n (set_size (width_of g.xtrans) g.lines) q; fits = f.1 })

  set_goes : (g : FujiHeader) → parse_of d ≡ Ok g → with_count g n a b ≡ Ok h → (g ≡ h) × SetFits g n a b
  set_goes g o e = count_goes g o (eqb n (set_size (width_of g.xtrans) g.lines)) refl e

  -- which header it is
  pub record Goes (lossless : Bool) : Type 0 where
    pub parses : parse_of d ≡ Ok h
    pub lossless_is : h.lossless ≡ lossless
    pub set : SetFits h n a b

  goes : (lossless : Bool) (g : FujiHeader) → parse_of d ≡ Ok g → g.lossless ≡ lossless → with_count g n a b ≡ Ok h → Goes lossless
  goes lossless g o p e =
      let f = set_goes g o e in
      record { parses = o ∙ ap Ok f.0; lossless_is = rw f.0 at p; set = rw f.0 at f.1 }

  pub writing_goes : writing_begins d n a b ≡ Ok h → Goes true
  unfolding writing_begins
  writing_goes = from (parse_of d) refl
    where
      held : (g : FujiHeader) → parse_of d ≡ Ok g → (s : Bool) → g.lossless ≡ s
          → cond s (with_count g n a b) (Err Lossy) ≡ Ok h → Goes true
      held g o false p e = clash Lossy h e
      held g o true p e = goes true g o p e

      from : (p : Result FujiHeader Refusal) → parse_of d ≡ p → with_parsed p n a b ≡ Ok h → Goes true
      from (Err x) o e = clash x h e
      from (Ok g) o e = held g o g.lossless refl e

  -- ---- the lossy writer, with k bases

  pub lossy_goes : (k : ℕ) → lossy_begins d k n a b ≡ Ok h → Goes false × (k ≡ h.lines)
  unfolding lossy_begins
  lossy_goes k = from (parse_of d) refl
    where
      held : (g : FujiHeader) → parse_of d ≡ Ok g → (s t : Bool) → g.lossless ≡ s → eqb k g.lines ≡ t
          → cond s (Err Lossless) (cond t (with_count g n a b) (Err WrongBases)) ≡ Ok h → Goes false × (k ≡ h.lines)
      held g o true t p q e = clash Lossless h e
      held g o false false p q e = clash WrongBases h e
      held g o false true p q e = (goes false g o p e, eqb-true k g.lines q ∙ ap (λ (x : FujiHeader). x.lines) (set_goes g o e).0)

      from : (p : Result FujiHeader Refusal) → parse_of d ≡ p → with_lossy p k n a b ≡ Ok h → Goes false × (k ≡ h.lines)
      from (Err x) o e = clash x h e
      from (Ok g) o e = held g o g.lossless (eqb k g.lines) refl refl e

-- both begin with a set that can be written
pub writing_fits : (d : List ℕ) (n a b : ℕ) (begins : Result FujiHeader Refusal) → begins ≡ writing_begins d n a b → FitsOn begins n a b
writing_fits d n a b begins e h f = (writing_goes d n a b h (sym e ∙ f)).set

pub lossy_fits : (d : List ℕ) (k n a b : ℕ) (begins : Result FujiHeader Refusal) → begins ≡ lossy_begins d k n a b → FitsOn begins n a b
lossy_fits d k n a b begins e h f = (lossy_goes d n a b h k (sym e ∙ f)).0.set
