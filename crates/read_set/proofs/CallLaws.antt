-- A call that hands out a set: what holds of one that is not refused, and what it leaves, by how it begins. Assumes nothing.
use borrow.Author.Tests.{ltb-true, eqb-true}
use mathlib.Core.Bool.{Bool, true, false, cond}
use mathlib.Core.List.{List}
use mathlib.Core.Path.{◌≡◌, refl, subst}
use Prim.Native.Nat.{ℕ, ◌<◌}
use lib.Dec.{ltb, eqb}
use Rattle.image_map.specs.Places.{width_of}
use Rattle.colour_lines.specs.Sets.{set_size}
use Rattle.stream.specs.declared.header.FujiHeader.{FujiHeader}
use Rattle.stream.specs.declared.header.Refusal.{Refusal}
use Rattle.stream.specs.declared.header.Refusal.TheVariants.{NoBlock, WrongCount}
use Rattle.stream.specs.Streams.{open_of}
use Rattle.admission.specs.Beginnings.{with_scratch}
use Rattle.admission.specs.Beginnings.{ScratchFits}
use Rattle.admission.proofs.CallLaws.{clash, scratch_fits}
use Rattle.read_block.specs.Images.{form_of, bytes_in, bases_in, lines_read}
use Rattle.read_block.specs.Totals.{refused_by}
use Rattle.read_block.specs.Walks.{IsWalked}
use Rattle.read_block.specs.declared.Counted.{Counted}
use Rattle.read_block.specs.declared.Form.{Form}
use Rattle.read_set.specs.HandedSets.{set_with, put_over, Sets, with_opened, set_begins, SetReading, LeftSet}
use Rattle.std.specs.Prelude.{Err, Ok, Result}
use Rattle.line_totals.specs.declared.TightLines.{TightLines}
use Rattle.line_totals.specs.declared.Totals.{Totals}

pub record SetAccepted (d : List ℕ) (b count samples records : ℕ) (h : FujiHeader) : Type 0 where
  pub opens : open_of d ≡ Ok h
  pub block : b < h.blocks
  pub whole : count ≡ set_size (width_of h.xtrans) h.lines
  pub fits : ScratchFits h samples records

module _ (d : List ℕ) (b count samples records : ℕ) (h : FujiHeader) where
  set_from : (g : FujiHeader) → open_of d ≡ Ok g → (s t : Bool) → ltb b g.blocks ≡ s → eqb count (set_size (width_of g.xtrans) g.lines) ≡ t
      → cond s (cond t (with_scratch g samples records) (Err WrongCount)) (Err NoBlock) ≡ Ok h
      → SetAccepted d b count samples records h
  set_from g o false t p q e = clash NoBlock h e
  set_from g o true false p q e = clash WrongCount h e
  set_from g o true true p q e =
      let f = scratch_fits g h samples records e in
      subst (λ (x : FujiHeader). SetAccepted d b count samples records x) f.0
      (record { opens = o; block = ltb-true b g.blocks p; whole = eqb-true count (set_size (width_of g.xtrans) g.lines) q; fits = f.1 })

  pub set_reads : set_begins d b count samples records ≡ Ok h → SetAccepted d b count samples records h
  unfolding set_begins
  set_reads = from (open_of d) refl
    where
      from : (p : Result FujiHeader Refusal) → open_of d ≡ p → with_opened p b count samples records ≡ Ok h → SetAccepted d b count samples records h
      from (Err x) o e = clash x h e
      from (Ok g) o e = set_from g o (ltb b g.blocks) (eqb count (set_size (width_of g.xtrans) g.lines)) refl refl e

module _ (d : List ℕ) (b : ℕ) (before : Sets) (begins : Result FujiHeader Refusal) where
  pub set_refused : (x : Refusal) → begins ≡ Err x → (a : Counted) → a ≡ refused_by x → LeftSet d b begins before before a
  set_refused x e a f = rw e (f, refl)

  pub set_read_lem : (h : FujiHeader) → begins ≡ Ok h → (after : Sets) (a : Counted) → SetReading d b h before after a → LeftSet d b begins
      before after a
  set_read_lem h e after a l = rw e l

-- what was read of the block that the stream says
pub set_walked : (d : List ℕ) (h : FujiHeader) (b n : ℕ) (F : Form) (bases s : List ℕ) (w : Result (Totals × TightLines) (ℕ × Totals)) (set set' : List ℕ) → F ≡ form_of h → bases ≡
    bases_in d b → s ≡ bytes_in d b
    → n ≡ h.lines → IsWalked F bases s n w × (set' ≡ put_over set 0 (set_with F bases (lines_read F bases s n) s))
    → IsWalked (form_of h) (bases_in d b) (bytes_in d b) h.lines w
    × (set' ≡ put_over set 0 (set_with (form_of h) (bases_in d b) (lines_read (form_of h) (bases_in d b) (bytes_in d b) h.lines) (bytes_in d b)))
set_walked d h b n F bases s w set set' ef eb es en p = rw (ef, eb, es, en) at p

pub set_form : (F : Form) (h : FujiHeader) (n k : ℕ) → F ≡ form_of h → n ≡ h.lines → k ≡ set_size (width_of h.xtrans) h.lines → k ≡ set_size
    (width_of F.xtrans) n
set_form F h n k ef en e = rw (ef, en) e
