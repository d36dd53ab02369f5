-- Looking at a lossless set: passes that are right make a line, and lines a block. Assumes nothing.
use mathlib.Core.Bool.{Bool, true, false, ◌&&◌}
use mathlib.Core.List.{List, [], ◌∷◌}
use mathlib.Core.Path.{◌≡◌, refl, sym, ◌∙◌}
use Prim.Native.Nat.{ℕ, ◌+◌}
use native.Mathlib.Numerals.{add-one}
use native.Mathlib.Omega.{arith}
use lib.ListN.{length}
use borrow.Author.Tests.{eqb-true}
use Rattle.numbers.proofs.BoolLaws.{both}
use Rattle.quantiser.specs.Quantisers.{largest}
use Rattle.colour_lines.specs.ColourLines.{zero_lines, guarded, turned}
use Rattle.image_map.specs.Places.{width_of}
use Rattle.pass_schedule.specs.Steps.{plan_of, pass_steps}
use Rattle.pass_schedule.specs.declared.Plan.{Plan}
use Rattle.write_pass.specs.Looks.{Right}
use Rattle.write_pass.specs.Puts.{Within}
use Rattle.write_pass.specs.Writings.{write_pass}
use Rattle.read_block.specs.Records.{set_of}
use Rattle.write_block.specs.WriterParts.{passes_from, RightPasses}
use Rattle.write_block.specs.WrittenBlocks.{WriteState, repeats, write_pass_at, is_strict, write_line, start_writing, write_lines}
use Rattle.read_block.specs.declared.Form.{Form}
use Rattle.write_block.proofs.BoundLaws.{lines_sure}
use Rattle.read_block.proofs.SampleLaws.{guarded_le, turned_le}
use Rattle.write_block.proofs.WalkLaws.{passes_within, lines_within}
use Rattle.std.specs.Prelude.{None}

as_found : (z : WriteState) (lines : List ℕ) → z.lines ≡ lines → z.wrong ≡ None
    → z ≡ record { lines = lines; records = z.records; bits = z.bits; wrong = None }
as_found z lines e f = rw (← e, ← f)

-- ---- passes

module _ (F : Form) (t : List ℕ) (n : ℕ) where
  pub no_passes : (lines : List ℕ) → RightPasses F t n 0 lines lines
  unfolding repeats
  no_passes lines rs b = (refl, refl)

  pub right_within : (i : ℕ) (lines lines' : List ℕ) → RightPasses F t n i lines lines' → Within (largest F.bits) lines → Within (largest F.bits) lines'
  unfolding passes_from
  right_within i lines lines' g h = rw (← (g [] []).0) (passes_within F 0 true t n lines [] i h)

  pub one_more : (i : ℕ) (lines₀ lines l₁ l₂ lines' : List ℕ) (W : ℕ) (P : Plan) → RightPasses F t n i lines₀ lines → W ≡ width_of F.xtrans
      → P ≡ plan_of F.xtrans i → l₁ ≡ guarded W P.first lines → l₂ ≡ guarded W P.second l₁
      → Right F.bits W t n (pass_steps W P) l₂ lines' → RightPasses F t n (i + 1) lines₀ lines'
  unfolding repeats write_pass_at write_pass
  one_more i lines₀ lines l₁ l₂ lines' W P g eW eP e₁ e₂ h rs b =
      let z : WriteState = repeats (write_pass_at F 0 true t n) i (record { lines = lines₀; records = rs; bits = b; wrong = None }) in
      let e = as_found z lines (g rs b).0 (g rs b).1 in
      rw (add-one, e, ← eP, ← eW, ← e₁, ← e₂) (h (set_of P.set z.records) z.bits)

  -- the samples that a pass starts with
  pub entered_within : (i : ℕ) (lines₀ lines l₁ l₂ : List ℕ) (W : ℕ) (P : Plan) → RightPasses F t n i lines₀ lines → l₁ ≡ guarded W P.first lines
      → l₂ ≡ guarded W P.second l₁ → Within (largest F.bits) lines₀ → Within (largest F.bits) l₂
  entered_within i lines₀ lines l₁ l₂ W P g e₁ e₂ h =
      let M : ℕ = largest F.bits in
      rw (e₂, e₁) (guarded_le M W P.second (guarded W P.first lines) (guarded_le M W P.first lines (right_within i lines₀ lines g h)))

  pub all_passes : (i : ℕ) (lines lines' : List ℕ) → i ≡ 6 → RightPasses F t n i lines lines' → RightPasses F t n 6 lines lines'
  all_passes i lines lines' e g = rw e at g

-- ---- lines

abbrev pub RightLines : Form → (t : List ℕ) (n : ℕ) (lines : List ℕ) → Type 0
RightLines F t n lines = ((write_lines F [] t n).lines ≡ lines) × ((write_lines F [] t n).wrong ≡ None)

module _ (F : Form) (t : List ℕ) where
  pub no_lines : (lines : List ℕ) → lines ≡ zero_lines (width_of F.xtrans) → RightLines F t 0 lines
  unfolding write_lines repeats start_writing
  no_lines lines e = (sym e, refl)

  pub line_more : (n : ℕ) (lines l₁ lines' : List ℕ) (W : ℕ) → RightLines F t n lines → W ≡ width_of F.xtrans → l₁ ≡ turned W lines
      → RightPasses F t n 6 l₁ lines' → RightLines F t (n + 1) lines'
  unfolding write_lines write_line repeats
  line_more n lines l₁ lines' W g eW e₁ h =
      let z : WriteState = write_lines F [] t n in
      let e = as_found z lines g.0 g.1 in
      rw (add-one, e, ← eW, ← e₁) (h _ z.bits)

  -- the samples that a line starts with
  pub turned_within : (n : ℕ) (lines l₁ : List ℕ) (W : ℕ) → RightLines F t n lines → l₁ ≡ turned W lines → Within (largest F.bits) l₁
  turned_within n lines l₁ W g e = let h : Within (largest F.bits) lines = rw g.0 at (lines_within F [] t n) in rw e (turned_le (largest F.bits) W lines h)

  pub all_lines : (n count : ℕ) (lines : List ℕ) → n ≡ count → RightLines F t n lines → (write_lines F [] t count).wrong ≡ None
  all_lines n count lines e g = rw e at g.1

-- ---- which sets are looked at

none_are : (bases : List ℕ) → is_strict bases ≡ true → bases ≡ []
none_are [] e = refl
none_are (q ∷ bases) e = let n : length (q ∷ bases) ≡ 0 = eqb-true (length (q ∷ bases)) 0 e in absurd (omega (arith, n))

pub looked_right : (F : Form) (bases t : List ℕ) (count : ℕ) (strict : Bool) → strict ≡ is_strict bases → (F.xtrans && strict) ≡ true
    → (write_lines F [] t count).wrong ≡ None → (write_lines F bases t count).wrong ≡ None
looked_right F bases t count strict es e h = let no = none_are bases (sym es ∙ (both F.xtrans strict e).1) in rw no h

pub not_looked : (F : Form) (bases t : List ℕ) (count : ℕ) (strict : Bool) → strict ≡ is_strict bases → (F.xtrans && strict) ≡ false
    → (write_lines F bases t count).wrong ≡ None
not_looked F bases t count strict es e = lines_sure F bases t (rw es at e) count
