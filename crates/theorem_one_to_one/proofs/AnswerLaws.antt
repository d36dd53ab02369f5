-- The tight reading accepts a block exactly when it is tight. Assumes nothing.
use mathlib.Core.Bool.{Bool, true, false, cond}
use mathlib.Core.List.{List, []}
use mathlib.Core.Path.{◌≡◌, refl}
use Prim.Native.Nat.{ℕ}
use native.Mathlib.Nat.{le_refl}
use native.Mathlib.Omega.{arith}
use lib.Dec.{ltb}
use borrow.Author.Tests.{le-ltb, ltb-false}
use Rattle.bits.specs.BitLists.{is_tail}
use Rattle.stream.specs.declared.header.Refusal.{Refusal}
use Rattle.stream.specs.declared.header.Refusal.TheVariants.{Truncated, NotTight}
use Rattle.read_block.specs.Blocks.{read_lines}
use Rattle.read_block.specs.Images.{lines_read}
use Rattle.read_block.specs.BadCodes.{BadCode, first_bad}
use Rattle.read_block.specs.TightBlocks.{Tight, bits_read, read_answer, tight_answer}
use Rattle.read_block.specs.declared.Form.{Form}
use Rattle.read_block.proofs.DecodeLaws.{all_read, was_read}
use Rattle.read_block.proofs.BadCodeLaws.{no_bad}
use Rattle.std.specs.Prelude.{Err, Ok, None, Option, Some, Result}

refused : {X : Type 0} (r : Refusal) → ◌≡◌ {A = Result Unit Refusal} (Err r) (Ok tt) → X
refused r e = let no : ◌≡◌ {A = ℕ} 0 1 = cc in absurd (omega arith)

-- no test refuses
accepted : (a : Bool) (o : Option BadCode) (c : Bool) (x : Refusal) (lines : ℕ) → cond a (Err x) (read_answer o lines c) ≡ (Ok tt)
    → (a ≡ false) × (o ≡ None) × (c ≡ true)
accepted true o c x lines e = refused x e
accepted false (Some b) c x lines e = refused (NotTight b.line) e
accepted false None true x lines e = (refl, refl, refl)
accepted false None false x lines e = refused (NotTight lines) e

module _ (F : Form) (s : List ℕ) where
  pub done_tight : (b lines : ℕ) → tight_answer F b lines s ≡ (Ok tt) → Tight F lines s
  unfolding tight_answer
  done_tight b lines e =
      let read : ℕ = lines_read F [] s lines in
      let a =
      accepted (ltb read lines) (first_bad F [] s lines) (is_tail s (bits_read (read_lines F [] s lines))) (Truncated b read) lines e in
      let z = was_read F [] s lines (ltb-false read lines a.0) in
      record { end = z.0; read = z.1; codes = (no_bad F [] s lines z.0 z.1).1 a.1; tail = rw z.1 at a.2 }

  pub tight_done : (b lines : ℕ) (T : Tight F lines s) → tight_answer F b lines s ≡ (Ok tt)
  unfolding tight_answer
  tight_done b lines T =
      rw (
        all_read F [] s lines T.end T.read,
        (no_bad F [] s lines T.end T.read).0 T.codes,
        le-ltb lines lines (le_refl lines),
        T.read,
        T.tail,
      )
