-- What a call of the writer leaves, by how it begins. Assumes nothing.
use mathlib.Core.Bool.{Bool, true, false}
use mathlib.Core.List.{List}
use mathlib.Core.Path.{◌≡◌, refl}
use Prim.Native.Nat.{ℕ}
use Rattle.stream.specs.declared.header.FujiHeader.{FujiHeader}
use Rattle.stream.specs.declared.header.Refusal.{Refusal}
use Rattle.read_block.specs.Images.{form_of}
use Rattle.read_block.specs.Lent.{Outputs, cleared_lines, cleared_records}
use Rattle.write_block.specs.WrittenAnswers.{set_answer, exact_answer}
use Rattle.write_block.specs.WriterParts.{room_for, output_of, LeftBy}
use Rattle.write_block.specs.WrittenBlocks.{written_block}
use Rattle.std.specs.Prelude.{Err, Ok, Result}

module _ (bases t : List ℕ) (before : Outputs) (begins : Result FujiHeader Refusal) where
  pub written_refused : (measure : Bool) (x : Refusal) → begins ≡ Err x → LeftBy measure bases t begins before before (Err x)
  written_refused true x e = rw e ((refl, refl), refl)
  written_refused false x e = rw e (refl, refl)

  pub written_set : (measure : Bool) (h : FujiHeader) → begins ≡ Ok h → (after : Outputs) (a : Result ℕ Refusal)
      → let block = written_block (form_of h) bases h.lines t in
      a ≡ set_answer (form_of h) bases h.lines t (room_for measure block before.out) → after.out ≡ output_of measure a block before.out
      → after.lines ≡ cleared_lines h.xtrans before.lines → after.records ≡ cleared_records before.records
      → LeftBy measure bases t begins before after a
  unfolding exact_answer
  written_set true h e after a answered output lines records = rw e (record { answered = answered; lines = lines; records = records }, output)
  written_set false h e after a answered output lines records =
      rw e (record { answered = answered; output = output; lines = lines; records = records })

-- by what its beginning is
pub left_by : (measure : Bool) (bases t : List ℕ) (begins named : Result FujiHeader Refusal) (before after : Outputs) (a : Result ℕ Refusal) → begins ≡ named
    → LeftBy measure bases t begins before after a → LeftBy measure bases t named before after a
left_by measure bases t begins named before after a e l = rw e at l
