-- `cameras::taking::after_block` meets its contract: all lines that take an entry have one. Assumes nothing.
use mathlib.Core.Path.{◌≡◌, ◌∙◌}
use mathlib.Core.List.{List}
use Prim.Native.Nat.{ℕ, ◌≤◌}
use native.Mathlib.Omega.{arith}
use Rattle.cameras.specs.Entries.{taking_lines, after_lines, lines_with_entry}
use Rattle.cameras.specs.declared.Camera.{Camera}
use Rattle.cameras.specs.declared.Entry.{Entry}
use Rattle.cameras.proofs.EntryLaws.{all_below_lem}
use Rattle.cameras.proofs.taking.after_block.Goals as goal

settled : (c : Camera) (bits : ℕ) (bases : List ℕ) (l l' : List Entry) (m e t lines : ℕ) → lines_with_entry c bits bases l e ≡ e → t ≡ taking_lines m e → t ≤ e
    → lines ≡ lines_with_entry c bits bases l t → l' ≡ after_lines c bits bases l lines → l' ≡ after_lines c bits bases l (taking_lines m e)
settled c bits bases l l' m e t lines all is low count after =
    let f : lines ≡ taking_lines m e = count ∙ all_below_lem c bits bases l e t (rw all low) ∙ is in
    rw f at after

pub take_lines-took-requires : goal.take_lines-took-requires
take_lines-took-requires c =
    record {
      le_bits = (c.requires.le_bits.0, (c.requires.le_bits.1.0, omega (arith, c.lines_taking.ensures.1, c.requires.le_bits.1.1)));
      all_numbered = c.requires.all_numbered.0;
    }

pub returns : goal.returns
returns c =
    (settled _ _ _ _ _ _ _ _ _ c.requires.all_numbered.1 c.lines_taking.ensures.0 c.lines_taking.ensures.1 c.take_lines-took.ensures.lines_value.0 c.take_lines-took.ensures.all_value.0, c.take_lines-took.ensures.all_value.1)
