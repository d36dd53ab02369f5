-- `write_block::counted::after_counting` meets its contract, by the two ways in which counting ends. Assumes nothing.
use mathlib.Core.Bool.{Bool}
use mathlib.Core.Path.{◌≡◌, ◌∙◌}
use Prim.Native.Nat.{ℕ}
use Rattle.write_block.specs.Counted.{next_of}
use Rattle.write_block.proofs.counted.after_counting.Goals as goal
use Rattle.std.specs.Prelude.{Result}
use Rattle.bits.specs.declared.BitPosition.{BitPosition}

same : (counted x : Result BitPosition ℕ) (measure : Bool) (room : ℕ) → counted ≡ x → next_of x measure room ≡ next_of counted measure room
same counted x measure room e = rw e

pub returns-in-Err : goal.returns-in-Err
returns-in-Err c = same _ _ _ _ c.in-Err.is

pub returns-in-Ok : goal.returns-in-Ok
returns-in-Ok c = c.length_next.ensures ∙ same _ _ _ _ c.in-Ok.is
