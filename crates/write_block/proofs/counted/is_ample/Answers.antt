-- `write_block::counted::is_ample` meets its contract. Assumes nothing.
use borrow.Author.Tests.{lt-leb, le-leb, ltb-true, ltb-false}
use mathlib.Core.Bool.{Bool, true, false, not}
use mathlib.Core.Path.{◌≡◌, sym}
use Prim.Native.Nat.{ℕ, ◌*◌}
use lib.Dec.{leb, ltb}
use Rattle.write_block.specs.Counted.{is_ample}
use Rattle.write_block.proofs.counted.is_ample.Goals as goal

-- room that is not short is enough
enough : (room n : ℕ) (b : Bool) → b ≡ ltb room n → not b ≡ leb n room
enough room n true e = sym (lt-leb n room (ltb-true room n (sym e)))
enough room n false e = sym (le-leb n room (ltb-false room n (sym e)))

written : (measure b : Bool) (bits lines room n : ℕ) → measure ≡ false → n ≡ lines * 2304 * bits → b ≡ ltb room n → not b ≡ is_ample measure bits lines room
written measure b bits lines room n m e f = rw m (rw e at (enough room n b f))

pub returns-then-measure : goal.returns-then-measure
returns-then-measure c = rw c.if-measure.true

pub returns : goal.returns
returns c = written _ _ _ _ _ _ c.if-measure.false c.most_bytes.ensures c.is_short.ensures
