-- `saved_state::head::head_byte` meets its contract, by the part that the byte belongs to. Assumes nothing.
use borrow.Author.Tests.{lt-ltb, le-ltb}
use mathlib.Core.List.{List}
use mathlib.Core.Path.{◌≡◌}
use Prim.Native.Nat.{ℕ, ◌-◌, ◌≤◌, ◌<◌}
use native.Mathlib.Omega.{arith}
use lib.ListN.{get_or}
use Rattle.saved_state.specs.Heads.{be_byte, head_byte}
use Rattle.saved_state.proofs.head.head_byte.Goals as goal

module _ (d : List ℕ) (block next at i : ℕ) where
  in-header : i < 16 → get_or d i 0 ≡ head_byte d block next at i
  unfolding head_byte
  in-header h = rw (lt-ltb i 16 h)

  in_block : (r : ℕ) → 16 ≤ i → i < 17 → r ≡ be_byte 1 0 block → r ≡ head_byte d block next at i
  unfolding head_byte
  in_block r l h e = rw (le-ltb i 16 l, lt-ltb i 17 h) e

  in-next : (r : ℕ) → 17 ≤ i → i < 19 → r ≡ be_byte 2 (i - 17) next → r ≡ head_byte d block next at i
  unfolding head_byte
  in-next r l h e = rw (le-ltb i 16 (omega arith), le-ltb i 17 l, lt-ltb i 19 h) e

  in-position : (r : ℕ) → 19 ≤ i → r ≡ be_byte 8 (i - 19) at → r ≡ head_byte d block next at i
  unfolding head_byte
  in-position r l e = rw (le-ltb i 16 (omega arith), le-ltb i 17 (omega arith), le-ltb i 19 l) e

pub returns-then-i-lt16 : goal.returns-then-i-lt16
returns-then-i-lt16 c = in-header _ _ _ _ _ (omega arith)

pub returns-then-i-lt17 : goal.returns-then-i-lt17
returns-then-i-lt17 c = in_block _ _ _ _ _ _ (omega arith) (omega arith) c.be_byte.ensures

pub returns-then-i-lt19 : goal.returns-then-i-lt19
returns-then-i-lt19 c = in-next _ _ _ _ _ _ (omega arith) (omega arith) c.be_byte-then-i-lt19.ensures

pub returns : goal.returns
returns c = in-position _ _ _ _ _ _ (omega arith) c.be_byte-2.ensures
