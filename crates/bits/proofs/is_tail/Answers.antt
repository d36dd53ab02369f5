-- `bits::is_tail` meets its contract: no one bit is left exactly where all bits to the end are 0. Assumes nothing.
use borrow.Author.Tests.{ne_eqb, eq-eqb}
use Rattle.std.proofs.Common.{◌≡◌, ℕ, ◌*◌, ◌-◌, List, length, sym, ◌∙◌, false, arith}
use Rattle.std.specs.Prelude.{Option, Some, None, is_none}
use Rattle.bits.specs.Bits.{bits_at, zero_run}
use Rattle.bits.specs.BitLists.{block_bytes, is_tail}
use Rattle.bits.proofs.RunLaws.{none_is, one_is}
use Rattle.bits.proofs.is_tail.Goals as goal

other_length : (s : List ℕ) (at n : ℕ) → n ≡ block_bytes at → (length s ≡ n → ⊥) → false ≡ is_tail s at
unfolding is_tail
other_length s at n e ne = rw (ne_eqb (length s) (block_bytes at) (λ q. ne (q ∙ sym e)))

module _ (s : List ℕ) (at n : ℕ) (e : n ≡ block_bytes at) (same : length s ≡ n) where
  ends : (r : Option ℕ) → r ≡ zero_run s at → is_none r ≡ is_tail s at
  unfolding is_tail
  ends (Some z) run = rw (eq-eqb (length s) (block_bytes at) (same ∙ e), ne_eqb (bits_at s at (8 * length s - at)) 0 (one_is s at z (sym run)))
  ends None run = rw (eq-eqb (length s) (block_bytes at) (same ∙ e), eq-eqb (bits_at s at (8 * length s - at)) 0 (none_is s at (sym run)))

pub returns-then-s-block_bytes : goal.returns-then-s-block_bytes
returns-then-s-block_bytes c = other_length _ _ _ c.block_bytes.ensures c.if-s-block_bytes.true

pub returns : goal.returns
returns c = let e = ends _ _ _ c.block_bytes.ensures c.if-s-block_bytes.false _ c.zero_run.ensures in grind (arith, e)
