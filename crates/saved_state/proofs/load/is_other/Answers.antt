-- `saved_state::load::is_other` meets its contract. Assumes nothing.
use mathlib.Core.Bool.{true, false, not}
use mathlib.Core.List.{List}
use mathlib.Core.Path.{◌≡◌, sym, ◌∙◌}
use Prim.Native.Nat.{ℕ}
use lib.Dec.{eqb}
use lib.ListN.{get_or}
use Rattle.saved_state.specs.Checkpoints.{any_below, other_checkpoint}
use Rattle.saved_state.proofs.load.is_other.Goals as goal

module _ (d : List ℕ) (block : ℕ) (s : List ℕ) where
  other-header : any_below 16 (λ i. not (eqb (get_or s i 0) (get_or d i 0))) ≡ true → true ≡ other_checkpoint d block s
  unfolding other_checkpoint
  other-header e = rw e

  by-block : (b : ℕ) → any_below 16 (λ i. not (eqb (get_or s i 0) (get_or d i 0))) ≡ false → b ≡ get_or s 16 0 → not (eqb b block) ≡ other_checkpoint d block s
  unfolding other_checkpoint
  by-block b e f = rw (e, f)

pub returns-then-has_other_header : goal.returns-then-has_other_header
returns-then-has_other_header c = other-header _ _ _ (sym c.has_other_header.ensures ∙ c.if-has_other_header.true)

pub returns : goal.returns
returns c = by-block _ _ _ _ (sym c.has_other_header.ensures ∙ c.if-has_other_header.false) c.from.ensures
