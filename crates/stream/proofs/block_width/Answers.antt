-- `stream::block_width` meets its contract, by the two ways in which parsing ends. Assumes nothing.
use mathlib.Core.Path.{◌≡◌, sym, ◌∙◌}
use Prim.Native.Nat.{ℕ}
use Rattle.stream.specs.Headers.{width_answer}
use Rattle.stream.specs.declared.header.FujiHeader.{FujiHeader}
use Rattle.stream.specs.declared.header.Refusal.{Refusal}
use Rattle.stream.proofs.HeaderLaws.{ruled}
use Rattle.numbers.proofs.PassedLaws.{passed_on}
use Rattle.stream.proofs.block_width.Goals as goal
use Rattle.std.specs.Prelude.{Err, Ok, Result}

refused : (p : Result FujiHeader Refusal) (r : Refusal) (i : ℕ) → p ≡ Err r → Err r ≡ width_answer p i
refused p r i e = rw e

answered : (p : Result FujiHeader Refusal) (h : FujiHeader) (i : ℕ) (w : Result ℕ Refusal) → p ≡ Ok h → w ≡ width_answer (Ok h) i → w ≡ width_answer p i
answered p h i w e f = rw e f

pub columns-requires : goal.columns-requires
columns-requires c = ruled _ _ (sym c.parse.ensures ∙ c.in_ok-h.was)

pub returns-in_err-h : goal.returns-in_err-h
returns-in_err-h c = rw (passed_on _ _ c.from_residual.ensures) (refused _ _ _ (sym c.parse.ensures ∙ c.in_err-h.was))

pub returns : goal.returns
returns c =
    answered _ _ _ _ (sym c.parse.ensures ∙ c.in_ok-h.was) c.columns.ensures
