-- `stream::first_short` meets its contract. The invariant: the search from b on gives what the search from 0 on gives. Assumes nothing.
use Rattle.std.proofs.Common.{arith, true, false, ◌≡◌, sym, ◌∙◌, ℕ, ◌+◌, ◌-◌, ◌<◌, List, length}
use lib.Dec.{ltb}
use Rattle.numbers.proofs.LeastLaws.{least_last, least_here, least_next}
use Rattle.stream.specs.Streams.{row_length, row_start, is_short, first_short}
use Rattle.stream.specs.declared.header.FujiHeader.{FujiHeader}
use Rattle.stream.proofs.first_short.Invariants.{shortFrom}
use Rattle.stream.proofs.first_short.Goals as goal

module _ (d : List ℕ) (h : FujiHeader) (b at row : ℕ) (ea : at ≡ row_start h b) (er : row ≡ row_length h) (inv : first_short d h ≡ shortFrom d h b) where
  here : ltb (length d) (at + row) ≡ true → b ≡ first_short d h
  here l = sym (inv ∙ least_here (h.blocks - b) (λ i. is_short d h i) b (rw (← ea, ← er) l))

  next : b < h.blocks → ltb (length d) (at + row) ≡ false → first_short d h ≡ shortFrom d h (b + 1)
  next k l =
      let e : h.blocks - b - 1 ≡ h.blocks - (b + 1) = omega arith in
      inv ∙ least_next (h.blocks - b) (λ i. is_short d h i) b (omega arith) (rw (← ea, ← er) l) ∙ rw e

pub loop-b-init : goal.loop-b-init
unfolding first_short
loop-b-init c = let e : c.args.h.blocks - 0 ≡ c.args.h.blocks = omega arith in rw e

pub returns-then-ends_past : goal.returns-then-ends_past
returns-then-ends_past c =
    (here _ _ _ _ _ c.row_start.ensures.0 c.row_length-row.ensures.0 c.loop-b.invariant (sym c.ends_past.ensures ∙ c.if-ends_past.true), omega arith)

pub loop-b-preserved : goal.loop-b-preserved
loop-b-preserved c =
    next _ _ _ _ _ c.row_start.ensures.0 c.row_length-row.ensures.0 c.loop-b.invariant (omega arith) (sym c.ends_past.ensures ∙ c.if-ends_past.false)

pub returns : goal.returns
returns c = let e = c.loop-b.invariant ∙ least_last _ _ _ (omega arith) in omega arith
