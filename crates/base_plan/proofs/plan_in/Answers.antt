-- `base_plan::plan_in` meets its contract. Assumes nothing.
use borrow.Author.Tests.{eq-eqb, ne_eqb}
use mathlib.Core.Bool.{true, false}
use mathlib.Core.List.{List}
use mathlib.Core.Path.{◌≡◌, ◌∙◌}
use Prim.Native.Nat.{ℕ}
use lib.ListN.{length}
use Rattle.stream.specs.declared.header.FujiHeader.{FujiHeader}
use Rattle.stream.specs.declared.header.Refusal.TheVariants.{Lossless, WrongBases}
use Rattle.base_plan.specs.Plans.{plan_answer, answer_in, BasesAfter}
use Rattle.base_plan.proofs.AnswerLaws.{unchanged}
use Rattle.base_plan.proofs.plan_in.Goals as goal
use Rattle.std.specs.Prelude.{Err, Ok, Result}
use Rattle.stream.specs.declared.header.Refusal.{Refusal}

module _ (h : FujiHeader) (d bases : List ℕ) where
  abbrev Promised : Result Unit Refusal → List ℕ → Type 0
  Promised r bases' = (r ≡ answer_in d (length bases) (Ok h)) × BasesAfter d bases bases' r

  lossless : h.lossless ≡ true → Promised (Err Lossless) bases
  lossless e = (rw e, unchanged d bases Lossless)

  module _ (e : h.lossless ≡ false) where
    planned : length bases ≡ h.lines → (r : Result Unit Refusal) (bases' : List ℕ) → r ≡ plan_answer d (length bases) → BasesAfter d bases bases' r → Promised r bases'
    planned f r bases' is after = (is ∙ rw (e, eq-eqb (length bases) h.lines f, f), after)

    wrong : (length bases ≡ h.lines → ⊥) → Promised (Err WrongBases) bases
    wrong f = (rw (e, ne_eqb (length bases) h.lines f), unchanged d bases WrongBases)

pub returns-then-lossless : goal.returns-then-lossless
returns-then-lossless c = record {
  answer = (lossless c.args.h c.args.d.now c.args.bases.now c.if-lossless.true).0;
  bases = (lossless c.args.h c.args.d.now c.args.bases.now c.if-lossless.true).1;
}

pub returns-then-bases-lines : goal.returns-then-bases-lines
returns-then-bases-lines c =
    record {
      answer = (planned c.args.h c.args.d.now c.args.bases.now c.if-lossless.false c.if-bases-lines.true _ _ c.plan_lines.ensures.answer c.plan_lines.ensures.bases).0;
      bases = (planned c.args.h c.args.d.now c.args.bases.now c.if-lossless.false c.if-bases-lines.true _ _ c.plan_lines.ensures.answer c.plan_lines.ensures.bases).1;
    }

pub returns : goal.returns
returns c =
    record {
      answer = (wrong c.args.h c.args.d.now c.args.bases.now c.if-lossless.false c.if-bases-lines.false).0;
      bases = (wrong c.args.h c.args.d.now c.args.bases.now c.if-lossless.false c.if-bases-lines.false).1;
    }
