-- `base_plan::plan_bases` meets its contract. Assumes nothing.
use mathlib.Core.List.{List}
use mathlib.Core.Path.{◌≡◌, refl, sym, ◌∙◌}
use Prim.Native.Nat.{ℕ}
use lib.ListN.{length}
use Rattle.stream.specs.Headers.{parse_of}
use Rattle.stream.proofs.HeaderLaws.{ruled}
use Rattle.base_plan.specs.Plans.{answer_in, planned_answer}
use Rattle.base_plan.proofs.AnswerLaws.{unchanged}
use Rattle.numbers.proofs.PassedLaws.{passed_on}
use Rattle.base_plan.proofs.plan_bases.Goals as goal
use Rattle.std.specs.Prelude.{Result}
use Rattle.stream.specs.declared.header.FujiHeader.{FujiHeader}
use Rattle.stream.specs.declared.header.Refusal.{Refusal}

-- the answer for what the header gave
of_parsed : (header d : List ℕ) (room : ℕ) (p q : Result FujiHeader Refusal) (r : Result Unit Refusal) → p ≡ parse_of header → p ≡ q → r ≡ answer_in d room q → r ≡ planned_answer header d room
unfolding planned_answer
of_parsed header d room p q r e f g = g ∙ rw (← f, e)

pub plan_in-requires : goal.plan_in-requires
plan_in-requires c =
    (ruled _ _ (sym c.parse.ensures ∙ c.in_ok-h.was)).lines_high

pub returns-in_err-h : goal.returns-in_err-h
returns-in_err-h c = rw (passed_on _ _ c.from_residual.ensures) (record {
  answer = of_parsed c.args.header.now c.args.plan.now (length c.args.bases.now) _ _ _ c.parse.ensures c.in_err-h.was refl;
  bases = unchanged c.args.plan.now c.args.bases.now _;
})

pub returns : goal.returns
returns c =
    record {
      answer = of_parsed c.args.header.now c.args.plan.now (length c.args.bases.now) _ _ _ c.parse.ensures c.in_ok-h.was c.plan_in.ensures.answer;
      bases = c.plan_in.ensures.bases;
    }
