-- Promises. What calls for a sheet of short codes and for a plan of bases leave, as a caller in C gets it.
use Rattle.std.specs.Prelude.{List, ◌≡◌, ℕ, length}
use Rattle.stream.specs.Refusals.{refusal_in}
use Rattle.stream.specs.Lengths.{length_word}
use Rattle.short_codes.specs.Sheets.{listed_answer, ListAfter}
use Rattle.base_plan.specs.Plans.{planned_answer, BasesAfter}

-- what a call for a sheet leaves
pub record ToldSheet (depth k n : ℕ) (list list' count words : List ℕ) : Type 0 where
  pub count_is : count ≡ length_word (listed_answer depth k n)
  pub told : words ≡ refusal_in (listed_answer depth k n)
  pub left : ListAfter depth k n list list'

-- what a call for a plan leaves
pub record ToldPlan (header plan bases bases' words : List ℕ) : Type 0 where
  pub told : words ≡ refusal_in (planned_answer header plan (length bases))
  pub left : BasesAfter plan bases bases' (planned_answer header plan (length bases))
