-- Promises. Refusal 12: the sample that it names is the first in coding order, by the set's own samples, that differs from its prediction.
use Rattle.std.specs.Prelude.{true, List, [], ◌∷◌, ◌++◌, ◌≢◌, ◌≡◌, ℕ, ◌<◌, get_or, Err}
use Rattle.pass_schedule.specs.Steps.{Step, plan_of, pass_steps, is_interpolated}
use Rattle.image_map.specs.Places.{width_of}
use Rattle.colour_lines.specs.Sets.{index_in}
use Rattle.stream.specs.declared.header.Refusal.TheVariants.{NotPredicted}
use Rattle.read_block.specs.declared.Form.{Form}
use Rattle.write_block.specs.WrittenAnswers.{written_answer}
use Rattle.theorem_one_to_one.specs.PredictedSets.{prediction_in}

-- the steps of a pass, in coding order
abbrev pub steps_of : Form → (pass : ℕ) → List Step
steps_of F pass = pass_steps (width_of F.xtrans) (plan_of F.xtrans pass)

-- each of these steps of line n that is interpolated has its prediction
unfoldable pub AllPredicted : Form → (t : List ℕ) (n : ℕ) → List Step → Type 0
AllPredicted F t n [] = Unit {0}
AllPredicted F t n (x ∷ l) =
    (is_interpolated F.xtrans x.line x.position ≡ true
    → get_or t (index_in (width_of F.xtrans) n x.line x.position) 0 ≡ prediction_in (width_of F.xtrans) t n x.line x.position)
    × AllPredicted F t n l

-- index j of the set t is such a first one
pub record FirstWrong (F : Form) (lines : ℕ) (t : List ℕ) (j : ℕ) : Type 0 where
  -- it is a step of a pass of a line
  pub line : ℕ
  pub line_lt : line < lines
  pub pass : ℕ
  pub pass_lt : pass < 6
  pub before : List Step
  pub step : Step
  pub after : List Step
  pub order : steps_of F pass ≡ before ++ step ∷ after
  pub index : j ≡ index_in (width_of F.xtrans) line step.line step.position
  -- that is interpolated, and differs from its prediction
  pub interpolated : is_interpolated F.xtrans step.line step.position ≡ true
  pub differs : get_or t j 0 ≢ prediction_in (width_of F.xtrans) t line step.line step.position
  -- and every interpolated one before it in coding order has its prediction
  pub lines_before : (n i : ℕ) → n < line → i < 6 → AllPredicted F t n (steps_of F i)
  pub passes_before : (i : ℕ) → i < pass → AllPredicted F t line (steps_of F i)
  pub steps_before : AllPredicted F t line before

abbrev pub NamesFirstWrong : Type 0
NamesFirstWrong =
    (F : Form) (lines : ℕ) (t : List ℕ) (room j : ℕ) → written_answer F lines t room ≡ Err (NotPredicted j) → FirstWrong F lines t j
