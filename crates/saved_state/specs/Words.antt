-- Promises. Answers as numbers, as a caller in C gets them that stores a state or goes on from one.
use Rattle.std.specs.Prelude.{List, ◌≡◌, ℕ}
use Rattle.image_region.specs.declared.Rect.{Rect}
use Rattle.read_block.specs.Lent.{Buffers, Outputs}
use Rattle.read_block.specs.Words.{answer_words, totals_words}
use Rattle.read_block.specs.declared.Counted.{Counted}
use Rattle.saved_state.specs.Storing.{LeftStored}
use Rattle.saved_state.specs.Resuming.{LeftResumed}

pub record ToldStored (d : List ℕ) (b n : ℕ) (before after : Outputs) (totals words : List ℕ) : Type 0 where
  pub answer : Counted
  pub left : LeftStored d b n before after answer
  pub told_totals : totals ≡ totals_words answer.totals
  pub told : words ≡ answer_words answer.answer

pub record ToldResumed (d : List ℕ) (b : ℕ) (s : List ℕ) (r : Rect) (tile : List ℕ) (before after : Buffers) (totals words : List ℕ) : Type 0 where
  pub answer : Counted
  pub left : LeftResumed d b s r tile before after answer
  pub told_totals : totals ≡ totals_words answer.totals
  pub told : words ≡ answer_words answer.answer
