-- Promises. What a call of `read_set` from C leaves: what the same call leaves here, with the totals and a refusal's words.
use Rattle.std.specs.Prelude.{List, ◌≡◌, ℕ, length}
use Rattle.read_block.specs.Words.{answer_words, totals_words}
use Rattle.read_block.specs.declared.Counted.{Counted}
use Rattle.read_set.specs.HandedSets.{Sets, set_begins, LeftSet}

pub record ToldSet (d : List ℕ) (b : ℕ) (before after : Sets) (totals words : List ℕ) : Type 0 where
  pub answer : Counted
  pub left : LeftSet d b (set_begins d b (length before.set) (length before.lines) (length before.records)) before after answer
  pub told_totals : totals ≡ totals_words answer.totals
  pub told : words ≡ answer_words answer.answer
