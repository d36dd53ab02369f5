-- `cameras::entry_words::words_of` meets its contract: the words of all entries. Assumes nothing.
use mathlib.Core.Path.{◌≡◌}
use mathlib.Core.List.{List}
use Prim.Native.Nat.{ℕ, ◌/◌, ◌%◌}
use lib.ListN.{length, get_or}
use Rattle.numbers.proofs.FillLaws.{NewTo}
use Rattle.cameras.specs.Entries.{entry_at}
use Rattle.cameras.specs.Words.{words_of}
use Rattle.cameras.specs.declared.Entry.{Entry}
use Rattle.cameras.proofs.entry_words.words_of.Given as goal

abbrev pub word : List Entry → ℕ → ℕ
word l j = get_or (words_of (entry_at l (j / 8))) (j % 8) 0

abbrev pub invariant-loop-k : goal.invariant-loop-k
invariant-loop-k l = (length l.words ≡ 128) × NewTo (word l.entries.all) l.k l.initial.words l.words
