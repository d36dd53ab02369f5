-- `cameras::entry_words::words_of` meets its contract: the words of all entries. Assumes nothing.
use Rattle.std.proofs.Common.{◌∙◌, refl, replicate, arith}
use borrow.Author.Tests.{lt-ltb}
use lib.ListN.{length-set}
use Rattle.numbers.proofs.FillLaws.{new_none, new_more}
use Rattle.cameras.proofs.entry_words.words_of.Invariants.{word}
use Rattle.cameras.proofs.entry_words.words_of.Goals as goal

pub loop-k-init : goal.loop-k-init
loop-k-init c = (refl, new_none (word c.args.entries.all) (replicate 128 0))

pub loop-k-preserved : goal.loop-k-preserved
loop-k-preserved c =
    (rw length-set c.loop-k.invariant.0, new_more (word c.args.entries.all) (replicate 128 0) c.loop-k.words c.loop-k.k c.word_of.result (omega (arith, c.loop-k.invariant.0)) c.word_of.ensures c.loop-k.invariant.1)

pub returns : goal.returns
returns c k low = c.loop-k.invariant.1 k ∙ rw (lt-ltb k c.loop-k.k (omega arith))
