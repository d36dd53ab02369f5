-- `fuji_compressed::checkpoints::fuji_store_checkpoint` meets its contract. Assumes nothing.
use Rattle.fuji_compressed.proofs.checkpoints.fuji_store_checkpoint.Goals as goal

pub returns : goal.returns
returns c =
    record {
      answer = c.store_checkpoint-a.result;
      left = c.store_checkpoint-a.ensures;
      told_totals = c.totals_words.ensures;
      told = c.counted_refusal.ensures;
    }
