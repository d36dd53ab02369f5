-- `fuji_compressed::copies::fuji_lossy_copy` meets its contract. Assumes nothing.
use Rattle.fuji_compressed.proofs.copies.fuji_lossy_copy.Goals as goal

pub returns : goal.returns
returns c =
    record {
      answer = c.lossy_copy-a.result;
      left = c.lossy_copy-a.ensures;
      told_size = c.length_word.ensures;
      told = c.refusal_in.ensures;
    }
