-- `fuji_compressed::writer::fuji_write_lossy` meets its contract. Assumes nothing.
use Rattle.fuji_compressed.proofs.writer.fuji_write_lossy.Goals as goal

pub returns : goal.returns
returns c =
    record {
      answer = c.write_lossy-a.result;
      left = c.write_lossy-a.ensures;
      told_size = c.length_word.ensures;
      told = c.refusal_in.ensures;
    }
