-- `fuji_compressed::writer::fuji_measure_block` meets its contract. Assumes nothing.
use Rattle.fuji_compressed.proofs.writer.fuji_measure_block.Goals as goal

pub returns : goal.returns
returns c =
    record {
      answer = c.measure_block-a.result;
      left = c.measure_block-a.ensures;
      told_size = c.length_word.ensures;
      told = c.refusal_in.ensures;
    }
