-- `fuji_compressed::copies::fuji_tighten` meets its contract. Assumes nothing.
use Rattle.fuji_compressed.proofs.copies.fuji_tighten.Goals as goal

pub returns : goal.returns
returns c =
    record {
      answer = c.tighten-a.result;
      left = c.tighten-a.ensures;
      told_size = c.length_word.ensures;
      told = c.refusal_in.ensures;
    }
