-- `fuji_compressed::copies::fuji_put_front` meets its contract. Assumes nothing.
use Rattle.fuji_compressed.proofs.copies.fuji_put_front.Goals as goal

pub returns : goal.returns
returns c =
    record {
      answer = c.put_front-a.result;
      left = c.put_front-a.ensures;
      told_size = c.length_word.ensures;
      told = c.refusal_in.ensures;
    }
