-- `fuji_compressed::checkpoints::fuji_resume_region` meets its contract. Assumes nothing.
use Rattle.fuji_compressed.proofs.checkpoints.fuji_resume_region.Goals as goal

pub returns : goal.returns
returns c =
    record {
      answer = c.resume_region-a.result;
      left = c.resume_region-a.ensures;
      told_totals = c.totals_words.ensures;
      told = c.counted_refusal.ensures;
    }
