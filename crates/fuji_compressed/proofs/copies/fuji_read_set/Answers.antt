-- `fuji_compressed::copies::fuji_read_set` meets its contract. Assumes nothing.
use Rattle.fuji_compressed.proofs.copies.fuji_read_set.Goals as goal

pub returns : goal.returns
returns c =
    record { answer = c.read_set-a.result; left = c.read_set-a.ensures; told_totals = c.totals_words.ensures; told = c.counted_refusal.ensures }
