-- `fuji_compressed::reading::fuji_read_tight` meets its contract. Assumes nothing.
use Rattle.fuji_compressed.proofs.reading.fuji_read_tight.Goals as goal

pub returns : goal.returns
returns c =
    record { answer = c.read_tight-a.result; left = c.read_tight-a.ensures; told_totals = c.totals_words.ensures; told = c.counted_refusal.ensures }
