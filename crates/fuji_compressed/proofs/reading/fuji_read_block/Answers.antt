-- `fuji_compressed::reading::fuji_read_block` meets its contract. Assumes nothing.
use Rattle.fuji_compressed.proofs.reading.fuji_read_block.Goals as goal

pub returns : goal.returns
returns c =
    record { answer = c.read_block-a.result; left = c.read_block-a.ensures; told_totals = c.totals_words.ensures; told = c.counted_refusal.ensures }
