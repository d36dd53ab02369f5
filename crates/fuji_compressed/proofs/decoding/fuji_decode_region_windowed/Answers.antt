-- `fuji_compressed::decoding::fuji_decode_region_windowed` meets its contract. Assumes nothing.
use Rattle.fuji_compressed.proofs.decoding.fuji_decode_region_windowed.Goals as goal

pub returns : goal.returns
returns c =
    record { answer = c.decode_region_windowed-a.result; left = c.decode_region_windowed-a.ensures; told = c.refusal_in.ensures }
