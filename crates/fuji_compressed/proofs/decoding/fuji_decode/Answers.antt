-- `fuji_compressed::decoding::fuji_decode` meets its contract. Assumes nothing.
use Rattle.fuji_compressed.proofs.decoding.fuji_decode.Goals as goal

pub returns : goal.returns
returns c =
    record { answer = c.decode-a.result; left = c.decode-a.ensures; told = c.refusal_in.ensures }
