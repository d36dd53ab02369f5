-- `write_pass::lossy_as` meets its contract. Assumes nothing.
use Rattle.write_pass.proofs.ChosenLaws.{look_total, coded_is}
use Rattle.write_pass.proofs.lossy_as.Goals as goal

pub choose_code-c-requires : goal.choose_code-c-requires
choose_code-c-requires c =
    record {
      depth = (c.requires.depth, (c.look_of-h.ensures.1.1.0, look_total _ _ _ c.look_of-h.result c.look_of-h.ensures.0 c.look_of-h.ensures.1.0 _ c.requires.quantisers));
      prediction_bound = (c.requires.prediction, c.requires.wanted);
    }

pub returns : goal.returns
returns c =
    coded_is _ _ _ c.look_of-h.result c.look_of-h.ensures.0 c.look_of-h.ensures.1.0 _ c.requires.quantisers _ _ _ _ _ c.slot_of.ensures (c.choose_code-c.ensures.code_value, c.choose_code-c.ensures.value_value)
