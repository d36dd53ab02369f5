-- `image_map::xtrans_places` meets its contract: the table's rule is one test over its 768 entries, which antt computes. Assumes nothing.
use Rattle.image_map.specs.Places.{xtrans_place}
use Rattle.image_map.specs.declared.places.TheConstants.{XTRANS_PLACES}
use Rattle.numbers.proofs.TableLaws.{at_each}
use Rattle.image_map.proofs.xtrans_places.Goals as goal

pub returns : goal.returns
unfolding xtrans_place
returns c = at_each xtrans_place XTRANS_PLACES tt
