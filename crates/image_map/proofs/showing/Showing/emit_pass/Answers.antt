-- `image_map::Showing::emit_pass` meets its contract. Assumes nothing.
use native.Mathlib.Omega.{arith}
use Rattle.image_map.proofs.PartLaws.{fits_kept}
use Rattle.image_map.proofs.WindowLaws.{pass_put}
use Rattle.image_map.proofs.showing.Showing.emit_pass.Goals as goal

pub emit_colour-requires-2 : goal.emit_colour-requires-2
emit_colour-requires-2 c =
    record {
      n_bound = (c.requires.n_bound.0, c.requires.second_slot_bound);
      fits = fits_kept _ _ _ c.emit_colour.ensures.kept c.requires.fits;
    }

pub returns : goal.returns
returns c = pass_put _ _ _ _ _ _ _ _ _ _ _ _ _ c.emit_colour.ensures c.emit_colour-2.ensures

pub shape_of-image : goal.shape_of-image
shape_of-image c = omega
    (arith, c.requires)
