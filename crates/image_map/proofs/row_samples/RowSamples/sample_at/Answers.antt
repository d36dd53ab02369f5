-- `image_map::RowSamples::sample_at` meets its contract: where it reads lies in the colour lines. Assumes nothing.
use mathlib.Core.Path.{refl}
use native.Mathlib.Omega.{arith}
use Rattle.image_map.specs.Places.{width_of}
use Rattle.image_map.proofs.PlaceLaws.{width_le}
use Rattle.image_map.proofs.RowLaws.{index_lt}
use Rattle.image_map.proofs.row_samples.RowSamples.sample_at.Goals as goal

pub overflow_add-result : goal.overflow_add-result
overflow_add-result c =
    omega (arith, width_le c.args.self.now.xtrans, index_lt c.args.self.now.xtrans (width_of c.args.self.now.xtrans) c.args.self.now.starts c.args.p c.place_in.result c.args.column c.requires.0 c.args.self.now.in_lines refl c.requires.1 c.place_in.ensures)

pub offset_bounds-self-self : goal.offset_bounds-self-self
offset_bounds-self-self c =
    omega (arith, width_le c.args.self.now.xtrans, index_lt c.args.self.now.xtrans (width_of c.args.self.now.xtrans) c.args.self.now.starts c.args.p c.place_in.result c.args.column c.requires.0 c.args.self.now.in_lines refl c.requires.1 c.place_in.ensures)

pub bounds-self-self : goal.bounds-self-self
bounds-self-self c =
    omega (arith, index_lt c.args.self.now.xtrans (width_of c.args.self.now.xtrans) c.args.self.now.starts c.args.p c.place_in.result c.args.column c.requires.0 c.args.self.now.in_lines refl c.requires.1 c.place_in.ensures)

pub returns : goal.returns
returns c =
    rw (c.place_in.ensures, c.requires.0)

pub place_in-requires : goal.place_in-requires
place_in-requires c = (c.requires.1, c.args.self.now.are_places)
