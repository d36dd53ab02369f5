-- `write_block::write_walk` meets its contract: scratch is cleared behind the lines. Assumes nothing.
use mathlib.Core.Path.{◌≡◌, ap, ◌∙◌}
use Prim.Native.Nat.{ℕ, ◌+◌, ◌*◌}
use native.Mathlib.Omega.{arith}
use lib.ListN.{length, replicate}
use Rattle.image_map.specs.Places.{width_of}
use Rattle.write_block.proofs.write_walk.Goals as goal

pub write_lines-done-requires : goal.write_lines-done-requires
write_lines-done-requires c = record {
  count_bound = c.requires.count_bound;
  depth = c.requires.depth;
  room = c.requires.room;
}

pub returns : goal.returns
returns c =
    let e : length c.write_lines-done.new.lines ≡ 18 * (width_of c.args.form.xtrans + 2) = omega (arith, c.write_lines-done.auto, c.requires.depth.1.0) in
    record {
      set_written = c.write_lines-done.ensures;
      lines_after = (c.clear.ensures ∙ ap (λ (n : ℕ). replicate n 0) e, c.clear_records.ensures);
    }
