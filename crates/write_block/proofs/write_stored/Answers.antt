-- `write_block::write_stored` meets its contract: a walk that stores, and the filling behind its bits. Assumes nothing.
use native.Mathlib.Omega.{arith}
use Rattle.write_block.proofs.AnswerLaws.{store_room, never_wrong, tail_room, stored}
use Rattle.write_block.proofs.write_stored.Goals as goal

pub write_walk-done-requires : goal.write_walk-done-requires
write_walk-done-requires c =
    record {
      count_bound = c.requires.count_bound;
      depth = c.requires.depth;
      room = store_room _ _ _ _ c.args.out.now c.requires.storable;
    }

pub fill_tail-requires : goal.fill_tail-requires
fill_tail-requires c =
    omega (
      arith,
      c.write_walk-done.auto,
      tail_room _ _ _ _ _ c.requires.storable _ _ c.write_walk-done.ensures.set_written _ c.in-Ok.is,
    )

pub returns-in-Err : goal.returns-in-Err
returns-in-Err c = never_wrong _ _ _ _ _ c.requires.storable _ _ c.write_walk-done.ensures.set_written _ c.in-Err.is

pub returns-in-Ok : goal.returns-in-Ok
returns-in-Ok c =
    record {
      stored = stored _ _ _ _ _ c.requires.storable _ _ c.write_walk-done.ensures.set_written _ c.in-Ok.is _ c.fill_tail.ensures _
          c.block_bytes.ensures;
      lines_after = c.write_walk-done.ensures.lines_after;
    }
