-- `write_block::write_measured` meets its contract: the bits are stored at once, or a walk counts them first. Assumes nothing.
use mathlib.Core.Bool.{false, false≢true}
use mathlib.Core.Path.{◌≡◌, refl, sym, ◌∙◌}
use native.Mathlib.Omega.{arith}
use lib.ListN.{length}
use Rattle.write_block.specs.WriterParts.{Storable}
use Rattle.write_block.proofs.AnswerLaws.{next_answer, next_store, stored_answer}
use Rattle.write_block.proofs.write_measured.Goals as goal
use Rattle.write_block.proofs.write_measured.Goals.{In-Store, Then-is_sure}

-- nothing can be refused any more
sure : (c : Then-is_sure) →
    (c.args.measure ≡ false) × Storable c.args.form c.args.bases.now c.args.count c.args.samples.now (length c.args.out.now)
sure c = c.is_sure.ensures c.if-is_sure.true

-- the set's bits were counted, and are to be stored
counted : (c : In-Store) →
    (c.args.measure ≡ false) × Storable c.args.form c.args.bases.now c.args.count c.args.samples.now (length c.write_walk-counted.new.out)
    × (c.write_walk-counted.new.out ≡ c.args.out.now)
counted c =
    next_store _ _ _ _ _ _ _ _ _ c.write_walk-counted.ensures.set_written (sym c.after_counting-next.ensures ∙ c.in-Store.is)

pub is_sure-requires : goal.is_sure-requires
is_sure-requires c = record {
  count_bound = c.requires.count_bound;
  depth = (c.requires.depth.0, c.requires.depth.1.0);
}

pub write_stored-requires : goal.write_stored-requires
write_stored-requires c =
    record {
      count_bound = c.requires.count_bound;
      depth = (c.requires.depth.0, (omega (arith, c.is_sure.auto, c.requires.depth.1.0), c.requires.depth.1.1));
      storable = (sure (goal.at.write_stored-requires c).Then-is_sure).1;
    }

pub write_walk-counted-requires : goal.write_walk-counted-requires
write_walk-counted-requires c =
    record {
      count_bound = c.requires.count_bound;
      depth = (c.requires.depth.0, (omega (arith, c.is_sure.auto, c.requires.depth.1.0), c.requires.depth.1.1));
      room = λ e. absurd (false≢true e);
    }

pub write_stored-requires-in-Store : goal.write_stored-requires-in-Store
write_stored-requires-in-Store c =
    record {
      count_bound = c.requires.count_bound;
      depth = (c.requires.depth.0, (omega (arith, c.write_walk-counted.auto, c.is_sure.auto, c.requires.depth.1.0), omega (arith, c.write_walk-counted.auto, c.requires.depth.1.1)));
      storable = (counted (goal.at.write_stored-requires-in-Store c).In-Store).1;
    }

pub returns-then-is_sure : goal.returns-then-is_sure
returns-then-is_sure c =
    let s = sure (goal.at.returns-then-is_sure c).Then-is_sure in
    record {
      fact = stored_answer _ _ _ _ _ _ _ _ _ s.0 refl s.1 c.write_stored.ensures.stored;
      lines_after = c.write_stored.ensures.lines_after;
    }

pub returns-in-Answer : goal.returns-in-Answer
returns-in-Answer c =
    record {
      fact = next_answer _ _ _ _ _ _ _ _ _ c.write_walk-counted.ensures.set_written (sym c.after_counting-next.ensures ∙ c.in-Answer.is);
      lines_after = c.write_walk-counted.ensures.lines_after;
    }

pub returns-in-Store : goal.returns-in-Store
returns-in-Store c =
    let s = counted (goal.at.returns-in-Store c).In-Store in
    record {
      fact = stored_answer _ _ _ _ _ _ _ _ _ s.0 s.2 s.1 c.write_stored-in-Store.ensures.stored;
      lines_after = c.write_stored-in-Store.ensures.lines_after;
    }
