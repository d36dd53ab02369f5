-- `stream_copies::write_new` meets its contract: the writers find what they ask for. Assumes nothing.
use borrow.Author.Rules.{rules}
use mathlib.Core.List.{[]}
use mathlib.Core.Path.{refl}
use Rattle.stream_copies.proofs.BlockLaws.{begins_tight, begins_lossy, left_new, tight_rows, lossy_rows, rows_tight, rows_lossy, part_long}
use Rattle.stream_copies.proofs.write_new.Goals as goal

pub returns-then-is_empty : goal.returns-then-is_empty
returns-then-is_empty c =
    let tight = tight_rows c.args.rows.now (search rules) in
    left_new [] _ _ _ _ _ _ _ (begins_tight _ c.args.h _ _ _ c.requires.ruled.1 c.requires.scratch_fits _ tight c.requires.head_value.0)
    (rows_tight c.args.h c.args.rows.now c.args.b tight)
    c.write_block.ensures

pub returns : goal.returns
returns c =
    let lossy = lossy_rows c.args.rows.now (search rules) in
    let long = c.requires.head_value.1.0 lossy in
    left_new _ _ _ _ _ _ _ _
    (begins_lossy _ c.args.h _ _ _ c.requires.ruled.1 c.requires.scratch_fits _ (part_long c.args.h c.args.rows.now c.args.b c.args.h.lines refl lossy c.requires.head_value.1.1 long) _ lossy
    c.requires.head_value.0)
    (rows_lossy c.args.h c.args.rows.now c.args.b c.args.h.lines refl lossy) c.write_lossy.ensures
