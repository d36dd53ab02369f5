-- `read_set::read_kept` meets its contract: n lines have been read, and stand in the set. Assumes nothing.
use borrow.Author.Rules.{rules}
use mathlib.Core.Path.{refl, ap, ◌∙◌}
use Prim.Native.Nat.{ℕ}
use native.Mathlib.Omega.{arith}
use Rattle.read_block.specs.Records.{start_records}
use Rattle.read_set.proofs.KeptLaws.{kept_none, kept_more, kept_cut, kept_all, state_few}
use Rattle.read_set.proofs.RecordLaws.{records_whole}
use Rattle.read_set.proofs.read_kept.Goals as goal

pub loop-n-init : goal.loop-n-init
loop-n-init c = (
  omega (arith, c.clear.auto, c.requires.block_len_bound.1.0),
  omega (arith, c.start_records.auto, c.requires.block_len_bound.1.1),
  refl,
  omega arith,
  search rules,
  kept_none c.args.form c.args.bases.now c.args.block.now c.args.set.now _ _ _ _ _ (c.clear.ensures ∙ rw c.requires.block_len_bound.1.0)
      (c.start_records.ensures ∙ ap (λ (q : ℕ). start_records c.args.form.bits q) c.base_of.ensures.0)
      c.start_place-place.ensures c.none.ensures c.none-all.ensures,
)

pub read_lines-got-requires-clause-all_in_range : goal.read_lines-got-requires-clause-all_in_range
read_lines-got-requires-clause-all_in_range c = (
  (records_whole c.args.form c.requires.depth.0.1 c.args.block.now c.args.bases.now c.loop-n.n _ c.loop-n.invariant.5.read).1,
  (
    state_few c.args.form c.args.bases.now c.args.block.now c.args.set.now c.requires.depth.0.1 c.loop-n.n _ c.loop-n.invariant.5.read,
    (c.loop-n.lines, c.loop-n.invariant.0, refl),
  ),
)

-- what one line gave
pub returns-in_default : goal.returns-in_default
returns-in_default c =
    record {
      walked = (kept_cut c.args.form c.args.bases.now c.args.block.now c.args.set.now c.requires.depth.0.1 c.args.count c.loop-n.n
          (omega arith) c.requires.depth.1.1 _ _ _ _ _ _ c.loop-n.invariant.5 _ _
          (c.read_lines-got.ensures c.loop-n.lines c.loop-n.invariant.0 refl).0 _ _ c.in_default.is).0;
      set_after = (kept_cut c.args.form c.args.bases.now c.args.block.now c.args.set.now c.requires.depth.0.1 c.args.count c.loop-n.n
          (omega arith) c.requires.depth.1.1 _ _ _ _ _ _ c.loop-n.invariant.5 _ _
          (c.read_lines-got.ensures c.loop-n.lines c.loop-n.invariant.0 refl).0 _ _ c.in_default.is).1;
    }

pub loop-n-preserved : goal.loop-n-preserved
loop-n-preserved c = (
  omega (arith, c.read_lines-got.auto, c.loop-n.invariant.0),
  omega (arith, c.read_lines-got.auto, c.loop-n.invariant.1),
  omega (arith, c.keep_line.auto, c.loop-n.invariant.2),
  c.with_line-tight.ensures.1,
  omega (arith, c.read_lines-got.auto, c.loop-n.invariant.4),
  kept_more c.args.form c.args.bases.now c.args.block.now c.args.set.now c.requires.depth.0.1 c.args.count c.loop-n.n
      (omega arith) c.requires.depth.1.1 _ _ _ _ _ _ c.loop-n.invariant.5 _ _
      (c.read_lines-got.ensures c.loop-n.lines c.loop-n.invariant.0 refl).0 _ _ c.in-Ok.is
      _ c.next_place-place.ensures _ c.with_line-tight.ensures.0 _ c.width-w.ensures _ c.keep_line.ensures,
)

pub returns : goal.returns
returns c =
    record {
      walked = (kept_all c.args.form c.args.bases.now c.args.block.now c.args.set.now c.args.count c.loop-n.n
          (omega arith) _ _ _ _ _ _
          c.loop-n.invariant.5).0;
      set_after = (kept_all c.args.form c.args.bases.now c.args.block.now c.args.set.now c.args.count c.loop-n.n
          (omega arith) _ _ _ _ _ _
          c.loop-n.invariant.5).1;
    }
