-- `read_block::reading::emit_pass_at` meets its contract: the lines are those of the plan. Assumes nothing.
use mathlib.Core.Bool.{true}
use mathlib.Core.Path.{refl}
use Rattle.read_block.proofs.LineLaws.{planned_in}
use Rattle.read_block.proofs.reading.emit_pass_at.Goals as goal

pub emit_pass-requires : goal.emit_pass-requires
emit_pass-requires c =
    let t =
    planned_in true c.args.showing.now.xtrans c.args.i _ _ _ _ c.requires.n_bound.1.0 c.plan_at-p.ensures c.window_plan-h.ensures refl
    c.requires.n_bound.1.1 in
    record {
      n_bound = (c.requires.n_bound.0, (t.0.first_high, t.1));
      second_slot_bound = (t.0.second_high, t.2);
      fits = c.requires.fits;
    }

pub returns : goal.returns
returns c =
    rw (← c.plan_at-p.ensures, ← c.window_plan-h.ensures) c.emit_pass.ensures
