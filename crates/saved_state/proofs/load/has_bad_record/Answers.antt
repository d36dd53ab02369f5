-- `saved_state::load::has_bad_record` meets its contract: no record before j is bad. Assumes nothing.
use mathlib.Core.Path.{refl, sym, ◌∙◌}
use native.Mathlib.Omega.{arith}
use Rattle.saved_state.specs.Checkpoints.{any_below}
use Rattle.saved_state.proofs.ByteLaws.{any_more, any_at, none_done}
use Rattle.saved_state.proofs.load.has_bad_record.Goals as goal

pub loop-j-init : goal.loop-j-init
unfolding any_below
loop-j-init c = (refl)

pub returns-then-is_bad_record : goal.returns-then-is_bad_record
returns-then-is_bad_record c =
    sym (any_at _ 336 c.loop-j.j (omega arith) (sym c.is_bad_record.ensures ∙ c.if-is_bad_record.true))

pub loop-j-preserved : goal.loop-j-preserved
loop-j-preserved c =
    (any_more _ c.loop-j.j c.loop-j.invariant (sym c.is_bad_record.ensures ∙ c.if-is_bad_record.false))

pub returns : goal.returns
returns c = sym (none_done _ c.loop-j.j 336 c.loop-j.invariant (omega arith))

pub is_bad_record-requires : goal.is_bad_record-requires
is_bad_record-requires c = omega (arith, c.requires)
