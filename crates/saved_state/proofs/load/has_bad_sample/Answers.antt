-- `saved_state::load::has_bad_sample` meets its contract: no sample before j is bad. Assumes nothing.
use mathlib.Core.Path.{refl, sym, ◌∙◌}
use native.Mathlib.Omega.{arith}
use Rattle.saved_state.specs.Checkpoints.{any_below}
use Rattle.saved_state.proofs.ByteLaws.{any_more, any_at, none_done}
use Rattle.saved_state.proofs.load.has_bad_sample.Goals as goal

pub loop-j-init : goal.loop-j-init
unfolding any_below
loop-j-init c = (refl, refl)

pub returns-then-is_bad_sample : goal.returns-then-is_bad_sample
returns-then-is_bad_sample c =
    sym (any_at _ _ c.loop-j.j (omega arith) (sym c.is_bad_sample.ensures ∙ c.if-is_bad_sample.true))

pub loop-j-preserved : goal.loop-j-preserved
loop-j-preserved c =
    (c.loop-j.invariant.0, any_more _ c.loop-j.j c.loop-j.invariant.1 (sym c.is_bad_sample.ensures ∙ c.if-is_bad_sample.false))

pub returns : goal.returns
returns c = sym (none_done _ c.loop-j.j _ c.loop-j.invariant.1 (omega arith))

pub overflow_mul-end : goal.overflow_mul-end
overflow_mul-end c = omega (arith, c.requires)

pub is_bad_sample-requires : goal.is_bad_sample-requires
is_bad_sample-requires c = omega (arith, c.requires)
