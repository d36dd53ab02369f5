-- `pass_steps::ks_of` meets its contract: the ks of the records before j are there. Assumes nothing.
use borrow.Author.Rules.{rules}
use mathlib.Core.Path.{ap, ◌∙◌}
use native.Mathlib.Omega.{arith}
use Rattle.statistics.specs.Statistics.{k_of}
use Rattle.pass_steps.proofs.KLaws.{zeros, one_more_k, one_more_zero, ks_named}
use Rattle.pass_steps.proofs.ks_of.Goals as goal
use Rattle.pass_steps.proofs.ks_of.Goals.{then-t, else-t}

pub loop-j-init : goal.loop-j-init
loop-j-init c = record { all = search rules; each = λ j h. absurd (omega arith); rest = λ j h. zeros 112 j }

pub loop-j-preserved : goal.loop-j-preserved
loop-j-preserved c =
    elim c.if-t.branch [
      | then-t w ↦ ks_named w.ks-is (one_more_k c.loop-j.invariant c.loop-j-test.true (w.k_by_lengths.ensures.0 ∙ ap k_of c.record_at-t.ensures.0))
      | else-t w ↦ ks_named w.ks-is (one_more_zero c.record_at-t.result c.loop-j.invariant c.record_at-t.ensures.0 c.record_at-t.ensures.1.some w.if-t.false)
    ]
