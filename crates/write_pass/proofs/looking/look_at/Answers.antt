-- `write_pass::looking::look_at` meets its contract: a sample with a code is right, and an interpolated one if it is its prediction. Assumes nothing.
use mathlib.Core.Bool.{false≢true}
use mathlib.Core.Path.{sym, ap, ◌∙◌}
use Rattle.prediction.specs.declared.Context.{Context}
use Rattle.pass_steps.proofs.ContextLaws.{context_is}
use Rattle.write_pass.proofs.LookLaws.{sample_looked}
use Rattle.write_pass.proofs.looking.look_at.Goals as goal
use Rattle.write_pass.proofs.looking.look_at.Goals.{then-not-coded+else-from-x, else-not-coded}

pub returns-then-from-x : goal.returns-then-from-x
returns-then-from-x c e = absurd (false≢true e)

pub returns : goal.returns
returns c e =
    sample_looked c.args.w c.args.samples.now c.args.n c.args.line c.args.p c.args.coded c.args.lines.now _ _ c.left_of-i.ensures.0 c.index_in-j.ensures.0
    (λ f. elim c.if-not-coded.branch [
      | then-not-coded+else-from-x w ↦
          sym w.from.ensures ∙ (w.if-from-x.false ∙ ap (λ (x : Context). x.prediction) (context_is _ _ _ _ c.requires.w_bound.1.1.1.0 c.left_of-i.ensures.0 w.context_at-x.ensures.0))
      | else-not-coded w ↦ absurd (false≢true (sym f ∙ w.if-not-coded.false))
    ])
