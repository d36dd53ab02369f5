-- `tight_diagnosis::trace::start` meets its contract: the records before j have started. Assumes nothing.
use borrow.Author.Rules.{rules}
use mathlib.Core.Path.{◌≡◌, refl, sym, ◌∙◌}
use native.Mathlib.Omega.{arith}
use lib.ListN.{length}
use Rattle.pass_steps.specs.Values.{zip_records}
use Rattle.pass_steps.proofs.ZipLaws.{zip_length, zip_set}
use Rattle.read_block.specs.Records.{table, start_records}
use Rattle.read_block.proofs.TableLaws.{fill_more, fill_done}
use Rattle.tight_diagnosis.proofs.trace.start.Goals as goal

pub loop-j-init : goal.loop-j-init
unfolding table
loop-j-init c = ((search rules, search rules), refl)

pub loop-j-preserved : goal.loop-j-preserved
loop-j-preserved c =
    let long : length (zip_records c.loop-j.sums c.loop-j.ns) ≡ length c.loop-j.sums = zip_length c.loop-j.sums c.loop-j.ns (c.loop-j.invariant.0.0 ∙ sym c.loop-j.invariant.0.1) in (
      (search rules, search rules),
      rw (zip_set c.loop-j.sums c.loop-j.ns c.loop-j.j c.start_record-r.result) (fill_more _ (zip_records c.loop-j.sums c.loop-j.ns) c.loop-j.j c.start_record-r.result (omega (arith, c.loop-j.invariant.0)) c.start_record-r.ensures c.loop-j.invariant.1),
    )

pub returns : goal.returns
unfolding start_records
returns c =
    fill_done _ (zip_records c.loop-j.sums c.loop-j.ns) 336 c.loop-j.j (zip_length c.loop-j.sums c.loop-j.ns (c.loop-j.invariant.0.0 ∙ sym c.loop-j.invariant.0.1) ∙ c.loop-j.invariant.0.0) (omega arith) c.loop-j.auto.j-end c.loop-j.invariant.1
