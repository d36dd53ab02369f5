-- `pass_ahead::records::by_slot` meets its contract. Assumes nothing.
use lib.ListN.{replicate}
use Rattle.pass_ahead.proofs.SlotLaws.{repeated, slots}
use Rattle.pass_ahead.proofs.records.by_slot.Goals as goal

pub returns : goal.returns
returns c =
    slots c.args.main c.args.first c.args.second c.args.third (replicate 112 c.args.main) c.put_five.new.r c.put_five-2.new.r c.put_five-3.new.r c.put_five-4.new.r c.put_five-5.new.r c.put_five-6.new.r
    (repeated 112 c.args.main) c.put_five.ensures.1 c.put_five-2.ensures.1 c.put_five-3.ensures.1 c.put_five-4.ensures.1 c.put_five-5.ensures.1 c.put_five-6.ensures.1 c.put_five-6.ensures.0
