-- `pass_ahead::packed_by` meets its contract. Assumes nothing.
use native.Mathlib.Omega.{arith}
use Rattle.numbers.specs.Numbers.{distance}
use Rattle.pass_ahead.proofs.LookLaws.{used_marks, lossy_look}
use Rattle.pass_ahead.proofs.packed_by.Goals as goal
use Rattle.pass_ahead.proofs.packed_by.Goals.{After-raised16}

pub raised16-requires : goal.raised16-requires
raised16-requires c =
    used_marks c.args.t.base _ (distance c.args.rb c.args.rf) c.args.choice _ c.args.t c.requires.0 c.requires.1.0 c.used_base16-used.ensures (omega arith)

pub raised16-requires-2 : goal.raised16-requires-2
raised16-requires-2 c =
    used_marks c.args.t.base _ (distance c.args.rc c.args.rb) c.args.choice _ c.args.t c.requires.0 c.requires.1.0 c.used_base16-used.ensures (omega arith)

pub returns : goal.returns
returns c =
    lossy_look c.args.t.base c.args.choice _ _ _ c.args.rf c.args.rc c.args.rb _ _ _ c.requires.1.0 c.used_base16-used.ensures c.weight16-weight.ensures.0 c.first_place.ensures.0 c.raised16.ensures.0 c.raised16-2.ensures.0 c.packed.ensures
