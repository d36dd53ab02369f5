-- `code_reader::read_code` meets its contract: the pump begins at the place that it is given.
use Rattle.std.proofs.Common.{◌≡◌}
use Rattle.code.specs.Codes.{code_at}
use Rattle.code.proofs.CodeLaws.{code_bounds}
use Rattle.code_reader.proofs.read_code.Goals as goal

pub returns : goal.returns
returns c =
    let e : c.next_code.result ≡ code_at c.args.s.now c.args.at.0 c.args.k c.args.limit c.args.raw =
    rw (c.at_bit-p.ensures.0, c.at_bit-p.ensures.1) at c.next_code.ensures in
    let r = c.requires.1 in
    (e, rw e (code_bounds c.args.s.now c.args.at.0 c.args.k c.args.limit c.args.raw r.0 r.1.0 r.1.1))
