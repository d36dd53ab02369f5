-- `write_pass::put_code` meets its contract: a tight code is the digits of one number. Assumes nothing.
use Rattle.write_pass.proofs.CodePuts.{digits_room, code_after_lem, code_stored, code_counted}
use Rattle.write_pass.proofs.put_code.Goals as goal

pub put_bits-requires : goal.put_bits-requires
put_bits-requires c =
    (c.code_length-n.ensures.1.0, (c.code_length-n.ensures.1.1, (c.requires.at_bound.0, digits_room _ c.args.out.now _ _ _ _ _ _ c.code_length-n.ensures.0 c.if-store.true c.requires.at_bound.1)))

pub returns-then-store : goal.returns-then-store
returns-then-store c =
    record {
      result_value = code_after_lem c.args.store c.args.out.now c.args.at.0 _ _ _ _ _ c.code_length-n.ensures.0;
      out_after = code_stored _ _ _ _ _ _ _ _ c.code_length-n.ensures.0 _ _ c.if-store.true c.code_number.ensures.0 c.requires.k_bound.1.0 c.requires.k_bound.1.1.1.1.1 c.put_bits.ensures;
    }

pub returns : goal.returns
returns c =
    record {
      result_value = code_after_lem c.args.store c.args.out.now c.args.at.0 _ _ _ _ _ c.code_length-n.ensures.0;
      out_after = code_counted c.args.store c.args.out.now c.args.at.0 _ _ _ _ _ c.code_length-n.ensures.0 c.if-store.false;
    }
