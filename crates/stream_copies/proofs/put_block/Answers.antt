-- `stream_copies::put_block` meets its contract: no set that is read is refused by the writer. Assumes nothing.
use native.Mathlib.Omega.{arith}
use Rattle.stream_copies.proofs.BlockLaws.{is_ruled, set_left, head_parses, put_cut, put_done, part_is, part_back}
use Rattle.numbers.proofs.PassedLaws.{passed_on}
use Rattle.stream_copies.proofs.put_block.Goals as goal

pub write_new-requires : goal.write_new-requires
write_new-requires c =
    record {
      head_value = (head_parses c.args.d.now c.args.h c.args.rows.now c.args.head.now c.requires.d_value.0 c.requires.d_value.1, (c.requires.rows_fit.0, c.requires.rows_fit.1.0));
      ruled = (is_ruled c.args.d.now c.args.h c.args.rows.now c.args.b c.requires.d_value.0 c.requires.rows_fit.1.0, omega (arith, c.read_set.auto, c.requires.set_len.0));
      scratch_fits = record { for_lines = omega (arith, c.read_set.auto, c.requires.set_len.1.for_lines); for_records = omega (arith, c.read_set.auto, c.requires.set_len.1.for_records) };
    }

pub returns-in_err-read_set : goal.returns-in_err-read_set
returns-in_err-read_set c = rw (passed_on _ _ c.from_residual.ensures)
    (put_cut c.args.d.now c.args.h c.args.rows.now c.args.b c.args.at c.requires.d_value.0 c.requires.rows_fit.1.0 c.requires.rows_fit.0
    (record { set = c.args.set.now; lines = c.args.lines.now; records = c.args.rs.now }) _ c.read_set.result
    (set_left c.args.d.now c.args.h c.args.rows.now c.args.b c.requires.d_value.0 c.requires.rows_fit.1.0
    (record { set = c.args.set.now; lines = c.args.lines.now; records = c.args.rs.now })
    (record { set = c.read_set.new.set; lines = _; records = _ }) _ c.requires.set_len.0 c.requires.set_len.1 c.read_set.ensures)
    c.requires.set_len.0 c.args.out.now _
    c.in_err-read_set.was)

pub returns : goal.returns
returns c =
    put_done c.args.d.now c.args.h c.args.rows.now c.args.b c.args.at c.requires.d_value.0 c.requires.rows_fit.1.0 c.requires.rows_fit.0
    (record { set = c.args.set.now; lines = c.args.lines.now; records = c.args.rs.now }) _ c.read_set.result
    (set_left c.args.d.now c.args.h c.args.rows.now c.args.b c.requires.d_value.0 c.requires.rows_fit.1.0
    (record { set = c.args.set.now; lines = c.args.lines.now; records = c.args.rs.now })
    (record { set = c.read_set.new.set; lines = _; records = _ }) _ c.requires.set_len.0 c.requires.set_len.1 c.read_set.ensures)
    c.requires.set_len.0 c.args.out.now
    c.in_ok-read_set.was _ (part_is c.args.at c.args.out.now) _ _ _
    (part_back c.args.at c.args.out.now _ c.requires.rows_fit.1.1) c.write_new.ensures
