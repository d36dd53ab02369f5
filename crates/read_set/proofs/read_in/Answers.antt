-- `read_set::read_in` meets its contract: what the stream says of block b is read, and scratch is cleared behind it. Assumes nothing.
use mathlib.Core.Bool.{false}
use mathlib.Core.Path.{◌≡◌, ap, ◌∙◌}
use Prim.Native.Nat.{ℕ}
use native.Mathlib.Omega.{arith}
use lib.ListN.{length, replicate}
use Rattle.stream.proofs.StreamLaws.{opened}
use Rattle.admission.specs.Beginnings.{samples_needed}
use Rattle.read_block.proofs.LeftLaws.{form_scratch, form_depth}
use Rattle.read_set.proofs.CallLaws.{set_walked, set_form}
use Rattle.read_set.proofs.read_in.Goals as goal

pub read_kept-got-requires : goal.read_kept-got-requires
read_kept-got-requires c =
    let k = (opened c.args.d.now c.args.h c.requires.d_value).ruled in record {
      block_len_bound = (c.block_bytes-block.ensures.1, form_scratch _ c.args.h c.form_of-form.ensures false c.args.lines.now c.args.rs.now c.requires.scratch_of.0);
      depth = (form_depth _ c.args.h c.form_of-form.ensures k, (omega (arith, k.lines_high, c.line_count-count.ensures), set_form _ c.args.h _ _ c.form_of-form.ensures c.line_count-count.ensures c.requires.scratch_of.1));
    }

pub clear_records-requires : goal.clear_records-requires
clear_records-requires c =
    omega (arith, c.read_kept-got.auto, c.requires.scratch_of.0.1)

pub returns : goal.returns
returns c =
    let w =
    set_walked c.args.d.now c.args.h c.args.b _ _ c.base_row-bases.result.now c.block_bytes-block.result.now c.read_kept-got.result
    c.args.set.now _
    c.form_of-form.ensures c.base_row-bases.ensures c.block_bytes-block.ensures.0 c.line_count-count.ensures
    (c.read_kept-got.ensures.walked, c.read_kept-got.ensures.set_after) in
    let e : length c.read_kept-got.new.lines ≡ samples_needed c.args.h.xtrans = omega (arith, c.read_kept-got.auto, c.requires.scratch_of.0.0) in
    record {
      walked = w.0;
      set_after = w.1;
      lines_after = (c.clear.ensures ∙ ap (λ (n : ℕ). replicate n 0) e, c.clear_records.ensures);
    }
