-- `read_block::tight::walk_block` meets its contract: what the stream says of block b goes to the walk. Assumes nothing.
use mathlib.Core.Bool.{false}
use mathlib.Core.List.{List}
use mathlib.Core.Path.{◌≡◌, refl}
use Prim.Native.Nat.{ℕ}
use native.Mathlib.Omega.{arith}
use Rattle.stream.specs.declared.header.FujiHeader.{FujiHeader}
use Rattle.stream.proofs.StreamLaws.{opened}
use Rattle.read_block.specs.Walks.{IsWalked}
use Rattle.read_block.specs.Images.{form_of, bytes_in, bases_in}
use Rattle.read_block.specs.declared.Form.{Form}
use Rattle.read_block.proofs.LeftLaws.{form_scratch, form_depth, form_zero}
use Rattle.read_block.proofs.tight.walk_block.Goals as goal
use Rattle.std.specs.Prelude.{Result}
use Rattle.line_totals.specs.declared.TightLines.{TightLines}
use Rattle.line_totals.specs.declared.Totals.{Totals}

walked : (d : List ℕ) (h : FujiHeader) (b n : ℕ) (F : Form) (bases s : List ℕ) (w : Result (Totals × TightLines) (ℕ × Totals)) → F ≡ form_of h → bases ≡ bases_in d b → s ≡ bytes_in d b
    → n ≡ h.lines
    → IsWalked F bases s n w → IsWalked (form_of h) (bases_in d b) (bytes_in d b) h.lines w
walked d h b n F bases s w ef eb es en p = rw (ef, eb, es, en) at p

pub walk-requires : goal.walk-requires
walk-requires c =
    let k = (opened c.args.d.now c.args.h c.requires.d_value).ruled in record {
      block_len_bound = (
        c.block_bytes-block.ensures.1,
        form_scratch (form_of c.args.h) c.args.h refl false c.args.lines.now c.args.rs.now
            c.requires.scratch_of,
      );
      depth = (form_depth (form_of c.args.h) c.args.h refl k, omega (arith, k.lines_high, c.line_count-count.ensures));
      fits = c.no_part.ensures _;
      all_numbered = c.no_entries.ensures.1;
    }

pub returns : goal.returns
returns c =
    record {
      walked = walked c.args.d.now c.args.h c.args.b c.line_count-count.result (form_of c.args.h) c.base_row-bases.result.now c.block_bytes-block.result.now c.walk.result refl c.base_row-bases.ensures c.block_bytes-block.ensures.0 c.line_count-count.ensures
          c.walk.ensures.walked;
      lines_after = (form_zero (form_of c.args.h) c.args.h refl _ c.walk.ensures.lines_after.0, c.walk.ensures.lines_after.1);
    }
