-- `read_block::tight::tight_in` meets its contract: a lossless block has no bases. Assumes nothing.
use mathlib.Core.Bool.{true}
use mathlib.Core.List.{List, []}
use mathlib.Core.Path.{◌≡◌}
use Prim.Native.Nat.{ℕ}
use Rattle.stream.specs.Streams.{open_of}
use Rattle.stream.specs.declared.header.FujiHeader.{FujiHeader}
use Rattle.stream.proofs.StreamLaws.{row_lossless}
use Rattle.read_block.specs.Walks.{IsWalked}
use Rattle.read_block.specs.Images.{form_of, bytes_in, bases_in}
use Rattle.read_block.specs.TightBlocks.{tight_answer}
use Rattle.read_block.specs.Totals.{counted}
use Rattle.read_block.specs.BlockReadings.{tight_counted}
use Rattle.read_block.specs.declared.Counted.{Counted}
use Rattle.read_block.specs.declared.Form.{Form}
use Rattle.read_block.proofs.tight.tight_in.Goals as goal
use Rattle.std.specs.Prelude.{Ok, Result}
use Rattle.line_totals.specs.declared.TightLines.{TightLines}
use Rattle.line_totals.specs.declared.Totals.{Totals}

module _ (d : List ℕ) (h : FujiHeader) (b n : ℕ) (F : Form) (s : List ℕ) (ef : F ≡ form_of h) (es : s ≡ bytes_in d b) (en : n ≡ h.lines) where
  without_bases : (w : Result (Totals × TightLines) (ℕ × Totals)) → open_of d ≡ Ok h → h.lossless ≡ true → IsWalked (form_of h) (bases_in d b) (bytes_in d b) h.lines w → IsWalked F [] s n w
  without_bases w e l p = rw (ef, es, en) (rw (row_lossless d h b e l) at p)

  answered : (a : Counted) → a ≡ counted F [] s n (tight_answer F b n s) → a ≡ tight_counted d b h
  answered a e = rw (ef, es, en) at e

pub tight_answer-requires : goal.tight_answer-requires
tight_answer-requires c = (
  c.block_bytes-block.ensures.1,
  without_bases c.args.d.now c.args.h c.args.b _ _ _ c.form_of-form.ensures c.block_bytes-block.ensures.0 c.line_count-count.ensures c.args.got c.requires.d_value.0 c.requires.d_value.1 c.requires.walked,
)

pub returns : goal.returns
returns c =
    answered c.args.d.now c.args.h c.args.b _ _ _ c.form_of-form.ensures c.block_bytes-block.ensures.0 c.line_count-count.ensures _ c.tight_answer.ensures
