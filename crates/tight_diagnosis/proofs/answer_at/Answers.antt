-- `tight_diagnosis::answer_at` meets its contract: a lossless block has no bases, and the walk says what the answer goes by. Assumes nothing.
use mathlib.Core.Bool.{true}
use mathlib.Core.List.{List, []}
use mathlib.Core.Path.{◌≡◌, ap, ◌∙◌}
use Prim.Native.Nat.{ℕ}
use native.Mathlib.Omega.{arith}
use Rattle.stream.specs.Streams.{open_of}
use Rattle.stream.specs.declared.header.FujiHeader.{FujiHeader}
use Rattle.stream.proofs.StreamLaws.{opened, row_lossless}
use Rattle.read_block.specs.Walks.{IsWalked}
use Rattle.read_block.specs.Images.{form_of, bytes_in, bases_in}
use Rattle.read_block.specs.TightBlocks.{tight_answer}
use Rattle.read_block.specs.declared.Counted.{Counted}
use Rattle.read_block.specs.declared.Form.{Form}
use Rattle.read_block.proofs.LeftLaws.{form_depth}
use Rattle.tight_diagnosis.proofs.answer_at.Goals as goal
use Rattle.std.specs.Prelude.{Ok, Result}
use Rattle.line_totals.specs.declared.TightLines.{TightLines}
use Rattle.line_totals.specs.declared.Totals.{Totals}
use Rattle.stream.specs.declared.header.Refusal.{Refusal}

without_bases : (d : List ℕ) (h : FujiHeader) (b n : ℕ) (F : Form) (bases s : List ℕ) (w : Result (Totals × TightLines) (ℕ × Totals)) → open_of d ≡ Ok h → h.lossless ≡ true
    → bases ≡ bases_in d b
    → IsWalked F bases s n w → IsWalked F [] s n w
without_bases d h b n F bases s w e l eb p = rw (eb ∙ row_lossless d h b e l) at p

answered : (d : List ℕ) (h : FujiHeader) (b n : ℕ) (F : Form) (s : List ℕ) (a : Result Unit Refusal) → F ≡ form_of h → s ≡ bytes_in d b → n ≡ h.lines
    → a ≡ tight_answer F b n s → a ≡ tight_answer (form_of h) b h.lines (bytes_in d b)
answered d h b n F s a ef es en e = rw (ef, es, en) at e

pub walk_alone-got-requires : goal.walk_alone-got-requires
walk_alone-got-requires c =
    let k = (opened c.args.d.now c.args.h c.requires.0).ruled in record {
      block_len_bound = (c.block_bytes-block.ensures.1, (form_depth _ c.args.h c.form_of-form.ensures k, omega (arith, k.lines_high, c.line_count-count.ensures)));
      fits = c.no_part.ensures _;
    }

pub tight_answer-counted-requires : goal.tight_answer-counted-requires
tight_answer-counted-requires c = (
  c.block_bytes-block.ensures.1,
  without_bases c.args.d.now c.args.h c.args.b c.line_count-count.result c.form_of-form.result c.base_row-bases.result.now c.block_bytes-block.result.now c.walk_alone-got.result
      c.requires.0 c.requires.1 c.base_row-bases.ensures c.walk_alone-got.ensures.walked,
)

pub returns : goal.returns
returns c =
    answered c.args.d.now c.args.h c.args.b _ _ _ _ c.form_of-form.ensures c.block_bytes-block.ensures.0 c.line_count-count.ensures (ap (λ (x : Counted). x.answer) c.tight_answer-counted.ensures)
