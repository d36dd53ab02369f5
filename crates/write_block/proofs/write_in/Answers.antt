-- `write_block::write_in` meets its contract, by the two ways in which a call begins. Assumes nothing.
use borrow.Author.Rules.{rules}
use mathlib.Core.Bool.{Bool}
use mathlib.Core.List.{List}
use mathlib.Core.Path.{◌≡◌}
use Prim.Native.Nat.{ℕ}
use native.Mathlib.Omega.{arith}
use lib.ListN.{length}
use Rattle.image_map.specs.Places.{width_of}
use Rattle.stream.specs.declared.header.FujiHeader.{FujiHeader}
use Rattle.colour_lines.specs.Sets.{set_size}
use Rattle.read_block.specs.Images.{form_of}
use Rattle.read_block.specs.Lent.{Outputs}
use Rattle.write_block.specs.WrittenAnswers.{set_answer}
use Rattle.write_block.specs.WriterParts.{room_for, output_of}
use Rattle.write_block.specs.WrittenBlocks.{written_block}
use Rattle.read_block.specs.declared.Form.{Form}
use Rattle.read_block.proofs.LeftLaws.{form_samples, form_depth, form_zero, lines_back, records_back}
use Rattle.write_block.proofs.LeftLaws.{written_refused, written_set}
use Rattle.numbers.proofs.PassedLaws.{passed_on}
use Rattle.write_block.proofs.write_in.Goals as goal
use Rattle.write_block.proofs.write_in.Goals.{Start}
use Rattle.std.specs.Prelude.{Result}
use Rattle.stream.specs.declared.header.Refusal.{Refusal}

sized : (F : Form) (h : FujiHeader) (n : ℕ) (t : List ℕ) → F ≡ form_of h → n ≡ h.lines → length t ≡ set_size (width_of h.xtrans) h.lines
    → length t ≡ set_size (width_of F.xtrans) n
sized F h n t e en s = rw (e, en) s

-- what the set answers, under the header
abbrev Answered : Form → ℕ → Bool → (bases t out out' : List ℕ) → Result ℕ Refusal → Type 0
Answered F n measure bases t out out' a =
    (a ≡ set_answer F bases n t (room_for measure (written_block F bases n t) out)) × (out' ≡ output_of measure a (written_block F bases n t) out)

answered : (F : Form) (h : FujiHeader) (n : ℕ) (measure : Bool) (bases t out out' : List ℕ) (a : Result ℕ Refusal) → F ≡ form_of h → n ≡ h.lines
    → Answered F n measure bases t out out' a → Answered (form_of h) h.lines measure bases t out out' a
answered F h n measure bases t out out' a e en p = rw (e, en) at p

abbrev lent : (c : Start) → Outputs
lent c = record { out = c.args.out.now; lines = c.args.lines.now; records = c.args.rs.now }

pub returns-in_err-h : goal.returns-in_err-h
returns-in_err-h c = rw (passed_on _ _ c.from_residual.ensures)
    (written_refused c.args.bases.now c.args.samples.now (lent (goal.at.returns-in_err-h c).Start) _ c.args.measure _ c.in_err-h.was)

pub slice_bounds-write_set-end : goal.slice_bounds-write_set-end
slice_bounds-write_set-end c =
    let k = c.requires _ c.in_ok-h.was in
    search (rules, k.fits.for_lines)

pub slice_bounds-write_set-end-2 : goal.slice_bounds-write_set-end-2
slice_bounds-write_set-end-2 c =
    let k = c.requires _ c.in_ok-h.was in
    search (rules, k.fits.for_records)

pub write_set-requires : goal.write_set-requires
write_set-requires c =
    let k = c.requires c.in_ok-h.h c.in_ok-h.was in record {
      count_bound = (omega (arith, c.line_count-count.ensures, k.is_ruled.lines_high), sized _ c.in_ok-h.h _ c.args.samples.now c.form_of-form.ensures c.line_count-count.ensures k.size);
      depth = (form_depth _ c.in_ok-h.h c.form_of-form.ensures k.is_ruled, (form_samples _ c.in_ok-h.h c.form_of-form.ensures _ (search rules), search rules));
    }

pub returns : goal.returns
returns c =
    let p =
    answered _ c.in_ok-h.h _ c.args.measure c.args.bases.now c.args.samples.now c.args.out.now _ _
    c.form_of-form.ensures c.line_count-count.ensures c.write_set.ensures.fact in
    let zeros = form_zero _ c.in_ok-h.h c.form_of-form.ensures _ c.write_set.ensures.lines_after.0 in
    written_set c.args.bases.now c.args.samples.now (lent (goal.at.returns c).Start) _ c.args.measure c.in_ok-h.h c.in_ok-h.was _ _
    p.0
    p.1
    (lines_back c.in_ok-h.h.xtrans c.samples_needed-used.result c.args.lines.now _ c.samples_needed-used.ensures.0 zeros)
    (records_back c.args.rs.now _ c.write_set.ensures.lines_after.1)
