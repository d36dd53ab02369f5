-- `read_block::decoding::decode` meets its contract, by the three ways in which a call begins. Assumes nothing.
use borrow.Author.Rules.{rules}
use mathlib.Core.List.{List}
use mathlib.Core.Path.{◌≡◌, sym, ap, ◌∙◌}
use Prim.Native.Nat.{ℕ, ◌+◌, ◌-◌}
use Rattle.stream.specs.declared.header.FujiHeader.{FujiHeader}
use Rattle.image_region.specs.Regions.{first_block, last_block}
use Rattle.image_region.specs.Inside.{Accepted}
use Rattle.image_region.specs.declared.Rect.{Rect}
use Rattle.admission.specs.Beginnings.{whole_of}
use Rattle.admission.proofs.CallLaws.{image_reads}
use Rattle.read_block.specs.Images.{answer_of, Pictured}
use Rattle.read_block.specs.Lent.{Buffers}
use Rattle.read_block.proofs.LeftLaws.{left_reading, lines_back, records_back}
use Rattle.read_block.proofs.decoding.decode.Goals as goal
use Rattle.read_block.proofs.decoding.decode.Goals.{Start}
use Rattle.std.specs.Prelude.{Result, Ok, Option}
use Rattle.stream.specs.declared.header.Refusal.{Refusal}

-- the region is the whole picture
at_whole : (h : FujiHeader) (r q : Rect) (n : ℕ) → r ≡ q → Accepted h q n → Accepted h r n
at_whole h r q n e a = rw e a

answer_whole : (d : List ℕ) (h : FujiHeader) (r q : Rect) (tile image image' : List ℕ) (a : Result Unit Refusal) → r ≡ q
    → (a ≡ answer_of d h r (last_block r + 1 - first_block r)) × Pictured d h r tile (last_block r + 1) image image'
    → (a ≡ answer_of d h q (last_block q + 1 - first_block q)) × Pictured d h q tile (last_block q + 1) image image'
answer_whole d h r q tile image image' a e p = rw e at p

abbrev lent : (c : Start) → Buffers
lent c = record { image = c.args.image.now; lines = c.args.lines.now; records = c.args.rs.now }

pub slice_bounds-decode_blocks-end : goal.slice_bounds-decode_blocks-end
slice_bounds-decode_blocks-end c =
    let k = image_reads _ _ _ _ _ _ _ (sym c.image_begins.ensures ∙ (c.in_ok-h.was ∙ ap (λ (o : Option FujiHeader). Ok o) c.in-Some.is)) in
    search (rules, k.fits.for_lines)

pub slice_bounds-decode_blocks-end-2 : goal.slice_bounds-decode_blocks-end-2
slice_bounds-decode_blocks-end-2 c =
    let k = image_reads _ _ _ _ _ _ _ (sym c.image_begins.ensures ∙ (c.in_ok-h.was ∙ ap (λ (o : Option FujiHeader). Ok o) c.in-Some.is)) in
    search (rules, k.fits.for_records)

pub decode_blocks-requires : goal.decode_blocks-requires
decode_blocks-requires c =
    let k = image_reads _ _ _ _ _ _ _ (sym c.image_begins.ensures ∙ (c.in_ok-h.was ∙ ap (λ (o : Option FujiHeader). Ok o) c.in-Some.is)) in
    record {
      d_value = (k.opens, at_whole _ _ _ _ c.whole-r.ensures k.region);
      scratch_in = (search rules, search rules);
    }

pub returns : goal.returns
returns c =
    let p = answer_whole c.args.d.now _ _ _ c.args.tile _ _ _ c.whole-r.ensures c.decode_blocks.ensures.value in
    left_reading c.args.d.now (whole_of c.args.width c.args.height) c.args.tile (lent (goal.at.returns c).Start) _ c.in-Some.h
    (sym c.image_begins.ensures ∙ (c.in_ok-h.was ∙ ap (λ (o : Option FujiHeader). Ok o) c.in-Some.is)) _ _
    (record {
      answered = p.0;
      pictured = p.1;
      lines = lines_back c.in-Some.h.xtrans c.samples_needed-used.result c.args.lines.now _ c.samples_needed-used.ensures.0 c.decode_blocks.ensures.lines_after.0;
      records = records_back c.args.rs.now _ c.decode_blocks.ensures.lines_after.1;
    })
