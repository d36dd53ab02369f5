-- `read_block::decoding::decode_blocks` meets its contract: the blocks below b were read. Assumes nothing.
use borrow.Author.Rules.{rules}
use mathlib.Core.Bool.{Bool}
use mathlib.Core.List.{List}
use mathlib.Core.Path.{◌≡◌, refl}
use Prim.Native.Nat.{ℕ, ◌+◌, ◌-◌, ◌^◌, ◌≤◌, ◌<◌}
use native.Mathlib.Omega.{arith}
use lib.ListN.{length, replicate, length-replicate}
use Rattle.statistics.specs.declared.Record.{Record}
use Rattle.image_map.specs.declared.Part.{Part}
use Rattle.stream.specs.declared.header.FujiHeader.{FujiHeader}
use Rattle.image_region.specs.Regions.{first_block, last_block, span_of, line_count}
use Rattle.image_region.specs.Inside.{part_in, Accepted}
use Rattle.image_region.specs.declared.Rect.{Rect}
use Rattle.image_region.specs.declared.Span.{Span}
use Rattle.image_region.proofs.RegionLaws.{block_order, block_inside, lines_inside, part_fits}
use Rattle.read_block.specs.Walks.{IsWalked}
use Rattle.read_block.specs.Images.{form_of, bytes_in, bases_in, answer_of}
use Rattle.read_block.specs.Records.{clear_record, clear_records}
use Rattle.read_block.specs.WindowedLines.{ShownIn, PicturedIn}
use Rattle.read_block.specs.declared.Form.{Form}
use Rattle.read_block.proofs.LeftLaws.{form_scratch, form_depth, form_zeros}
use Rattle.read_block.proofs.DecodeLaws.{answer_none, answer_more, pictured_none, pictured_kept, pictured_more}
use Rattle.read_block.proofs.decoding.decode_blocks.Goals as goal
use Rattle.read_block.proofs.decoding.decode_blocks.Goals.{At-loop-b}
use Rattle.std.specs.Prelude.{Result}
use Rattle.line_totals.specs.declared.TightLines.{TightLines}
use Rattle.line_totals.specs.declared.Totals.{Totals}
use Rattle.stream.specs.declared.header.Refusal.{Refusal}

span_is : (s : Span) (r : Rect) → s ≡ span_of r → (s.first ≡ first_block r) × (s.last ≡ last_block r) × (s.lines ≡ line_count r)
unfolding span_of
span_is s r e = (cc, cc, cc)

-- there are at most 16 blocks, and fewer than 2^16 lines
few : (h : FujiHeader) (r : Rect) (n : ℕ) → Accepted h r n → (last_block r < 16) × (line_count r < 2 ^ 16)
few h r n a = (omega (arith, block_inside h r n a, a.ruled.blocks_high), omega (arith, lines_inside h r n a, a.ruled.lines_high))

-- one block more, from what the walk over it gives
module _ (d tile : List ℕ) (h : FujiHeader) (r : Rect) (n b count : ℕ) (F : Form) (s bases : List ℕ) (a : Part) (w : Result (Totals × TightLines) (ℕ × Totals)) (ef : F ≡ form_of h)
    (es : s ≡ bytes_in d b) (eb : bases ≡ bases_in d b) (ec : count ≡ line_count r) (walked : IsWalked F bases s count w) where
  same : IsWalked (form_of h) (bases_in d b) (bytes_in d b) (line_count r) w
  same = rw (ef, es, eb, ec) at walked

  image-more : (windowed : Bool) (x y z : List ℕ) → Accepted h r n → a ≡ part_in r b → PicturedIn windowed d h r tile b x y
      → ShownIn windowed F bases s tile a w count y z → PicturedIn windowed d h r tile (b + 1) x z
  image-more windowed x y z ok e done shown = pictured_more windowed d h r tile n b a w x y z ok e same done (rw (ef, es, eb, ec) at shown)

zero_length : (n : ℕ) (l : List ℕ) → l ≡ replicate n 0 → length l ≡ n
zero_length n l e = rw e (length-replicate n 0)

clear_length : (l : List Record) → l ≡ clear_records → length l ≡ 336
clear_length l e = rw e (length-replicate 336 clear_record)

-- all blocks were read
all_answered : (d : List ℕ) (h : FujiHeader) (r : Rect) (b : ℕ) (a : Result Unit Refusal) → b ≡ last_block r + 1 → a ≡ answer_of d h r (b - first_block r)
    → a ≡ answer_of d h r (last_block r + 1 - first_block r)
all_answered d h r b a e f = rw e at f

all_pictured : (windowed : Bool) (d : List ℕ) (h : FujiHeader) (r : Rect) (tile : List ℕ) (b : ℕ) (x y : List ℕ) → b ≡ last_block r + 1
    → PicturedIn windowed d h r tile b x y → PicturedIn windowed d h r tile (last_block r + 1) x y
all_pictured windowed d h r tile b x y e f = rw e at f

pictured : (c : At-loop-b) → length c.loop-b.image ≡ length c.args.image.now
pictured c =
    pictured_kept c.args.windowed c.args.d.now c.args.h c.args.r c.args.tile c.loop-b.b c.args.image.now c.loop-b.image c.loop-b.invariant.9

pub span_of-span-requires : goal.span_of-span-requires
span_of-span-requires c = (c.requires.d_value.1.wide, c.requires.d_value.1.high)

pub overflow_add-end : goal.overflow_add-end
overflow_add-end c =
    let e = span_is _ c.args.r c.span_of-span.ensures in
    let f = few c.args.h c.args.r _ c.requires.d_value.1 in
    search (rules, e.1, f.0)

pub loop-b-init : goal.loop-b-init
loop-b-init c =
    let e = span_is _ c.args.r c.span_of-span.ensures in
    let o = block_order c.args.h c.args.r _ c.requires.d_value.1 in (
      omega (arith, e.0),
      omega (arith, e.0, e.1, o),
      omega (arith, e.1),
      e.2,
      c.requires.d_value.1,
      c.requires.scratch_in.0,
      c.requires.scratch_in.1,
      c.xtrans_places-places.ensures,
      answer_none c.args.d.now c.args.h c.args.r _ e.0,
      pictured_none c.args.windowed c.args.d.now c.args.h c.args.r c.args.tile _ c.args.image.now e.0,
      λ l. absurd (omega (arith, e.0, l)),
    )

pub part-part-requires : goal.part-part-requires
part-part-requires c =
    let f = few c.args.h c.args.r _ c.loop-b.invariant.4 in
    omega (arith, f.0, c.loop-b.invariant.1, c.loop-b.invariant.2)

pub walk-got-requires : goal.walk-got-requires
walk-got-requires c =
    let f = few c.args.h c.args.r _ c.loop-b.invariant.4 in
    let u : c.loop-b.b ≤ last_block c.args.r = omega (arith, c.loop-b-test.true, c.loop-b.invariant.2) in
    let fits = part_fits c.args.h c.args.r _ c.loop-b.invariant.4 c.loop-b.b c.loop-b.image (pictured (goal.at.walk-got-requires c).At-loop-b) c.loop-b.invariant.0 u in record {
      block_len_bound = (
        c.block_bytes-block.ensures.1,
        form_scratch (form_of c.args.h) c.args.h refl c.args.windowed c.loop-b.lines c.loop-b.rs
            (c.loop-b.invariant.5, c.loop-b.invariant.6),
      );
      depth = (form_depth (form_of c.args.h) c.args.h refl c.loop-b.invariant.4.ruled, omega (arith, c.loop-b.invariant.3, f.1));
      fits = rw c.part-part.ensures fits;
      all_numbered = c.no_entries.ensures.1;
    }

pub loop-b-preserved : goal.loop-b-preserved
loop-b-preserved c =
    let z = form_zeros (form_of c.args.h) c.args.h refl c.args.windowed _ c.walk-got.ensures.lines_after.0 in
    let is = same c.args.d.now c.args.tile c.args.h c.args.r 0 c.loop-b.b _ _ _ _ c.part-part.result c.walk-got.result refl c.block_bytes-block.ensures.0 c.base_row-bases.ensures c.loop-b.invariant.3 c.walk-got.ensures.walked in (
      omega (arith, c.loop-b.invariant.0),
      omega (arith, c.loop-b-test.true),
      c.loop-b.invariant.2,
      c.loop-b.invariant.3,
      c.loop-b.invariant.4,
      zero_length _ _ z,
      clear_length _ c.walk-got.ensures.lines_after.1,
      c.loop-b.invariant.7,
      answer_more c.args.d.now c.args.h c.args.r c.loop-b.b c.walk-got.result _ _ c.loop-b.invariant.0 c.loop-b.invariant.8 is c.judged-answer.ensures,
      image-more c.args.d.now c.args.tile c.args.h c.args.r _ c.loop-b.b _ _ _ _ c.part-part.result c.walk-got.result refl c.block_bytes-block.ensures.0 c.base_row-bases.ensures c.loop-b.invariant.3 c.walk-got.ensures.walked
          c.args.windowed _ _ _ c.loop-b.invariant.4 c.part-part.ensures c.loop-b.invariant.9 c.walk-got.ensures.shown_in,
      λ k. (z, c.walk-got.ensures.lines_after.1),
    )

pub returns : goal.returns
returns c =
    let e : c.loop-b.b ≡ last_block c.args.r + 1 = omega (arith, c.loop-b-test.false, c.loop-b.invariant.1, c.loop-b.invariant.2) in
    let k : first_block c.args.r < c.loop-b.b = omega (arith, e, block_order c.args.h c.args.r _ c.loop-b.invariant.4) in record {
      value = (
        all_answered c.args.d.now c.args.h c.args.r c.loop-b.b _ e c.loop-b.invariant.8,
        all_pictured c.args.windowed c.args.d.now c.args.h c.args.r c.args.tile c.loop-b.b _ _ e c.loop-b.invariant.9,
      );
      lines_after = c.loop-b.invariant.10 k;
    }

pub shape_of-image : goal.shape_of-image
shape_of-image c = pictured (goal.at.shape_of-image c).At-loop-b
