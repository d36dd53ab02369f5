-- `read_block::sharing::decode_shared_blocks` meets its contract: the blocks below b were read, and each of their lines had an entry. Assumes nothing.
use borrow.Author.Rules.{rules}
use mathlib.Core.Bool.{false}
use mathlib.Core.List.{List}
use mathlib.Core.Path.{◌≡◌, refl, sym, ◌∙◌}
use Prim.Native.Nat.{ℕ, ◌+◌, ◌-◌, ◌^◌, ◌≤◌, ◌<◌}
use native.Mathlib.Nat.{le_refl}
use native.Mathlib.Omega.{arith}
use lib.ListN.{length, replicate, length-replicate}
use Rattle.statistics.specs.declared.Record.{Record}
use Rattle.stream.specs.declared.header.FujiHeader.{FujiHeader}
use Rattle.image_region.specs.Regions.{first_block, last_block, span_of, line_count}
use Rattle.image_region.specs.Inside.{Accepted}
use Rattle.image_region.specs.declared.Rect.{Rect}
use Rattle.image_region.specs.declared.Span.{Span}
use Rattle.image_region.proofs.RegionLaws.{block_order, block_inside, lines_inside, part_fits}
use Rattle.cameras.specs.Entries.{lines_with_entry}
use Rattle.cameras.specs.declared.Camera.{Camera}
use Rattle.cameras.specs.declared.Entry.{Entry}
use Rattle.cameras.proofs.EntryLaws.{all_below_lem}
use Rattle.read_block.specs.Images.{form_of, answer_of, Pictured}
use Rattle.read_block.specs.Records.{clear_record, clear_records}
use Rattle.read_block.specs.Sharing.{block_count, entries_after, shared_answer, last_entries, PicturedShared}
use Rattle.read_block.proofs.LeftLaws.{form_scratch, form_depth, form_zeros}
use Rattle.read_block.proofs.DecodeLaws.{answer_none, pictured_none}
use Rattle.read_block.proofs.SharingLaws.{entries_none, Going, going_none, next_entries, next_going, next_answer, next_image, out_answer, out_entries, out_image}
use Rattle.read_block.proofs.SharingLaws.{whole_answer, whole_entries, whole_image}
use Rattle.read_block.proofs.sharing.decode_shared_blocks.Goals as goal
use Rattle.std.specs.Prelude.{Result}
use Rattle.stream.specs.declared.header.Refusal.{Refusal}

span_is : (s : Span) (r : Rect) → s ≡ span_of r → (s.first ≡ first_block r) × (s.last ≡ last_block r) × (s.lines ≡ line_count r)
unfolding span_of
span_is s r e = (cc, cc, cc)

-- there are at most 16 blocks, and fewer than 2^16 lines
few : (h : FujiHeader) (r : Rect) (n : ℕ) → Accepted h r n → (last_block r < 16) × (line_count r < 2 ^ 16)
few h r n a = (omega (arith, block_inside h r n a, a.ruled.blocks_high), omega (arith, lines_inside h r n a, a.ruled.lines_high))

-- the lines that have an entry
found_all : (c : Camera) (bits : ℕ) (bases : List ℕ) (l : List Entry) (count found : ℕ) → found ≡ lines_with_entry c bits bases l count
    → lines_with_entry c bits bases l found ≡ found
found_all c bits bases l count found e = all_below_lem c bits bases l count found (rw (← e) (le_refl found))

zero_length : (n : ℕ) (l : List ℕ) → l ≡ replicate n 0 → length l ≡ n
zero_length n l e = rw e (length-replicate n 0)

clear_length : (l : List Record) → l ≡ clear_records → length l ≡ 336
clear_length l e = rw e (length-replicate 336 clear_record)

-- all blocks were read
module _ (c : Camera) (d : List ℕ) (h : FujiHeader) (r : Rect) (l held : List Entry) (b : ℕ) (e : b ≡ last_block r + 1)
    (g : Going c d h r l (b - first_block r)) where
  all-going : Going c d h r l (block_count r)
  all-going = let f : b - first_block r ≡ block_count r = omega arith in rw f at g

  all-answered : (a : Result Unit Refusal) → a ≡ answer_of d h r (b - first_block r) → a ≡ shared_answer c d h r l
  all-answered a f = (rw e at f) ∙ whole_answer c d h r l all-going

  all_held : held ≡ entries_after c d h r l (b - first_block r) → held ≡ last_entries c d h r l
  all_held f = (rw e at f) ∙ whole_entries c d h r l all-going

  all-pictured : (tile x y : List ℕ) → Pictured d h r tile b x y → PicturedShared c d h r tile l x y
  all-pictured tile x y p = whole_image c d h r l all-going tile x y (rw e at p)

pub span_of-span-requires : goal.span_of-span-requires
span_of-span-requires c = (c.requires.d_value.1.wide, c.requires.d_value.1.high)

pub overflow_add-end : goal.overflow_add-end
overflow_add-end c =
    let e = span_is _ c.args.r c.span_of-span.ensures in
    let f = few c.args.h c.args.r _ c.requires.d_value.1 in
    search (rules, e.1, f.0)

pub loop-b-init : goal.loop-b-init
loop-b-init c =
    let e = span_is _ c.args.r c.span_of-span.ensures in
    let o = block_order c.args.h c.args.r _ c.requires.d_value.1 in (
      omega (arith, e.0),
      omega (arith, e.0, e.1, o),
      omega (arith, e.1),
      e.2,
      c.requires.d_value.1,
      c.requires.scratch_in.0.0,
      c.requires.scratch_in.0.1,
      c.xtrans_places-places.ensures,
      answer_none c.args.d.now c.args.h c.args.r _ e.0,
      pictured_none false c.args.d.now c.args.h c.args.r c.args.tile _ c.args.image.now e.0,
      λ l. absurd (omega (arith, e.0, l)),
      entries_none c.args.camera c.args.d.now c.args.h c.args.r c.args.held.all _ e.0,
      c.requires.scratch_in.1,
      going_none c.args.camera c.args.d.now c.args.h c.args.r c.args.held.all _ e.0,
    )

pub part-part-requires : goal.part-part-requires
part-part-requires c =
    let f = few c.args.h c.args.r _ c.loop-b.invariant.4 in
    omega (arith, f.0, c.loop-b.invariant.1, c.loop-b.invariant.2)

pub take_lines-took-requires : goal.take_lines-took-requires
take_lines-took-requires c =
    let f = few c.args.h c.args.r _ c.loop-b.invariant.4 in
    record {
      le_bits = (omega (arith, c.loop-b.invariant.4.ruled.bits_low), (omega (arith, c.loop-b.invariant.4.ruled.bits_high), omega (arith, c.loop-b.invariant.3, f.1)));
      all_numbered = c.loop-b.invariant.12;
    }

pub walk-got-requires : goal.walk-got-requires
walk-got-requires c =
    let f = few c.args.h c.args.r _ c.loop-b.invariant.4 in
    let u : c.loop-b.b ≤ last_block c.args.r = omega (arith, c.loop-b-test.true, c.loop-b.invariant.2) in
    let fits = part_fits c.args.h c.args.r _ c.loop-b.invariant.4 c.loop-b.b c.loop-b.image c.loop-b.invariant.9.kept c.loop-b.invariant.0 u in record {
      block_len_bound = (
        c.block_bytes-block.ensures.1,
        form_scratch (form_of c.args.h) c.args.h refl false c.loop-b.lines c.loop-b.rs
            (c.loop-b.invariant.5, c.loop-b.invariant.6),
      );
      depth = (form_depth (form_of c.args.h) c.args.h refl c.loop-b.invariant.4.ruled, omega (arith, c.loop-b.invariant.3, f.1, c.take_lines-took.ensures.lines_value.1));
      fits = rw c.part-part.ensures fits;
      all_numbered = c.take_lines-took.ensures.all_value.1;
    }

pub after_block-held-requires : goal.after_block-held-requires
after_block-held-requires c =
    let f = few c.args.h c.args.r _ c.loop-b.invariant.4 in
    record {
      le_bits = (omega (arith, c.loop-b.invariant.4.ruled.bits_low), (omega (arith, c.loop-b.invariant.4.ruled.bits_high), omega (arith, c.loop-b.invariant.3, f.1, c.take_lines-took.ensures.lines_value.1)));
      all_numbered = (c.loop-b.invariant.12, found_all c.args.camera _ _ c.loop-b.held.all _ _ c.take_lines-took.ensures.lines_value.0);
    }

-- a line has no entry
pub shape_of-image-then-is_stopped : goal.shape_of-image-then-is_stopped
shape_of-image-then-is_stopped c =
    omega (arith, c.walk-got.ensures.shown_in.kept, c.loop-b.invariant.9.kept)

pub returns-then-is_stopped : goal.returns-then-is_stopped
returns-then-is_stopped c =
    let z = form_zeros (form_of c.args.h) c.args.h refl false _ c.walk-got.ensures.lines_after.0 in
    let u = sym c.is_stopped.ensures ∙ c.if-is_stopped.true in
    let high : c.loop-b.b < last_block c.args.r + 1 = omega (arith, c.loop-b-test.true, c.loop-b.invariant.2) in record {
      answer_value = (
        out_answer c.args.camera c.args.d.now c.args.h c.args.r _ c.loop-b.b c.loop-b.held.all _ c.loop-b.invariant.0 c.loop-b.invariant.11 c.loop-b.invariant.13 _ _ _ _ _ _ _
            c.walk-got.result refl c.base_row-bases.ensures c.block_bytes-block.ensures.0 c.loop-b.invariant.3 refl c.take_lines-took.ensures.lines_value.0 c.take_lines-took.ensures.lines_value.1 c.walk-got.ensures.walked c.lines_read-read.ensures c.after_block-held.ensures.0 u high,
        out_entries c.args.camera c.args.d.now c.args.h c.args.r _ c.loop-b.b c.loop-b.held.all _ c.loop-b.invariant.0 c.loop-b.invariant.11 c.loop-b.invariant.13 _ _ _ _ _ _ _
            c.walk-got.result refl c.base_row-bases.ensures c.block_bytes-block.ensures.0 c.loop-b.invariant.3 refl c.take_lines-took.ensures.lines_value.0 c.take_lines-took.ensures.lines_value.1 c.walk-got.ensures.walked c.lines_read-read.ensures c.after_block-held.ensures.0 u high,
      );
      pictured_shared = out_image c.args.camera c.args.d.now c.args.h c.args.r _ c.loop-b.b c.loop-b.held.all _ c.loop-b.invariant.0 c.loop-b.invariant.11 c.loop-b.invariant.13 _ _ _ _ _ _ _
          c.walk-got.result refl c.base_row-bases.ensures c.block_bytes-block.ensures.0 c.loop-b.invariant.3 refl c.take_lines-took.ensures.lines_value.0 c.take_lines-took.ensures.lines_value.1 c.walk-got.ensures.walked c.lines_read-read.ensures c.after_block-held.ensures.0 u high c.args.tile _ _ _ _ _ c.loop-b.invariant.4
          c.part-part.ensures c.loop-b.invariant.9 c.walk-got.ensures.shown_in;
      lines_after = (z, c.walk-got.ensures.lines_after.1);
    }

pub loop-b-preserved : goal.loop-b-preserved
loop-b-preserved c =
    let z = form_zeros (form_of c.args.h) c.args.h refl false _ c.walk-got.ensures.lines_after.0 in
    let u = sym c.is_stopped.ensures ∙ c.if-is_stopped.false in (
      omega (arith, c.loop-b.invariant.0),
      omega (arith, c.loop-b-test.true),
      c.loop-b.invariant.2,
      c.loop-b.invariant.3,
      c.loop-b.invariant.4,
      zero_length _ _ z,
      clear_length _ c.walk-got.ensures.lines_after.1,
      c.loop-b.invariant.7,
      next_answer c.args.camera c.args.d.now c.args.h c.args.r _ c.loop-b.b c.loop-b.held.all _ c.loop-b.invariant.0 c.loop-b.invariant.11 c.loop-b.invariant.13 _ _ _ _ _ _ _
          c.walk-got.result refl c.base_row-bases.ensures c.block_bytes-block.ensures.0 c.loop-b.invariant.3 refl c.take_lines-took.ensures.lines_value.0 c.take_lines-took.ensures.lines_value.1 c.walk-got.ensures.walked c.lines_read-read.ensures c.after_block-held.ensures.0 u _ _ c.loop-b.invariant.8 c.judged-answer.ensures,
      next_image c.args.camera c.args.d.now c.args.h c.args.r _ c.loop-b.b c.loop-b.held.all _ c.loop-b.invariant.0 c.loop-b.invariant.11 c.loop-b.invariant.13 _ _ _ _ _ _ _
          c.walk-got.result refl c.base_row-bases.ensures c.block_bytes-block.ensures.0 c.loop-b.invariant.3 refl c.take_lines-took.ensures.lines_value.0 c.take_lines-took.ensures.lines_value.1 c.walk-got.ensures.walked c.lines_read-read.ensures c.after_block-held.ensures.0 u c.args.tile _ _ _ _ _ c.loop-b.invariant.4
          c.part-part.ensures c.loop-b.invariant.9 c.walk-got.ensures.shown_in,
      λ k. (z, c.walk-got.ensures.lines_after.1),
      next_entries c.args.camera c.args.d.now c.args.h c.args.r _ c.loop-b.b c.loop-b.held.all _ c.loop-b.invariant.0 c.loop-b.invariant.11 c.loop-b.invariant.13 _ _ _ _ _ _ _
          c.walk-got.result refl c.base_row-bases.ensures c.block_bytes-block.ensures.0 c.loop-b.invariant.3 refl c.take_lines-took.ensures.lines_value.0 c.take_lines-took.ensures.lines_value.1 c.walk-got.ensures.walked c.lines_read-read.ensures c.after_block-held.ensures.0,
      c.after_block-held.ensures.1,
      next_going c.args.camera c.args.d.now c.args.h c.args.r _ c.loop-b.b c.loop-b.held.all _ c.loop-b.invariant.0 c.loop-b.invariant.11 c.loop-b.invariant.13 _ _ _ _ _ _ _
          c.walk-got.result refl c.base_row-bases.ensures c.block_bytes-block.ensures.0 c.loop-b.invariant.3 refl c.take_lines-took.ensures.lines_value.0 c.take_lines-took.ensures.lines_value.1 c.walk-got.ensures.walked c.lines_read-read.ensures c.after_block-held.ensures.0 u,
    )

pub returns : goal.returns
returns c =
    let e : c.loop-b.b ≡ last_block c.args.r + 1 = omega (arith, c.loop-b-test.false, c.loop-b.invariant.1, c.loop-b.invariant.2) in
    let k : first_block c.args.r < c.loop-b.b = omega (arith, e, block_order c.args.h c.args.r _ c.loop-b.invariant.4) in record {
      answer_value = (
        all-answered c.args.camera c.args.d.now c.args.h c.args.r _ c.loop-b.held.all c.loop-b.b e c.loop-b.invariant.13 _ c.loop-b.invariant.8,
        all_held c.args.camera c.args.d.now c.args.h c.args.r _ c.loop-b.held.all c.loop-b.b e c.loop-b.invariant.13 c.loop-b.invariant.11,
      );
      pictured_shared = all-pictured c.args.camera c.args.d.now c.args.h c.args.r _ c.loop-b.held.all c.loop-b.b e c.loop-b.invariant.13 c.args.tile _ _ c.loop-b.invariant.9;
      lines_after = c.loop-b.invariant.10 k;
    }

pub shape_of-image : goal.shape_of-image
shape_of-image c = c.loop-b.invariant.9.kept
