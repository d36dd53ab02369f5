-- One block of a new stream: its set is read, and no set that is read is refused by the writer. Assumes nothing.
use borrow.Author.Tests.{lt-ltb, le-ltb, ltb-false, eq-eqb, ne_eqb}
use borrow.Rule.Slice.PartMut.{put_mid}
use mathlib.Core.Bool.{Bool, true, false, cond}
use mathlib.Core.List.{List, [], ◌++◌, append-nil}
use mathlib.Core.Path.{◌≡◌, refl, sym, ap, ◌∙◌}
use Prim.Native.Nat.{ℕ, suc, ◌+◌, ◌-◌, ◌*◌, ◌≤◌, ◌<◌}
use native.Mathlib.Nat.{mul-le-mul_right}
use native.Mathlib.Omega.{arith}
use lib.ListN.{length, get_or, take, drop, length-replicate, length-drop, take-append-drop, drop_of_length-le}
use lib.Seq.{take_all, drop_at, length-take-le}
use Rattle.statistics.specs.declared.Record.{Record}
use Rattle.quantiser.specs.Quantisers.{largest}
use Rattle.pass_steps.specs.Contexts.{Depth}
use Rattle.image_map.specs.Places.{width_of}
use Rattle.colour_lines.specs.Sets.{set_size}
use Rattle.colour_lines.specs.ColourLines.{zero_lines}
use Rattle.stream.specs.Headers.{parse_of}
use Rattle.stream.specs.Inside.{Ruled}
use Rattle.stream.specs.declared.header.FujiHeader.{FujiHeader}
use Rattle.stream.specs.declared.header.Refusal.{Refusal}
use Rattle.stream.specs.declared.header.Refusal.TheVariants.{Truncated}
use Rattle.stream.specs.Streams.{open_of}
use Rattle.stream.proofs.StreamLaws.{opened}
use Rattle.admission.specs.Beginnings.{samples_needed, records_needed}
use Rattle.admission.specs.Beginnings.{ScratchFits}
use Rattle.admission.specs.Writings.{writing_begins, lossy_begins}
use Rattle.admission.specs.Above.{is_ignored}
use Rattle.read_block.specs.Images.{form_of, bytes_in, bases_in, lines_read}
use Rattle.read_block.specs.Lent.{Outputs, cleared_lines, cleared_records}
use Rattle.read_block.specs.Records.{clear_record, clear_records}
use Rattle.read_block.specs.declared.Counted.{Counted}
use Rattle.read_block.specs.declared.Form.{Form}
use Rattle.read_block.proofs.DecodeLaws.{all_read, was_read}
use Rattle.write_block.specs.WrittenBlocks.{is_strict, write_lines}
use Rattle.write_block.specs.WrittenAnswers.{length_answer, measured_answer, above_in, set_answer, written_out, SetWriting, LeftLossy}
use Rattle.theorem_one_to_one.proofs.PredictedBlocks.{fits_is}
use Rattle.theorem_lossy.proofs.NeverWrong.{not_strict, never_wrong}
use Rattle.read_set.specs.HandedSets.{set_with, put_over, Sets, set_begins, SetReading, LeftSet}
use Rattle.theorem_whole_streams.specs.ReadSets.{ReadsWhole}
use Rattle.theorem_whole_streams.specs.Kinds.{flagged, with_flag, set_in}
use Rattle.theorem_whole_streams.proofs.ReadRight.{set_size_lem, set_le, readable_predicted}
use Rattle.theorem_whole_streams.proofs.KindsHold.{flagged_parses}
use Rattle.theorem_whole_streams.proofs.LossyCopiesHold.{none_above}
use Rattle.stream_copies.specs.MadeStreams.{is_tight_call, bases_of, new_header, new_block, is_cut}
use Rattle.stream_copies.specs.Inside.{RowsFit, put_answer, BlockPut}
use Rattle.std.specs.Prelude.{Err, Ok, Result, None}

-- ---- how the writers begin

module _ (head : List ℕ) (h : FujiHeader) (n s r : ℕ) (size : n ≡ set_size (width_of h.xtrans) h.lines) (fits : ScratchFits h s r) where
  pub begins_tight : (l : Bool) → l ≡ true → parse_of head ≡ Ok (with_flag l h) → writing_begins head n s r ≡ Ok (with_flag l h)
  unfolding writing_begins
  begins_tight true e p =
      rw (
        p,
        eq-eqb n (set_size (width_of h.xtrans) h.lines) size,
        le-ltb s (samples_needed h.xtrans) fits.for_lines,
        le-ltb r records_needed
            fits.for_records,
      )
  begins_tight false e p = let no : ◌≡◌ {A = ℕ} 0 1 = cc in absurd (omega arith)

  pub begins_lossy : (m : ℕ) → m ≡ h.lines → (l : Bool) → l ≡ false → parse_of head ≡ Ok (with_flag l h)
      → lossy_begins head m n s r ≡ Ok (with_flag l h)
  unfolding lossy_begins
  begins_lossy m em false e p =
      rw (
        p,
        eq-eqb m h.lines em,
        eq-eqb n (set_size (width_of h.xtrans) h.lines) size,
        le-ltb s (samples_needed h.xtrans) fits.for_lines,
        le-ltb r records_needed fits.for_records,
      )
  begins_lossy m em true e p = let no : ◌≡◌ {A = ℕ} 0 1 = cc in absurd (omega arith)

pub left_new : (bases bases' t : List ℕ) (p : Result FujiHeader Refusal) (H : FujiHeader) (before after : Outputs) (a : Result ℕ Refusal) → p ≡ Ok H → bases ≡ bases'
    → LeftLossy bases t p before after a → SetWriting bases' t H before after a
left_new bases bases' t p H before after a ep eb l = rw (ep, eb) at l

-- ---- the rows

pub tight_rows : (rows : List ℕ) → length rows ≡ 0 → is_tight_call rows ≡ true
tight_rows rows e = eq-eqb (length rows) 0 e

pub lossy_rows : (rows : List ℕ) → (length rows ≡ 0 → ⊥) → is_tight_call rows ≡ false
lossy_rows rows ne = ne_eqb (length rows) 0 ne

-- the row of block b is inside
pub row_end : (b blocks n : ℕ) → b < blocks → b * n + n ≤ blocks * n
row_end b blocks n h = let m : suc b * n ≤ blocks * n = mul-le-mul_right n h in omega arith

pub rows_tight : (h : FujiHeader) (rows : List ℕ) (b : ℕ) → is_tight_call rows ≡ true → [] ≡ bases_of h rows b
rows_tight h rows b e = rw e

pub rows_lossy : (h : FujiHeader) (rows : List ℕ) (b n : ℕ) → n ≡ h.lines → is_tight_call rows ≡ false
    → take (b * n + n - b * n) (drop (b * n) rows) ≡ bases_of h rows b
rows_lossy h rows b n en e = let m : b * n + n - b * n ≡ n = omega arith in rw (e, m, en)

pub row_long : (h : FujiHeader) (rows : List ℕ) (b : ℕ) → b < h.blocks → length rows ≡ h.blocks * h.lines → length
    (take h.lines (drop (b * h.lines) rows)) ≡ h.lines
row_long h rows b l e =
    let m = row_end b h.blocks h.lines l in
    length-take-le h.lines (drop (b * h.lines) rows) (omega (arith, length-drop (b * h.lines) rows))

pub part_long : (h : FujiHeader) (rows : List ℕ) (b n : ℕ) → n ≡ h.lines → is_tight_call rows ≡ false → b < h.blocks → length rows ≡ h.blocks * h.lines
    → length (take (b * n + n - b * n) (drop (b * n) rows)) ≡ h.lines
part_long h rows b n en e l long = let m : b * n + n - b * n ≡ n = omega arith in rw (m, en) (row_long h rows b l long)

pub head_parses : (d : List ℕ) (h : FujiHeader) (rows head : List ℕ) → open_of d ≡ Ok h → head ≡ flagged (is_tight_call rows) d
    → parse_of head ≡ Ok (new_header h rows)
head_parses d h rows head o e = rw e (flagged_parses (is_tight_call rows) d h (opened d h o).parsed)

-- ---- no set that is read is refused

module _ (d : List ℕ) (h : FujiHeader) (rows : List ℕ) (b : ℕ) (opens : open_of d ≡ Ok h) (inside : b < h.blocks) where
  abbrev F : Form
  F = form_of h

  abbrev n : ℕ
  n = lines_read F (bases_in d b) (bytes_in d b) h.lines

  pub is_ruled : Ruled h
  is_ruled = (opened d h opens).ruled

  depth : Depth F.bits
  depth = (is_ruled.bits_low, is_ruled.bits_high)

  pub set_on : (count samples records : ℕ) → count ≡ set_size (width_of h.xtrans) h.lines → ScratchFits h samples records
      → set_begins d b count samples records ≡ Ok h
  unfolding set_begins
  set_on count samples records size fits =
      rw (
        opens,
        lt-ltb b h.blocks inside,
        eq-eqb count (set_size (width_of h.xtrans) h.lines) size,
        le-ltb samples (samples_needed h.xtrans) fits.for_lines,
        le-ltb records records_needed fits.for_records,
      )

  pub set_left : (before after : Sets) (a : Counted) → length before.set ≡ set_size (width_of h.xtrans) h.lines
      → ScratchFits h (length before.lines) (length before.records)
      → LeftSet d b (set_begins d b (length before.set) (length before.lines) (length before.records)) before after a → SetReading d b h
      before after a
  set_left before after a size fits l = rw (set_on (length before.set) (length before.lines) (length before.records) size fits) at l

  -- by the answer
  cut_by : (t : Bool) (x : Refusal) → cond {A = Result Unit Refusal} t (Err (Truncated b n)) (Ok tt) ≡ Err x → (t ≡ true) × (x ≡ Truncated b n)
  cut_by true x e = (refl, cc)
  cut_by false x e = let no : ◌≡◌ {A = ℕ} 0 1 = cc in absurd (omega arith)

  done_by : (t : Bool) → cond {A = Result Unit Refusal} t (Err (Truncated b n)) (Ok tt) ≡ (Ok tt) → t ≡ false
  done_by true e = let no : ◌≡◌ {A = ℕ} 0 1 = cc in absurd (omega arith)
  done_by false e = refl

  module _ (whole : is_cut d h b ≡ false) where
    pub reads_all : ReadsWhole F (bases_in d b) h.lines (bytes_in d b)
    reads_all = was_read F (bases_in d b) (bytes_in d b) h.lines (ltb-false n h.lines whole)

    lines_all : n ≡ h.lines
    lines_all = all_read F (bases_in d b) (bytes_in d b) h.lines reads_all.0 reads_all.1

    in_range : (j : ℕ) → get_or (set_in d h b) j 0 ≤ largest F.bits
    in_range = set_le F (bases_in d b) h.lines (bytes_in d b) depth.1

    right_by : (t : Bool) → is_tight_call rows ≡ t → RowsFit h rows → (write_lines F (bases_of h rows b) (set_in d h b) h.lines).wrong ≡ None
    right_by true e fit =
        rw e ((fits_is F h.lines (set_in d h b)).1 (readable_predicted F (bases_in d b) h.lines (bytes_in d b) depth reads_all)).predicted
    right_by false e fit =
        let l = row_long h rows b inside (fit e) in
        rw e (never_wrong F (take h.lines (drop (b * h.lines) rows)) (set_in d h b)
        (not_strict (take h.lines (drop (b * h.lines) rows)) (omega (arith, is_ruled.lines_low))) h.lines)

    new_answer : RowsFit h rows → (room : ℕ) → set_answer F (bases_of h rows b) h.lines (set_in d h b) room ≡ length_answer (length (new_block d h rows b)) room
    unfolding set_answer measured_answer
    new_answer fit room =
        let low : above_in F (bases_of h rows b) (set_in d h b) ≡ None =
        none_above (is_ignored F.xtrans (is_strict (bases_of h rows b))) (largest F.bits) 0 (set_in d h b) in_range in
        rw (low, right_by (is_tight_call rows) refl fit)

    covers : (set s : List ℕ) → length set ≡ length s → put_over set 0 s ≡ s
    covers set s e =
        let k : drop (0 + length s) set ≡ [] = drop_of_length-le set {i = 0 + length s} (omega arith) in
        rw k (append-nil s)

    -- what was read is the set
    set_is : (set : List ℕ) → length set ≡ set_size (width_of h.xtrans) h.lines
        → put_over set 0 (set_with F (bases_in d b) n (bytes_in d b)) ≡ set_in d h b
    set_is set size =
        ap (λ (m : ℕ). put_over set 0 (set_with F (bases_in d b) m (bytes_in d b))) lines_all ∙ covers set (set_in d h b)
        (size ∙ sym (set_size_lem F (bases_in d b) h.lines (bytes_in d b)))

-- ---- scratch that is cleared twice

pub lines_again : (xtrans : Bool) (l l' : List ℕ) → l' ≡ cleared_lines xtrans l → cleared_lines xtrans l' ≡ cleared_lines xtrans l
lines_again xtrans l l' e =
    ap (λ (x : List ℕ). zero_lines (width_of xtrans) ++ x) (ap (drop (samples_needed xtrans)) e
    ∙ drop_at (zero_lines (width_of xtrans)) (drop (samples_needed xtrans) l) (samples_needed xtrans) (length-replicate (samples_needed xtrans) 0))

pub records_again : (l l' : List Record) → l' ≡ cleared_records l → cleared_records l' ≡ cleared_records l
records_again l l' e =
    ap (λ (x : List Record). clear_records ++ x) (ap (drop records_needed) e ∙ drop_at clear_records (drop records_needed l) records_needed
    (length-replicate records_needed clear_record))

-- ---- a block at its place

pub part_is : (at : ℕ) (out : List ℕ) → take (length out - at) (drop at out) ≡ drop at out
part_is at out = take_all (length out - at) (drop at out) (omega (arith, length-drop at out))

-- a part that ends with the output goes back
pub part_back : (at : ℕ) (out part : List ℕ) → at ≤ length out → put_mid at (length out - at) out part ≡ take at out ++ part
part_back at out part h =
    let e : drop (length out - at) (drop at out) ≡ [] = drop_of_length-le (drop at out) {i = length out - at} (omega (arith, length-drop at out)) in
    ap (λ (x : List ℕ). take at out ++ (part ++ x)) e ∙ ap (λ (x : List ℕ). take at out ++ x) (append-nil part)

module _ (d : List ℕ) (h : FujiHeader) (rows : List ℕ) (b at : ℕ) (opens : open_of d ≡ Ok h) (inside : b < h.blocks) (fit : RowsFit h rows)
    (before : Sets) (mid : Sets) (got : Counted) (S : SetReading d b h before mid got)
    (size : length before.set ≡ set_size (width_of h.xtrans) h.lines) (out : List ℕ) where
  pub put_cut : (x : Refusal) → got.answer ≡ Err x
      → BlockPut d h rows b at (record { out = out; lines = before.lines; records = before.records })
      (record { out = out; lines = mid.lines; records = mid.records }) (Err x)
  unfolding put_answer
  put_cut x e =
      let c = cut_by d h rows b opens inside (is_cut d h b) x (ap (λ (a : Counted). a.answer) (sym S.answered) ∙ e) in
      record {
        answered = rw (c.0, c.1);
        output = sym (take-append-drop at out);
        lines = S.lines;
        records = S.records;
      }

  whole_by : got.answer ≡ (Ok tt) → is_cut d h b ≡ false
  whole_by e = done_by d h rows b opens inside (is_cut d h b) (ap (λ (a : Counted). a.answer) (sym S.answered) ∙ e)

  pub put_done : got.answer ≡ (Ok tt) → (part : List ℕ) → part ≡ drop at out → (after : Outputs) (a : Result ℕ Refusal) (out' : List ℕ) → out' ≡ take
      at out ++ after.out
      → SetWriting (bases_of h rows b) mid.set (new_header h rows) (record { out = part; lines = mid.lines; records = mid.records }) after a
      → BlockPut d h rows b at (record { out = out; lines = before.lines; records = before.records })
      (record { out = out'; lines = after.lines; records = after.records }) a
  unfolding put_answer
  put_done e part ep after a out' eo w =
      let k = whole_by e in
      let t : mid.set ≡ set_in d h b = S.set ∙ set_is d h rows b opens inside k before.set size in
      let long : length part ≡ length out - at = ap length ep ∙ length-drop at out in
      let answer : set_answer (form_of h) (bases_of h rows b) h.lines mid.set (length part) ≡ length_answer (length (new_block d h rows b))
      (length out - at) =
      rw (t, long) (new_answer d h rows b opens inside k fit (length out - at)) in
      let put : put_answer d h rows b (length out - at) ≡ length_answer (length (new_block d h rows b)) (length out - at) = rw k in
      let written : after.out ≡ written_out a (new_block d h rows b) (drop at out) = w.output ∙ rw (t, ep) in
      record {
        answered = w.answered ∙ answer ∙ sym put;
        output = eo ∙ ap (λ (x : List ℕ). take at out ++ x) written;
        lines = w.lines ∙ lines_again h.xtrans before.lines mid.lines S.lines;
        records = w.records ∙ records_again before.records mid.records S.records;
      }
