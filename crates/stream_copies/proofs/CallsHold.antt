-- Calls that make a stream: they answer a length exactly where the stream reads whole and what is lent fits, and then the new stream is put. Assumes nothing.
use borrow.Author.Tests.{le-ltb, ltb-false, eq-eqb, ne_eqb, eqb-true}
use mathlib.Core.Bool.{Bool, true, false, cond, ◌||◌}
use mathlib.Core.List.{List, [], ◌++◌}
use mathlib.Core.Path.{◌≡◌, refl, sym, ap, ◌∙◌, subst}
use Prim.Native.Nat.{ℕ, zero, suc, ◌+◌, ◌-◌, ◌*◌, ◌≤◌, ◌<◌}
use native.Mathlib.Nat.{mul-le-mul_right}
use native.Mathlib.Omega.{arith}
use lib.Dec.{ltb, eqb}
use lib.ListN.{length, drop}
use Rattle.numbers.proofs.LeastLaws.{least}
use Rattle.image_map.specs.Places.{width_of}
use Rattle.colour_lines.specs.Sets.{set_size}
use Rattle.stream.specs.Inside.{Ruled}
use Rattle.stream.specs.declared.header.FujiHeader.{FujiHeader}
use Rattle.stream.specs.declared.header.Refusal.{Refusal}
use Rattle.stream.specs.declared.header.Refusal.TheVariants.{ShortOutput, WrongBases}
use Rattle.stream.specs.Lengths.{length_word, length_refusal}
use Rattle.stream.specs.Streams.{open_of}
use Rattle.stream.proofs.StreamLaws.{opened}
use Rattle.admission.specs.Beginnings.{samples_needed, records_needed}
use Rattle.read_block.specs.Images.{form_of, bytes_in, bases_in, lines_read}
use Rattle.read_block.proofs.DecodeLaws.{all_read}
use Rattle.write_block.specs.WrittenBlocks.{written_block}
use Rattle.theorem_lossy.proofs.LossyCallsHold.{told_length}
use Rattle.theorem_whole_streams.specs.Assembled.{length_of, assembled}
use Rattle.theorem_whole_streams.specs.Kinds.{flagged, with_flag, Readable, set_in}
use Rattle.theorem_whole_streams.specs.Tightened.{tightened}
use Rattle.theorem_whole_streams.specs.LossyCopies.{lossy_copy}
use Rattle.stream_copies.specs.MadeStreams.{Lent, is_tight_call, new_block, new_front, new_stream, is_cut, made, stop_answer, made_answer, made_bytes}
use Rattle.stream_copies.specs.Inside.{RowsFit}
use Rattle.stream_copies.specs.MadeStreams.{with_room, making_begins, Making, LeftMade}
use Rattle.stream_copies.specs.MadeCalls.{Asked, Puts, TightenPuts, bases_row, LossyCopyPuts}
use Rattle.stream_copies.specs.MadeCalls.{TightenFits, TightenAnswers, LossyCopyFits, LossyCopyAnswers, TightenTold, LossyCopyTold}
use Rattle.stream_copies.proofs.BlockLaws.{reads_all}
use Rattle.stream_copies.proofs.MadeLaws.{opens_on, fits_on}
use Rattle.stream_copies.proofs.RoomLaws.{room_accepted}
use Rattle.stream_copies.proofs.LaidLaws.{stops, made_whole, size}
use Rattle.std.specs.Prelude.{Err, Ok, Result}

module _ (d : List ℕ) (h : FujiHeader) (rows : List ℕ) (S : Readable d h) (fit : RowsFit h rows) (before : Lent)
    (A : Asked h (new_stream d h rows) before) where
  abbrev N : ℕ → List ℕ
  N = new_block d h rows

  long : length (new_stream d h rows) ≡ new_front h rows + length_of N h.blocks
  long = size d h rows S.opens fit

  not_cut : (b : ℕ) → b < h.blocks → is_cut d h b ≡ false
  not_cut b l =
      let r = S.reads b l in
      let e : lines_read (form_of h) (bases_in d b) (bytes_in d b) h.lines ≡ h.lines = all_read (form_of h) (bases_in d b) (bytes_in d b) h.lines
      r.0 r.1 in
      rw e (le-ltb h.lines h.lines (omega arith))

  length_more : (n k : ℕ) → length_of N n ≤ length_of N (n + k)
  unfolding length_of
  length_more n zero = let e : n + 0 ≡ n = omega arith in rw e (omega arith)
  length_more n (suc k) = let e : n + suc k ≡ suc (n + k) = omega arith in rw e (omega (arith, length_more n k))

  goes : (b : ℕ) → b < h.blocks → stops d h rows (length before.out) b ≡ false
  goes b l =
      let k : suc b + (h.blocks - suc b) ≡ h.blocks = omega arith in
      let m : length_of N (suc b) ≤ length_of N h.blocks = rw k at (length_more (suc b) (h.blocks - suc b)) in
      rw (not_cut b l) (le-ltb (length before.out) (new_front h rows + length_of N (suc b)) (omega (arith, A.room, long)))

  made_all : made d h rows (length before.out) ≡ h.blocks
  made_all = made_whole d h rows (length before.out) goes

  room_is : with_room h (is_tight_call rows) (length before.out) (length before.set) (length before.lines) (length before.records) ≡ Ok h
  unfolding with_room
  room_is =
      rw (
        eq-eqb (length before.set) (set_size (width_of h.xtrans) h.lines) A.set,
        le-ltb (length before.lines) (samples_needed h.xtrans) A.scratch.for_lines,
        le-ltb (length before.records) records_needed A.scratch.for_records,
        le-ltb (length before.out) (new_front h rows) (omega (arith, A.room, long)),
      )

  pub makes : (after : Lent) (a : Result ℕ Refusal)
      → LeftMade d rows (with_room h (is_tight_call rows) (length before.out) (length before.set) (length before.lines)
      (length before.records)) before after a
      → Puts (new_stream d h rows) before after a
  makes after a l =
      let m : Making d h rows before after a = rw room_is at l in
      let t = le-ltb h.blocks h.blocks (omega arith) in
      let answer : made_answer d h rows (length before.out) ≡ Ok (length (new_stream d h rows)) = rw (made_all, t) in
      let bytes : made_bytes d h rows (length before.out) ≡ new_stream d h rows = rw (made_all, t) in
      record { answered = m.answered ∙ answer; output = m.output ∙ ap (λ (x : List ℕ). x ++ drop (length x) before.out) bytes }

-- ---- the entries

clash : {X : Type 0} → true ≡ false → X
clash e = let no : ◌≡◌ {A = ℕ} 0 1 = cc in absurd (omega arith)

pub tighten_puts : TightenPuts
tighten_puts d h S before after a A l = makes d h [] S (λ e. clash e) before A after a (rw S.opens at l)

module _ (d : List ℕ) (h : FujiHeader) (bases : List ℕ) where
  copy_is : (t : Bool) → t ≡ false
      → assembled (flagged t d) (with_flag t h) (λ b. cond t [] (bases_row h bases b))
      (λ b. written_block (form_of h) (cond t [] (bases_row h bases b)) h.lines (set_in d h b))
      ≡ lossy_copy d h (bases_row h bases)
  copy_is true e = clash e
  copy_is false e = refl

  copied : Readable d h → length bases ≡ h.blocks * h.lines → new_stream d h bases ≡ lossy_copy d h (bases_row h bases)
  copied S size' =
      let R : Ruled h = (opened d h S.opens).ruled in
      let p : 1 * h.lines ≤ h.blocks * h.lines = mul-le-mul_right h.lines R.blocks_low in
      copy_is (is_tight_call bases) (ne_eqb (length bases) 0 (λ e. omega (arith, R.lines_low)))

pub lossy_copy_puts : LossyCopyPuts
lossy_copy_puts d h S bases size' before after a A l =
    let is : new_stream d h bases ≡ lossy_copy d h (bases_row h bases) = copied d h bases S size' in
    let f : eqb (length bases) (h.blocks * h.lines) ≡ true = eq-eqb (length bases) (h.blocks * h.lines) size' in
    let B : Asked h (new_stream d h bases) before = record { set = A.set; scratch = A.scratch; room = rw is A.room } in
    let P = makes d h bases S (λ e. size') before B after a (rw (S.opens, f) at l) in
    rw is at P

-- ---- the other way: where a length is answered

or_parts : (a b : Bool) → (a || b) ≡ false → (a ≡ false) × (b ≡ false)
or_parts true b e = clash e
or_parts false b e = (refl, e)

module _ (d : List ℕ) (h : FujiHeader) (rows : List ℕ) (room n : ℕ) (e : made_answer d h rows room ≡ Ok n) where
  none_stops : h.blocks ≤ made d h rows room
  none_stops = go (ltb (made d h rows room) h.blocks) refl e
    where
      stopped : (c : Bool) (x : Refusal) → cond c (Err x) (Err ShortOutput) ≡ Ok n → ⊥
      stopped true x f = let no : ◌≡◌ {A = ℕ} 0 1 = cc in omega arith
      stopped false x f = let no : ◌≡◌ {A = ℕ} 0 1 = cc in omega arith

      go : (t : Bool) → ltb (made d h rows room) h.blocks ≡ t
          → cond t (stop_answer d h (made d h rows room)) (Ok (length (new_stream d h rows))) ≡ Ok n → h.blocks ≤ made d h rows room
      go true p f = absurd (stopped (is_cut d h (made d h rows room)) _ f)
      go false p f = ltb-false (made d h rows room) h.blocks p

  goes_on : (b : ℕ) → b < h.blocks → stops d h rows room b ≡ false
  unfolding made
  goes_on b l = (least h.blocks (stops d h rows room) 0).before b (omega arith) (omega (arith, none_stops))

  module _ (opens : open_of d ≡ Ok h) (fit : RowsFit h rows) where
    was_readable : Readable d h
    was_readable =
        record { opens = opens; reads = λ b l. reads_all d h rows b opens l (or_parts (is_cut d h b) _ (goes_on b l)).0 }

    had_room : length (new_stream d h rows) ≤ room
    had_room =
        let R : Ruled h = (opened d h opens).ruled in
        let b : ℕ = h.blocks - 1 in
        let k : suc b ≡ h.blocks = omega (arith, R.blocks_low) in
        let p = (or_parts (is_cut d h b) _ (goes_on b (omega arith))).1 in
        let m : new_front h rows + length_of (new_block d h rows) h.blocks ≤ room = rw k
        at (ltb-false room (new_front h rows + length_of (new_block d h rows) (suc b)) p) in
        omega (arith, m, size d h rows opens fit)

module _ (d : List ℕ) (rows : List ℕ) (before after : Lent) (a : Result ℕ Refusal) (n : ℕ) (answered : a ≡ Ok n) where
  no_refusal_lem : (x : Refusal) → a ≡ Err x → ⊥
  no_refusal_lem x e = let f : Err x ≡ Ok n = sym e ∙ answered in let no : ◌≡◌ {A = ℕ} 0 1 = cc in omega arith

  only : (h : FujiHeader) → open_of d ≡ Ok h → RowsFit h rows
      → LeftMade d rows (with_room h (is_tight_call rows) (length before.out) (length before.set) (length before.lines)
      (length before.records)) before after a
      → Readable d h × Asked h (new_stream d h rows) before
  only h opens fit =
      go (with_room h (is_tight_call rows) (length before.out) (length before.set) (length before.lines) (length before.records)) refl
    where
      go : (p : Result FujiHeader Refusal) → with_room h (is_tight_call rows) (length before.out) (length before.set) (length before.lines) (length before.records) ≡ p
          → LeftMade d rows p before after a → Readable d h × Asked h (new_stream d h rows) before
      go (Err x) e m = absurd (no_refusal_lem x m.0)
      go (Ok g) e m =
          let A = room_accepted h g (is_tight_call rows) (length before.out) (length before.set) (length before.lines) (length before.records) e in
          let f = sym m.answered ∙ answered in
          let o = opens_on d h g A.header opens in
          let r = fits_on d h g A.header opens rows fit in
          let is : Readable d g × Asked g (new_stream d g rows) before = (
            was_readable d g rows (length before.out) n f o r,
            record { set = A.whole; scratch = A.fits; room = had_room d g rows (length before.out) n f o r },
          ) in
          subst (λ (x : FujiHeader). Readable d x × Asked x (new_stream d x rows) before) (sym A.header) is

  only_tight : LeftMade d rows (making_begins false (open_of d) rows before) before after a → rows ≡ [] → TightenFits d before
  only_tight m e = go (open_of d) refl m
    where
      go : (p : Result FujiHeader Refusal) → open_of d ≡ p → LeftMade d rows (making_begins false p rows before) before after a → TightenFits d before
      go (Err x) o l = absurd (no_refusal_lem x l.0)
      go (Ok h) o l =
          let is = only h o (λ k. clash (rw e at k)) l in
          record { header = h; readable = is.0; asked = rw e at is.1 }

  only_lossy : LeftMade d rows (making_begins true (open_of d) rows before) before after a → LossyCopyFits d rows before
  only_lossy m = go (open_of d) refl m
    where
      with_bases_lem : (h : FujiHeader) → open_of d ≡ Ok h → (t : Bool) → eqb (length rows) (h.blocks * h.lines) ≡ t
          → LeftMade d rows (cond t (with_room h (is_tight_call rows) (length before.out) (length before.set) (length before.lines)
          (length before.records))
          (Err WrongBases)) before after a
          → LossyCopyFits d rows before
      with_bases_lem h o false e l = absurd (no_refusal_lem WrongBases l.0)
      with_bases_lem h o true e l =
          let long : length rows ≡ h.blocks * h.lines = eqb-true (length rows) (h.blocks * h.lines) e in
          let is = only h o (λ k. long) l in
          let A : Asked h (new_stream d h rows) before = is.1 in
          record {
            header = h;
            readable = is.0;
            rows = long;
            asked = record { set = A.set; scratch = A.scratch; room = rw (copied d h rows is.0 long) at A.room };
          }

      go : (p : Result FujiHeader Refusal) → open_of d ≡ p → LeftMade d rows (making_begins true p rows before) before after a → LossyCopyFits d rows before
      go (Err x) o l = absurd (no_refusal_lem x l.0)
      go (Ok h) o l = with_bases_lem h o (eqb (length rows) (h.blocks * h.lines)) refl l

pub tighten_answers : TightenAnswers
tighten_answers d before after a l = (
  λ k. only_tight d [] before after a k.0 k.1 l refl,
  λ k. (length (tightened d k.header), (tighten_puts d k.header k.readable before after a k.asked l).answered),
)

pub lossy_copy_answers : LossyCopyAnswers
lossy_copy_answers d bases before after a l = (
  λ k. only_lossy d bases before after a k.0 k.1 l,
  λ k. (
    length (lossy_copy d k.header (bases_row k.header bases)),
    (lossy_copy_puts d k.header k.readable bases k.rows before after a k.asked l).answered,
  ),
)

-- ---- from C

pub tighten_told : TightenTold
tighten_told d before after size_word words T =
    let A = tighten_answers d before after T.answer T.left in (
      (λ e. A.0 (told_length T.answer (sym T.told ∙ e)), λ F. T.told ∙ ap length_refusal (A.1 F).1),
      λ F. let P = tighten_puts d F.header F.readable before after T.answer F.asked T.left in
          (T.told_size ∙ ap length_word P.answered, P.output),
    )

pub lossy_copy_told : LossyCopyTold
lossy_copy_told d bases before after size_word words T =
    let A = lossy_copy_answers d bases before after T.answer T.left in (
      (λ e. A.0 (told_length T.answer (sym T.told ∙ e)), λ F. T.told ∙ ap length_refusal (A.1 F).1),
      λ F. let P = lossy_copy_puts d F.header F.readable bases F.rows before after T.answer F.asked T.left in
          (T.told_size ∙ ap length_word P.answered, P.output),
    )
