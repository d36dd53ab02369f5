-- Blocks that are laid one after the other behind what is to stand before them. Assumes nothing.
use borrow.Author.Tests.{lt-ltb, le-ltb, ltb-true, ltb-false, eqb-true}
use mathlib.Core.Bool.{Bool, true, false, cond, ◌||◌}
use mathlib.Core.List.{List, [], ◌++◌, append_assoc, append-nil}
use mathlib.Core.Path.{◌≡◌, refl, sym, ap, ◌∙◌, subst}
use Prim.Native.Nat.{ℕ, zero, suc, ◌+◌, ◌-◌, ◌*◌, ◌^◌, ◌≤◌, ◌<◌}
use native.Mathlib.Nat.{mul-zero}
use native.Mathlib.Numerals.{add-one}
use native.Mathlib.Omega.{arith}
use lib.Dec.{ltb}
use lib.ListN.{length, get_or, set, take, drop, replicate, length-append, length-replicate, take-append-drop}
use lib.Seq.{take_at, drop_at, drop-drop, length-take-le, get_or-set_same, get_or-set_other, get_or-take}
use Rattle.numbers.specs.Numbers.{least_from}
use Rattle.numbers.proofs.LeastLaws.{least, least_is}
use Rattle.numbers.proofs.OrderLaws.{split}
use Rattle.pass_schedule.specs.Steps.{upto}
use Rattle.stream.specs.Headers.{parse_of}
use Rattle.stream.specs.Inside.{Ruled}
use Rattle.stream.specs.declared.header.FujiHeader.{FujiHeader}
use Rattle.stream.specs.declared.header.Refusal.{Refusal}
use Rattle.stream.specs.declared.header.Refusal.TheVariants.{Truncated, ShortOutput}
use Rattle.stream.specs.Streams.{open_of, row_start}
use Rattle.stream.proofs.StreamLaws.{opened}
use Rattle.read_block.specs.Images.{form_of, bytes_in, bases_in, lines_read}
use Rattle.read_block.specs.Lent.{Outputs, cleared_lines, cleared_records}
use Rattle.write_block.specs.WrittenAnswers.{length_answer, written_out}
use Rattle.stream_front.specs.Fronts.{front_bytes, sum_of, is_long, first_long, front_answer, front_out, LeftFront}
use Rattle.stream_front.proofs.FrontLaws.{answer_length, front_size_is}
use Rattle.theorem_whole_streams.specs.Assembled.{length_of, Parts}
use Rattle.theorem_whole_streams.specs.Kinds.{flagged, set_in}
use Rattle.theorem_whole_streams.specs.Fronts.{row_in}
use Rattle.theorem_whole_streams.proofs.AssembledHolds.{assembled_opens}
use Rattle.theorem_whole_streams.proofs.FrontHolds.{front_assembles}
use Rattle.theorem_whole_streams.proofs.KindsHold.{flagged_parses}
use Rattle.theorem_whole_streams.proofs.StandLaws.{length_upto}
use Rattle.theorem_whole_streams.proofs.TightenedHolds.{assembled_same, written_short}
use Rattle.stream_copies.specs.MadeStreams.{is_tight_call, bases_of, new_header, new_block, new_front, new_stream, is_cut, made, made_answer}
use Rattle.stream_copies.specs.MadeStreams.{made_bytes}
use Rattle.stream_copies.specs.Inside.{RowsFit, put_answer, BlockPut, BlocksMade}
use Rattle.stream_copies.proofs.BlockLaws.{row_long, lines_again, records_again}
use Rattle.std.specs.Prelude.{Err, Ok, Result}

module _ (d : List ℕ) (h : FujiHeader) (rows : List ℕ) where
  abbrev N : ℕ → List ℕ
  N = new_block d h rows

  abbrev front : ℕ
  front = new_front h rows

  -- what stands before block b while blocks are laid
  abbrev laid_to : ℕ → List ℕ
  laid_to b = replicate front 0 ++ upto N b

  abbrev pub stops : ℕ → ℕ → Bool
  stops room b = is_cut d h b || ltb room (front + length_of N (suc b))

  pub laid_long : (b : ℕ) → length (laid_to b) ≡ front + length_of N b
  laid_long b = length-append (replicate front 0) (upto N b) ∙ rw (length-replicate {A = ℕ} front 0, length_upto N b)

  laid_next : (b : ℕ) → laid_to (suc b) ≡ laid_to b ++ N b
  unfolding upto
  laid_next b = sym (append_assoc (replicate front 0) (upto N b) (N b))

  length_next_lem : (b : ℕ) → length_of N (suc b) ≡ length_of N b + length (N b)
  unfolding length_of
  length_next_lem b = refl

  -- where no block stops it, all are made
  pub made_whole : (room : ℕ) → ((b : ℕ) → b < h.blocks → stops room b ≡ false) → made d h rows room ≡ h.blocks
  unfolding made
  made_whole room goes =
      let Z = least h.blocks (stops room) 0 in
      let r : ℕ = least_from h.blocks (stops room) 0 in
      split h.blocks r (λ u. omega (arith, Z.high)) (λ u. absurd (clash (stops room r) (Z.holds (omega arith)) (goes r u)))
    where
      clash : (t : Bool) → t ≡ true → t ≡ false → ⊥
      clash t e g = let no : ◌≡◌ {A = ℕ} 0 1 = cc in omega arith

-- b blocks are laid
pub record Laid (d : List ℕ) (h : FujiHeader) (rows : List ℕ) (before now : Outputs) (lengths : List ℕ) (at b : ℕ) : Type 0 where
  pub place : at ≡ new_front h rows + length_of (new_block d h rows) b
  pub room : at ≤ length before.out
  pub output : now.out ≡ (replicate (new_front h rows) 0 ++ upto (new_block d h rows) b) ++ drop at before.out
  pub lines : cleared_lines h.xtrans now.lines ≡ cleared_lines h.xtrans before.lines
  pub records : cleared_records now.records ≡ cleared_records before.records
  pub later : 0 < b → (now.lines ≡ cleared_lines h.xtrans before.lines) × (now.records ≡ cleared_records before.records)
  pub sizes : (i : ℕ) → i < b → get_or lengths i 0 ≡ length (new_block d h rows i)
  pub goes : (i : ℕ) → i < b → (is_cut d h i || ltb (length before.out) (new_front h rows + length_of (new_block d h rows) (suc i))) ≡ false

module _ (d : List ℕ) (h : FujiHeader) (rows : List ℕ) (before : Outputs) where
  pub laid_none : (lengths : List ℕ) (n : ℕ) → n ≡ new_front h rows → n ≤ length before.out → take n before.out ≡ replicate n 0
      → Laid d h rows before before lengths n 0
  unfolding upto length_of
  laid_none lengths n en room zeros =
      let z : take n before.out ≡ replicate (new_front h rows) 0 ++ [] = zeros ∙ (rw en (sym (append-nil (replicate (new_front h rows) 0)))) in
      record {
        place = rw en (omega arith);
        room = room;
        output = sym (take-append-drop n before.out) ∙ ap (λ (x : List ℕ). x ++ drop n before.out) z;
        lines = refl;
        records = refl;
        later = λ l. absurd (omega arith);
        sizes = λ i l. absurd (omega arith);
        goes = λ i l. absurd (omega arith);
      }

  module _ (now after : Outputs) (lengths : List ℕ) (at b : ℕ) (L : Laid d h rows before now lengths at b) (inside : b < h.blocks)
      (same : length now.out ≡ length before.out) where
    long : length (laid_to d h rows b) ≡ at
    long = laid_long d h rows b ∙ sym L.place

    taken : take at now.out ≡ laid_to d h rows b
    taken = ap (take at) L.output ∙ take_at (laid_to d h rows b) (drop at before.out) at long

    dropped : drop at now.out ≡ drop at before.out
    dropped = ap (drop at) L.output ∙ drop_at (laid_to d h rows b) (drop at before.out) at long

    -- by the answer
    length_by : (t : Bool) (k room n : ℕ) (x : Refusal) → cond t (Err x) (length_answer k room) ≡ Ok n → (t ≡ false) × ((n ≡ k) × (k ≤ room))
    length_by true k room n x e = let no : ◌≡◌ {A = ℕ} 0 1 = cc in absurd (omega arith)
    length_by false k room n x e = go (ltb room k) refl e
      where
        go : (s : Bool) → ltb room k ≡ s → cond s (Err ShortOutput) (Ok k) ≡ Ok n → (false ≡ false) × ((n ≡ k) × (k ≤ room))
        go true p f = let no : ◌≡◌ {A = ℕ} 0 1 = cc in absurd (omega arith)
        go false p f = (refl, (cc, ltb-false room k p))

    pub laid_more : (n : ℕ) (a : Result ℕ Refusal) → BlockPut d h rows b at now after a → a ≡ Ok n → b < length lengths
        → Laid d h rows before after (set lengths b n) (at + n) (b + 1)
    unfolding put_answer
    laid_more n a p ea hb =
        let k = length_by (is_cut d h b) (length (new_block d h rows b)) (length now.out - at) n
        (Truncated b (lines_read (form_of h) (bases_in d b) (bytes_in d b) h.lines)) (sym p.answered ∙ ea) in
        let next = length_next_lem d h rows b in
        let fits : front d h rows + length_of (N d h rows) (suc b) ≤ length before.out = omega (arith, L.place, L.room) in
        let c : cleared_lines h.xtrans after.lines ≡ cleared_lines h.xtrans before.lines = lines_again h.xtrans now.lines
        after.lines p.lines ∙ L.lines in
        let r : cleared_records after.records ≡ cleared_records before.records = records_again now.records after.records p.records ∙
        L.records in
        rw (add-one b) (record {
          place = omega (arith, L.place);
          room = omega (arith, L.room);
          output =
              p.output ∙ ap (λ (x : List ℕ). x ++ written_out a (new_block d h rows b) (drop at now.out)) taken
              ∙ ap (λ (x : Result ℕ Refusal). laid_to d h rows b ++ written_out x (new_block d h rows b) (drop at now.out)) ea
              ∙ ap (λ (x : List ℕ). laid_to d h rows b ++ (new_block d h rows b ++ drop n x)) dropped
              ∙ ap (λ (x : List ℕ). laid_to d h rows b ++ (new_block d h rows b ++ x)) (drop-drop n at before.out)
              ∙ sym (append_assoc (laid_to d h rows b) (new_block d h rows b) (drop (at + n) before.out))
              ∙ ap (λ (x : List ℕ). x ++ drop (at + n) before.out) (sym (laid_next d h rows b));
          lines = c;
          records = r;
          later = λ l. (p.lines ∙ L.lines, p.records ∙ L.records);
          sizes = λ i l. split b i
              (λ u. let q : i ≡ b = omega arith in rw q (get_or-set_same lengths b n 0 hb ∙ k.1.0))
              (λ u. get_or-set_other lengths b i n 0 (λ q. omega arith) ∙ L.sizes i u);
          goes = λ i l. split b i
              (λ u. let q : i ≡ b = omega arith in rw (q, k.0) (le-ltb (length before.out) (front d h rows + length_of (N d h rows) (suc b)) fits))
              (λ u. L.goes i u);
        })

    -- a block that is refused
    stop_by : (t : Bool) (k room most need : ℕ) (x y : Refusal) → (room < k → most < need) → cond t (Err x) (length_answer k room) ≡ Err y
        → ((t || ltb most need) ≡ true) × (Err y ≡ cond {A = Result ℕ Refusal} t (Err x) (Err ShortOutput))
    stop_by true k room most need x y f e = (refl, sym e)
    stop_by false k room most need x y f e = go (ltb room k) refl e
      where
        go : (s : Bool) → ltb room k ≡ s → cond s (Err ShortOutput) (Ok k) ≡ Err y → (ltb most need ≡ true) × ◌≡◌ {A = Result ℕ Refusal} (Err y) (Err ShortOutput)
        go true p g = (lt-ltb most need (f (ltb-true room k p)), sym g)
        go false p g = let no : ◌≡◌ {A = ℕ} 0 1 = cc in absurd (omega arith)

    made_here : stops d h rows (length before.out) b ≡ true → made d h rows (length before.out) ≡ b
    unfolding made
    made_here e = least_is h.blocks (stops d h rows (length before.out)) 0 b (omega arith) (omega arith) (λ j z l. L.goes j l) e

    pub laid_cut : (y : Refusal) (a : Result ℕ Refusal) → BlockPut d h rows b at now after a → a ≡ Err y → BlocksMade d h rows before after a
    unfolding put_answer
    laid_cut y a p ea =
        let next = length_next_lem d h rows b in
        let k =
        stop_by (is_cut d h b) (length (new_block d h rows b)) (length now.out - at) (length before.out) (front d h rows + length_of (N d h rows) (suc b))
        (Truncated b (lines_read (form_of h) (bases_in d b) (bytes_in d b) h.lines)) y (λ l. omega (arith, L.place, L.room)) (sym p.answered ∙ ea) in
        let m = made_here k.0 in
        let t = lt-ltb b h.blocks inside in
        let is : made_bytes d h rows (length before.out) ≡ laid_to d h rows b = rw (m, t) in
        record {
          answered = ea ∙ k.1 ∙ rw (m, t);
          output =
              p.output ∙ ap (λ (x : Result ℕ Refusal). take at now.out ++ written_out x (new_block d h rows b) (drop at now.out)) ea
              ∙ take-append-drop at now.out ∙ L.output
              ∙ ap (λ (n : ℕ). laid_to d h rows b ++ drop n before.out) (sym long)
              ∙ ap (λ (x : List ℕ). x ++ drop (length x) before.out) (sym is);
          lines = p.lines ∙ L.lines;
          records = p.records ∙ L.records;
        }

-- ---- all blocks, and what stands before them

module _ (d : List ℕ) (h : FujiHeader) (rows : List ℕ) (opens : open_of d ≡ Ok h) (fit : RowsFit h rows) where
  R : Ruled h
  R = (opened d h opens).ruled

  parses : parse_of (flagged (is_tight_call rows) d) ≡ Ok (new_header h rows)
  parses = flagged_parses (is_tight_call rows) d h (opened d h opens).parsed

  short : (b : ℕ) → length (new_block d h rows b) < 2 ^ 32
  short b = written_short h R (bases_of h rows b) (set_in d h b)

  rows_all : (t : Bool) → is_tight_call rows ≡ t → length rows ≡ h.blocks * cond t 0 h.lines
  rows_all true e = eqb-true (length rows) 0 e ∙ sym (mul-zero h.blocks)
  rows_all false e = fit e

  rows_each : (t : Bool) → is_tight_call rows ≡ t → (b : ℕ) → b < h.blocks → length (cond t [] (take h.lines (drop (b * h.lines) rows))) ≡ cond t 0
      h.lines
  rows_each true e b l = refl
  rows_each false e b l = row_long h rows b l (fit e)

  rows_same : (t : Bool) (b : ℕ) → take (cond t 0 h.lines) (drop (b * cond t 0 h.lines) rows) ≡ cond t [] (take h.lines (drop (b * h.lines) rows))
  rows_same true b = refl
  rows_same false b = refl

  parts : Parts (new_header h rows) (bases_of h rows) (new_block d h rows)
  parts = record { rows_long = λ b l. rows_each (is_tight_call rows) refl b l; short = λ b l. short b }

  pub size : length (new_stream d h rows) ≡ new_front h rows + length_of (new_block d h rows) h.blocks
  size = (assembled_opens (flagged (is_tight_call rows) d) (new_header h rows) parses (bases_of h rows) (new_block d h rows) parts).size

  least_bytes : (t : Bool) (b : ℕ) → new_front h rows ≤ length (cond t (replicate (new_front h rows) 0 ++ upto (new_block d h rows) b) (new_stream d h rows))
  least_bytes true b = omega (arith, laid_long d h rows b)
  least_bytes false b = omega (arith, size)

  -- what is put reaches over all that stands before the blocks
  pub made_least : (room : ℕ) → new_front h rows ≤ length (made_bytes d h rows room)
  made_least room = least_bytes (ltb (made d h rows room) h.blocks) (made d h rows room)

module _ (d : List ℕ) (h : FujiHeader) (rows : List ℕ) (before now : Outputs) (lengths : List ℕ) (at : ℕ)
    (L : Laid d h rows before now lengths at h.blocks)
    (opens : open_of d ≡ Ok h) (fit : RowsFit h rows) (sixteen : length lengths ≡ 16) (same : length now.out ≡ length before.out) where
  abbrev K : ℕ
  K = h.blocks

  abbrev H : FujiHeader
  H = new_header h rows

  abbrev head : List ℕ
  head = flagged (is_tight_call rows) d

  abbrev lens : List ℕ
  lens = take h.blocks lengths

  lens_long : length (take h.blocks lengths) ≡ h.blocks
  lens_long = length-take-le h.blocks lengths (omega (arith, (R d h rows opens fit).blocks_high))

  lens_are : (i : ℕ) → i < h.blocks → get_or (take h.blocks lengths) i 0 ≡ length (new_block d h rows i)
  lens_are i l = get_or-take h.blocks lengths i 0 l ∙ L.sizes i l

  sum_is : (n : ℕ) → n ≤ h.blocks → sum_of (take h.blocks lengths) n ≡ length_of (new_block d h rows) n
  unfolding sum_of length_of
  sum_is zero l = refl
  sum_is (suc n) l = rw (sum_is n (omega arith), lens_are n l)

  no_long : h.blocks ≤ first_long (take h.blocks lengths)
  unfolding first_long
  no_long =
      let Z = least (length (take h.blocks lengths)) (λ b. is_long (take h.blocks lengths) b) 0 in
      let r : ℕ = least_from (length (take h.blocks lengths)) (λ b. is_long (take h.blocks lengths) b) 0 in
      split h.blocks r (λ u. u)
      (λ u. absurd (let x = ltb-true (2 ^ 32 - 1) (get_or (take h.blocks lengths) r 0) (Z.holds (omega (arith, lens_long))) in omega
      (arith, lens_are r u, short d h rows opens fit r)))

  -- nothing stops it
  made_all : made d h rows (length before.out) ≡ h.blocks
  made_all = made_whole d h rows (length before.out) L.goes

  bytes_are : made_bytes d h rows (length before.out) ≡ new_stream d h rows
  bytes_are = rw (made_all, le-ltb h.blocks h.blocks (omega arith))

  answer_is : made_answer d h rows (length before.out) ≡ Ok (length (new_stream d h rows))
  answer_is = rw (made_all, le-ltb h.blocks h.blocks (omega arith))

  front_is : (lens' : List ℕ) → lens' ≡ take h.blocks lengths
      → front_answer (new_header h rows) rows lens' (length now.out) ≡ Ok (length (new_stream d h rows))
  front_is lens' e =
      rw e (sym (answer_length (new_header h rows) rows (take h.blocks lengths) (length now.out) lens_long
      (rows_all d h rows opens fit (is_tight_call rows) refl) no_long (omega (arith, L.place, L.room)))
      ∙ ap Ok (ap (λ (n : ℕ). row_start (new_header h rows) h.blocks + n) (sum_is h.blocks (omega arith)) ∙ sym (size d h rows opens fit)))

  abbrev bytes : List ℕ
  bytes = front_bytes (flagged (is_tight_call rows) d) (new_header h rows) rows (take h.blocks lengths)

  bytes_long : length bytes ≡ new_front h rows
  bytes_long = front_size_is (flagged (is_tight_call rows) d) (new_header h rows) rows (take h.blocks lengths)

  behind : drop (length bytes) now.out ≡ upto (new_block d h rows) h.blocks ++ drop at before.out
  behind =
      ap (λ (n : ℕ). drop n now.out) bytes_long ∙ ap (drop (new_front h rows))
      (L.output ∙ append_assoc (replicate (new_front h rows) 0) (upto (new_block d h rows) h.blocks) (drop at before.out))
      ∙ drop_at (replicate (new_front h rows) 0) (upto (new_block d h rows) h.blocks ++ drop at before.out) (new_front h rows)
      (length-replicate (new_front h rows) 0)

  whole : bytes ++ upto (new_block d h rows) h.blocks ≡ new_stream d h rows
  whole =
      front_assembles (flagged (is_tight_call rows) d) (new_header h rows) (parses d h rows opens fit) rows (take h.blocks lengths)
      (new_block d h rows) (rows_all d h rows opens fit (is_tight_call rows) refl) (λ b l. (lens_are b l, short d h rows opens fit b))
      ∙ assembled_same (flagged (is_tight_call rows) d) (flagged (is_tight_call rows) d) (new_header h rows) (row_in (new_header h rows) rows)
      (new_block d h rows) (bases_of h rows) (new_block d h rows)
      refl (λ b l. rows_same d h rows opens fit (is_tight_call rows) b) (λ b l. refl)

  output_is : bytes ++ drop (length bytes) now.out ≡ new_stream d h rows ++ drop (length (new_stream d h rows)) before.out
  output_is =
      let n : at ≡ length (new_stream d h rows) = L.place ∙ sym (size d h rows opens fit) in
      ap (λ (x : List ℕ). bytes ++ x) behind ∙ sym (append_assoc bytes (upto (new_block d h rows) h.blocks) (drop at before.out))
      ∙ ap (λ (x : List ℕ). x ++ drop at before.out) whole ∙ ap (λ (m : ℕ). new_stream d h rows ++ drop m before.out) n

  pub laid_all : (hd : List ℕ) → hd ≡ flagged (is_tight_call rows) d → (out' : List ℕ) (a : Result ℕ Refusal)
      → LeftFront hd rows (take h.blocks lengths) (parse_of hd) now.out out' a
      → BlocksMade d h rows before (record { out = out'; lines = now.lines; records = now.records }) a
  laid_all hd eh out' a p =
      let q : (a ≡ front_answer (new_header h rows) rows (take h.blocks lengths) (length now.out)) ×
      (out' ≡ front_out a bytes now.out) = rw (eh, parses d h rows opens fit) at p in
      let l = L.later (omega (arith, (R d h rows opens fit).blocks_low)) in
      let is : a ≡ Ok (length (new_stream d h rows)) = q.0 ∙ front_is (take h.blocks lengths) refl in
      record {
        answered = is ∙ sym answer_is;
        output = q.1 ∙ ap (λ (x : Result ℕ Refusal). front_out x bytes now.out) is ∙ output_is ∙ ap (λ (x : List ℕ). x ++ drop (length x) before.out)
            (sym bytes_are);
        lines = l.0;
        records = l.1;
      }

pub laid_end : (d : List ℕ) (h : FujiHeader) (rows : List ℕ) (before now : Outputs) (lengths : List ℕ) (at b : ℕ) → b ≡ h.blocks → Laid d h rows
    before now lengths at b
    → open_of d ≡ Ok h → RowsFit h rows → length lengths ≡ 16 → length now.out ≡ length before.out
    → (head : List ℕ) → head ≡ flagged (is_tight_call rows) d → (out' : List ℕ) (a : Result ℕ Refusal)
    → LeftFront head rows (take h.blocks lengths) (parse_of head) now.out out' a
    → BlocksMade d h rows before (record { out = out'; lines = now.lines; records = now.records }) a
laid_end d h rows before now lengths at b eb L o fit long same head eh out' a p =
    laid_all d h rows before now lengths at (subst (λ (n : ℕ). Laid d h rows before now lengths at n) eb L) o fit long same head eh out' a p
