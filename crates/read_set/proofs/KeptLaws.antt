-- Lines that are read one by one, each of which is kept in the set. Assumes nothing.
use mathlib.Core.Bool.{Bool, true, false, cond}
use mathlib.Core.List.{List}
use mathlib.Core.Path.{◌≡◌, refl, sym, ap, ◌∙◌}
use Prim.Native.Nat.{ℕ, suc, ◌+◌, ◌*◌, ◌≤◌, ◌<◌}
use native.Mathlib.Nat.{add-zero, zero-add, zero-mul, mul-le-mul_right}
use native.Mathlib.Numerals.{add-one}
use native.Mathlib.Omega.{arith}
use lib.Dec.{eqb}
use lib.ListN.{length, length-replicate}
use Rattle.statistics.specs.declared.Record.{Record}
use Rattle.code.specs.declared.Place.{Place}
use Rattle.line_totals.specs.Totals.{no_totals}
use Rattle.line_totals.specs.Inside.{with_line}
use Rattle.line_totals.specs.declared.Totals.{Totals}
use Rattle.line_totals.specs.declared.TightLines.{TightLines}
use Rattle.colour_lines.specs.ColourLines.{zero_lines}
use Rattle.colour_lines.specs.Sets.{line_size, set_size}
use Rattle.image_map.specs.Places.{width_of}
use Rattle.read_block.specs.Blocks.{State, start_state, read_lines, read_from, totals_in}
use Rattle.read_block.specs.Inside.{tight_in, tight_of}
use Rattle.read_block.specs.Records.{base_of, start_records, table}
use Rattle.read_block.specs.Images.{lines_read}
use Rattle.read_block.specs.Lent.{Buffers}
use Rattle.read_block.specs.TightBlocks.{read_sample}
use Rattle.read_block.specs.Walks.{start_place, state_at, totals_at, IsWalked}
use Rattle.read_block.specs.WindowedLines.{ReadOn, CutOn, IsReadOn}
use Rattle.read_block.specs.declared.Form.{Form}
use Rattle.read_block.proofs.BlockLaws.{block_starts, tight_none, tight_more}
use Rattle.read_block.proofs.DecodeLaws.{walked_lines}
use Rattle.read_block.proofs.KeepLaws.{lines_long, lines_few}
use Rattle.read_block.proofs.ResumeLaws.{from_top, from_none, goes_on}
use Rattle.read_block.proofs.TableLaws.{table_length}
use Rattle.read_set.specs.HandedSets.{set_with, put_over}
use Rattle.read_set.specs.Inside.{twelve, next_place}
use Rattle.read_set.proofs.PutLaws.{put_none, put_after}
use Rattle.read_set.proofs.SetLaws.{set_more}
use Rattle.std.specs.Prelude.{Err, Ok, Result, None, Option, Some}

-- n lines of the block s were read, and stand in the set
pub record Kept (F : Form) (bases s set₀ : List ℕ) (n : ℕ) (lines : List ℕ) (rs : List Record) (set : List ℕ) (place : Place) (tight : TightLines)
    (all : Totals) : Type 0 where
  pub read : read_lines F bases s n ≡ Some (state_at lines rs place)
  pub tight_is : tight ≡ tight_of (λ m. read_lines F bases s m) n
  pub all_is : all ≡ totals_at place
  pub set_is : set ≡ put_over set₀ 0 (set_with F bases n s)

module _ (F : Form) (bases s set₀ : List ℕ) where
  abbrev W : ℕ
  W = width_of F.xtrans

  set_long : (n : ℕ) → length (set_with F bases n s) ≡ set_size W n
  unfolding set_with
  set_long n = table_length (read_sample F bases s) (set_size W n)

  none_kept : set₀ ≡ put_over set₀ 0 (set_with F bases 0 s)
  unfolding set_with table
  none_kept = rw (zero-mul (line_size W)) (put_none set₀ 0)

  start_read : read_lines F bases s 0 ≡ Some (start_state F bases)
  start_read = sym (from_top F bases s 0) ∙ from_none F bases s 0 (start_state F bases)

  -- no line yet
  pub kept_none : (lines : List ℕ) (rs : List Record) (place : Place) (t all : Totals) → lines ≡ zero_lines W → rs ≡ start_records F.bits (base_of bases 0)
      → place ≡ start_place → t ≡ no_totals → all ≡ no_totals
      → Kept F bases s set₀ 0 lines rs set₀ place (record { lines = 0; totals = t }) all
  kept_none lines rs place t all el er ep et ea =
      let z : state_at lines rs place ≡ start_state F bases = ap (λ (l : List ℕ). state_at l rs place) el ∙ block_starts F bases rs place er ep in
      let r : read_lines F bases s 0 ≡ Some (state_at lines rs place) = start_read ∙ ap Some (sym z) in
      let n : no_totals ≡ totals_at place = rw ep in
      record {
        read = r;
        tight_is = tight_none (λ m. read_lines F bases s m) (state_at lines rs place) t r (et ∙ n);
        all_is = ea ∙ n;
        set_is = none_kept;
      }

  -- what holds of scratch after any lines
  module _ (depth : F.bits ≤ 16) (n : ℕ) (z : State) (e : read_lines F bases s n ≡ Some z) where
    pub state_long : length z.lines ≡ 18 * (W + 2)
    unfolding start_state
    state_long = lines_long F depth s bases 0 (start_state F bases) (length-replicate (18 * (W + 2)) 0) n z (from_top F bases s n ∙ e)

    pub state_few : z.long ≤ z.at.0
    unfolding start_state
    state_few = lines_few F depth s bases 0 (start_state F bases) (omega arith) n z (from_top F bases s n ∙ e)

  -- one line more
  module _ (depth : F.bits ≤ 16) (count n : ℕ) (inside : n < count) (room : length set₀ ≡ set_size W count) (lines : List ℕ) (rs : List Record) (set : List ℕ)
      (place : Place) (tight : TightLines) (all : Totals) (k : Kept F bases s set₀ n lines rs set place tight all) (after : Buffers) (r : Result (Totals × TightLines) (ℕ × Totals))
      (answer : IsReadOn false F bases s n (state_at lines rs place) 1 after r) where
    fits : 0 + length (set_with F bases n s) ≤ length set₀
    fits = let m : n * line_size W ≤ count * line_size W = mul-le-mul_right (line_size W) (omega arith) in omega (arith, set_long n)

    one_tight : (b : Bool) → eqb (cond b 1 0) 1 ≡ b
    one_tight true = refl
    one_tight false = refl

    tight_of_one : (read : ℕ → Option State) (z : State) → read 1 ≡ Some z → tight_in read 1 ≡ cond z.tight 1 0
    unfolding tight_in
    tight_of_one read z e = rw e

    place_of_lem : (more : Totals) (clean : TightLines) (p : ReadOn false F bases s n (state_at lines rs place) 1 more clean after) (to : Place) → to ≡
        next_place more clean
        → p.end ≡ state_at after.lines after.records to
    place_of_lem more clean p to e =
        let read : ℕ → Option State = λ m. read_from F bases s n (state_at lines rs place) m in
        let t : clean.lines ≡ cond p.end.tight 1 0 = ap (λ (x : TightLines). x.lines) p.tight_is ∙ tight_of_one read p.end p.read in
        let u : eqb clean.lines 1 ≡ p.end.tight = rw t (one_tight p.end.tight) in
        rw (e, p.held, p.records, u, p.all_is)

    next_read : (more : Totals) (clean : TightLines) (p : ReadOn false F bases s n (state_at lines rs place) 1 more clean after) (to : Place) → to ≡
        next_place more clean
        → read_lines F bases s (n + 1) ≡ Some (state_at after.lines after.records to)
    next_read more clean p to e = sym (goes_on F bases s n 1 (state_at lines rs place) k.read) ∙ p.read ∙ ap Some (place_of_lem more clean p to e)

    set_next : (z : State) → read_lines F bases s (n + 1) ≡ Some z → (set' : List ℕ) → set' ≡ put_over set (n * line_size W) (twelve W z.lines)
        → set' ≡ put_over set₀ 0 (set_with F bases (n + 1) s)
    set_next z e set' es =
        let e' : read_lines F bases s (suc n) ≡ Some z = rw add-one at e in
        let m = set_more F bases s n z e' (state_long depth (n + 1) z e) in
        let p = put_after set₀ 0 (set_with F bases n s) (twelve W z.lines) (set_size W n) (set_long n) fits in
        es ∙ ap (λ (l : List ℕ). put_over l (n * line_size W) (twelve W z.lines)) k.set_is
        ∙ ap (λ (a : ℕ). put_over (put_over set₀ 0 (set_with F bases n s)) a (twelve W z.lines)) (sym (zero-add (n * line_size W)))
        ∙ p ∙ ap (put_over set₀ 0) (sym m) ∙ ap (λ (a : ℕ). put_over set₀ 0 (set_with F bases a s)) (sym (add-one n))

    more_kept : (more : Totals) (clean : TightLines) → ReadOn false F bases s n (state_at lines rs place) 1 more clean after
        → (to : Place) → to ≡ next_place more clean → (tight' : TightLines) → tight' ≡ with_line tight n to.tight more
        → (w : ℕ) → w ≡ W → (set' : List ℕ) → set' ≡ put_over set (n * line_size w) (twelve w after.lines)
        → Kept F bases s set₀ (n + 1) after.lines after.records set' to tight' more
    more_kept more clean p to e tight' et w ew set' es =
        let r = next_read more clean p to e in
        let a : more ≡ totals_at to = rw e in
        record {
          read = r;
          tight_is = tight_more (λ m. read_lines F bases s m) n (state_at after.lines after.records to) r tight tight' more k.tight_is a et;
          all_is = a;
          set_is = set_next (state_at after.lines after.records to) r set' (rw ew at es);
        }

    pub kept_more : (more : Totals) (clean : TightLines) → r ≡ Ok (more, clean)
        → (to : Place) → to ≡ next_place more clean → (tight' : TightLines) → tight' ≡ with_line tight n to.tight more
        → (w : ℕ) → w ≡ W → (set' : List ℕ) → set' ≡ put_over set (n * line_size w) (twelve w after.lines)
        → Kept F bases s set₀ (n + 1) after.lines after.records set' to tight' more
    kept_more more clean er = more_kept more clean (rw er at answer)

    -- or it is truncated
    cut_walked : (line : ℕ) (t : Totals) → CutOn F bases s n (state_at lines rs place) 1 line t → IsWalked F bases s count (Err (line, t)) × (line ≡ n)
    cut_walked line t p =
        let z : p.count ≡ 0 = omega (arith, p.inside) in
        let l : line ≡ n = p.line_is ∙ rw z (add-zero n) in
        let same : Some p.before ≡ Some (state_at lines rs place) = sym p.read ∙ rw z (from_none F bases s n (state_at lines rs place)) in
        let c : read_lines F bases s (suc n) ≡ None = ap (λ (m : ℕ). read_lines F bases s m) (sym (add-one n)) ∙ sym
        (goes_on F bases s n 1 (state_at lines rs place) k.read) ∙ (rw z at p.cut) in (
          rw l (record {
            before = state_at lines rs place;
            inside = omega arith;
            read = k.read;
            cut = c;
            totals_are = p.totals_are ∙ ap totals_in (same ∙ sym k.read);
          }),
          l,
        )

    pub kept_cut : (line : ℕ) (t : Totals) → r ≡ Err (line, t)
        → IsWalked F bases s count r × (set ≡ put_over set₀ 0 (set_with F bases (lines_read F bases s count) s))
    kept_cut line t er =
        let p = cut_walked line t (rw er at answer) in
        let m : lines_read F bases s count ≡ n = sym (walked_lines F bases s count (Err (line, t)) p.0) ∙ p.1 in
        (rw er p.0, rw m k.set_is)

  -- all lines
  pub kept_all : (count n : ℕ) → n ≡ count → (lines : List ℕ) (rs : List Record) (set : List ℕ) (place : Place) (tight : TightLines) (all : Totals)
      → Kept F bases s set₀ n lines rs set place tight all
      → IsWalked F bases s count (Ok (all, tight)) × (set ≡ put_over set₀ 0 (set_with F bases (lines_read F bases s count) s))
  kept_all count n en lines rs set place tight all k =
      let r : read_lines F bases s count ≡ Some (state_at lines rs place) = rw en at k.read in
      let w : IsWalked F bases s count (Ok (all, tight)) =
      record { end = state_at lines rs place; read = r; all_is = k.all_is ∙ ap totals_in (sym r); tight_is = rw en at k.tight_is } in
      let m : lines_read F bases s count ≡ n = sym (walked_lines F bases s count (Ok (all, tight)) w) ∙ sym en in
      (w, rw m k.set_is)
