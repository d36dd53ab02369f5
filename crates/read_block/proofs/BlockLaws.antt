-- A block as lines, each of which goes by what `line` says of it. Assumes nothing.
use mathlib.Core.Bool.{Bool, true, false, cond, not, ◌&&◌}
use mathlib.Core.List.{List}
use mathlib.Core.Path.{◌≡◌, refl, sym, ◌∙◌}
use Prim.Native.Nat.{ℕ, zero, suc, ◌+◌, ◌*◌, ◌≤◌, ◌<◌}
use native.Mathlib.Nat.{le_refl, zero-add}
use native.Mathlib.Numerals.{add-one}
use native.Mathlib.Omega.{arith}
use lib.Dec.{eqb}
use lib.ListN.{length}
use Rattle.code.specs.declared.Place.{Place}
use Rattle.line_totals.specs.Inside.{with_line}
use Rattle.line_totals.specs.declared.Totals.{Totals}
use Rattle.line_totals.specs.declared.TightLines.{TightLines}
use Rattle.statistics.specs.declared.Record.{Record}
use Rattle.colour_lines.specs.ColourLines.{zero_lines, turned}
use Rattle.colour_lines.proofs.LineLaws.{length_turned}
use Rattle.image_map.specs.Places.{width_of, Changed}
use Rattle.image_map.specs.Inside.{in_rows, emitted_sample}
use Rattle.image_map.specs.declared.Part.{Part}
use Rattle.pass_steps.specs.Values.{quantisers_of}
use Rattle.pass_steps.specs.declared.Quantisers.{Quantisers}
use Rattle.read_block.specs.Blocks.{State, read_line, read_line_at, before_line, start_state, read_lines, read_from, totals_in}
use Rattle.read_block.specs.Inside.{tight_in, tight_of}
use Rattle.read_block.specs.Walks.{start_place, state_at, totals_at, IsWalked}
use Rattle.read_block.specs.Records.{start_records, restarted_main, base_of, is_restarted}
use Rattle.read_block.specs.Lent.{Buffers}
use Rattle.read_block.specs.WindowedLines.{samples_in, Held, IsLinedIn, LineReadIn, ReadOn, CutOn, IsReadOn}
use Rattle.read_block.specs.declared.Form.{Form}
use Rattle.read_block.proofs.ResumeLaws.{from_top, from_none, from_more}
use Rattle.read_block.proofs.KeepLaws.{lines_long}
use Rattle.read_block.proofs.WindowTwins.{held_turn}
use Rattle.std.specs.Prelude.{Err, None, Ok, Result, Some, Option}

-- the quantisers of a line have its base
pub base_known : (bits q : ℕ) (Q : Quantisers) → Q ≡ quantisers_of bits q → (Q.base ≡ q) × (Q ≡ quantisers_of bits Q.base)
unfolding quantisers_of
base_known bits q Q e = rw e (refl, refl)

-- ---- what a line answered

clash : {X : Type 0} (at : Place) → Some at ≡ None → X
clash at e = let no : ◌≡◌ {A = ℕ} 0 1 = cc in absurd (omega arith)

module _ (windowed xtrans : Bool) (W : ℕ) (tile : List ℕ) (a : Part) (n : ℕ) (before after : Buffers) where
  lined_none : (o : Option State) (r : Option Place) → IsLinedIn windowed xtrans W tile a n o before after r → r ≡ None → o ≡ None
  lined_none None r p e = refl
  lined_none (Some z) r p e = clash _ (sym p.0 ∙ e)

  -- the 18 lines l were read, for which the lines that are kept stand, and the image shows what it is to show of them
  abbrev Gave : Option State → Place → Type 0
  Gave o to =
      (l : List ℕ) × (o ≡ Some (state_at l after.records to)) × Held windowed W 6 l after.lines
      × Changed (λ i. windowed && in_rows a (6 * n) (6 * n + 6) i) (emitted_sample xtrans W tile l a) before.image after.image

  lined_some : (o : Option State) (r : Option Place) (to : Place) → IsLinedIn windowed xtrans W tile a n o before after r → r ≡ Some to → Gave o to
  lined_some None r to p e = clash to (sym e ∙ p)
  lined_some (Some z) r to p e =
      let f : Some to ≡ Some (record { at = z.at; tight = z.tight; long = z.long }) = sym e ∙ p.0 in
      let g : to ≡ record { at = z.at; tight = z.tight; long = z.long } = cc in
      (z.lines, rw (p.2, g), p.1, p.3)

-- ---- the loop over the lines, from line `first` on, which finds the state z

-- n lines were read, and the lines that are kept, v, stand for the 18
pub record LinesRead (windowed : Bool) (F : Form) (bases s : List ℕ) (first : ℕ) (z : State) (n : ℕ) (v : List ℕ) (records : List Record) (from : Place) : Type 0 where
  pub lines : List ℕ
  pub read : read_from F bases s first z n ≡ Some (state_at lines records from)
  pub held : Held windowed (width_of F.xtrans) 6 lines v

pub none_read : (windowed : Bool) (F : Form) (bases s : List ℕ) (first : ℕ) (l v : List ℕ) (records : List Record) (from : Place)
    → Held windowed (width_of F.xtrans) 6 l v → LinesRead windowed F bases s first (state_at l records from) 0 v records from
none_read windowed F bases s first l v records from held = record { lines = l; read = from_none F bases s first (state_at l records from); held = held }

-- where a block starts
pub block_starts : (F : Form) (bases : List ℕ) (records : List Record) (from : Place) → records ≡ start_records F.bits (base_of bases 0) → from ≡ start_place
    → state_at (zero_lines (width_of F.xtrans)) records from ≡ start_state F bases
unfolding start_state
block_starts F bases records from er ef = rw (er, ef)

-- all 18 are kept where they are to be turned, or to be put into the image
pub all_kept_lines : (windowed xtrans : Bool) (W n : ℕ) → W ≡ width_of xtrans → n ≡ samples_in windowed xtrans → not windowed ≡ true → 18 * (W + 2) ≤ n
all_kept_lines false xtrans W n eW en t = rw (eW, en) (le_refl _)
all_kept_lines true xtrans W n eW en t = absurd (let no : ◌≡◌ {A = ℕ} 0 1 = cc in omega arith)

-- line first + n, by what was done before it: the 18 lines are turned
module _ (windowed : Bool) (F : Form) (bases s tile : List ℕ) (a : Part) (first : ℕ) (z : State) (n q : ℕ) (b : Bool) (Q : Quantisers) (v₀ : List ℕ)
    (rs₀ rs₁ : List Record) (from : Place) (start : length z.lines ≡ 18 * (width_of F.xtrans + 2))
    (so_far : LinesRead windowed F bases s first z n v₀ rs₀ from) (depth : F.bits ≤ 16) (eq : q ≡ base_of bases (first + n))
    (eb : b ≡ is_restarted bases (first + n))
    (eQ : Q ≡ quantisers_of F.bits q) (er : rs₁ ≡ cond b (restarted_main F.bits q rs₀) rs₀) (W : ℕ) (eW : W ≡ width_of F.xtrans)
    (before after : Buffers) (ev : before.lines ≡ cond (not windowed) (turned W v₀) v₀) (er₁ : before.records ≡ rs₁) (d : Option Place)
    (answer : LineReadIn windowed F Q s from tile a (first + n) before after d) where
  abbrev U : ℕ
  U = width_of F.xtrans

  abbrev l : List ℕ
  l = turned U so_far.lines

  long : length so_far.lines ≡ 18 * (U + 2)
  long = lines_long F depth s bases first z start n _ so_far.read

  answered : IsLinedIn windowed F.xtrans U tile a (first + n) (read_line F Q.base s (state_at l rs₁ from)) before after d
  answered =
      rw (← er₁) (answer l (length_turned U so_far.lines (omega (arith, long)) ∙ long)
      (held_turn windowed U so_far.lines v₀ before.lines (omega (arith, long)) (rw eW at ev) so_far.held))

  line_is : (o : Option State) → read_line F Q.base s (state_at l rs₁ from) ≡ o → read_from F bases s first z (n + 1) ≡ o
  unfolding read_line_at
  line_is o e =
      let g : before_line F bases (first + n) (state_at so_far.lines rs₀ from) ≡ state_at l rs₁ from = rw (er, eb, eq) in
      from_more F bases s first n z _ so_far.read ∙ rw (g, ← eq, ← (base_known F.bits q Q eQ).0) e

  pub line_more : (to : Place) → d ≡ Some to → Gave windowed F.xtrans U tile a (first + n) before after (read_from F bases s first z (n + 1)) to
  line_more to ok =
      let g = lined_some windowed F.xtrans U tile a (first + n) before after _ d to answered ok in
      (g.0, line_is _ g.1, g.2, g.3)

  pub line_cut : d ≡ None → read_from F bases s first z (n + 1) ≡ None
  line_cut ok = line_is _ (lined_none windowed F.xtrans U tile a (first + n) before after _ d answered ok)

-- the lines that have only tight codes
module _ (read : ℕ → Option State) where
  pub tight_none : (z : State) (t : Totals) → read 0 ≡ Some z → t ≡ totals_in (Some z) → record { lines = 0; totals = t } ≡ tight_of read 0
  unfolding tight_in
  tight_none z t e et = rw (e, et)

  module _ (n : ℕ) (z : State) (has : read (n + 1) ≡ Some z) where
    next : read (suc n) ≡ Some z
    next = rw add-one at has

    -- one line more joins them or not
    joins : (m : ℕ) (b : Bool)
        → ◌≡◌ {A = TightLines} (cond b (record { lines = suc n; totals = totals_in (Some z) }) (record { lines = m; totals = totals_in (read m) }))
        (record { lines = cond b (suc n) m; totals = totals_in (read (cond b (suc n) m)) })
    joins m true = rw next
    joins m false = refl

    pub tight_more : (before after : TightLines) (t : Totals) → before ≡ tight_of read n → t ≡ totals_in (Some z) → after ≡ with_line before n z.tight t
        → after ≡ tight_of read (n + 1)
    unfolding tight_in
    tight_more before after t eb et ea =
        let m : ℕ = tight_in read n in
        ea ∙ rw (eb, et, add-one, next) (joins m (eqb m n && z.tight))

tight_alike : (f g : ℕ → Option State) → ((n : ℕ) → f n ≡ g n) → (n : ℕ) → tight_in f n ≡ tight_in g n
unfolding tight_in
tight_alike f g e zero = refl
tight_alike f g e (suc n) = rw (tight_alike f g e n, e (suc n))

-- ---- the answers

pub read_all : (windowed : Bool) (F : Form) (bases s : List ℕ) (first : ℕ) (z : State) (n more : ℕ) (all : Totals) (tight : TightLines) (after : Buffers) (from : Place)
    → n ≡ more → LinesRead windowed F bases s first z n after.lines after.records from → all ≡ totals_at from
    → tight ≡ tight_of (λ m. read_from F bases s first z m) n → ReadOn windowed F bases s first z more all tight after
read_all windowed F bases s first z n more all tight after from e so_far ea et =
    record {
      end = state_at so_far.lines after.records from;
      read = rw e at so_far.read;
      all_is = ea;
      tight_is = rw e at et;
      held = so_far.held;
      records = refl;
    }

pub cut_at : (F : Form) (bases s : List ℕ) (first : ℕ) (z : State) (more n : ℕ) (totals : Totals) (y : State) → n < more → read_from F bases s first z n ≡ Some y
    → totals ≡ totals_in (Some y) → read_from F bases s first z (n + 1) ≡ None → CutOn F bases s first z more (first + n) totals
cut_at F bases s first z more n totals y lt read et cut =
    record { count = n; before = y; inside = lt; line_is = refl; read = read; cut = rw add-one at cut; totals_are = et }

-- from the top it is what a walk says
pub walked_top : (windowed : Bool) (F : Form) (bases s : List ℕ) (z : State) (count : ℕ) (after : Buffers) (r : Result (Totals × TightLines) (ℕ × Totals)) → z ≡ start_state F bases
    → IsReadOn windowed F bases s 0 z count after r → IsWalked F bases s count r
walked_top windowed F bases s z count after (Ok (all, tight)) e p =
    let f : (n : ℕ) → read_from F bases s 0 z n ≡ read_lines F bases s n = λ n. rw e (from_top F bases s n) in
    let m : tight_in (λ n. read_from F bases s 0 z n) count ≡ tight_in (λ n. read_lines F bases s n) count = tight_alike _ _ f count in
    record {
      end = p.end;
      read = sym (f count) ∙ p.read;
      all_is = p.all_is ∙ rw (← f count, p.read);
      tight_is = p.tight_is ∙ rw (m, f (tight_in (λ n. read_lines F bases s n) count));
    }
walked_top windowed F bases s z count after (Err (line, before)) e p =
    let f : (n : ℕ) → read_from F bases s 0 z n ≡ read_lines F bases s n = λ n. rw e (from_top F bases s n) in
    let g : line ≡ p.count = p.line_is ∙ zero-add p.count in
    rw g (record {
      before = p.before;
      inside = p.inside;
      read = sym (f p.count) ∙ p.read;
      cut = sym (f (suc p.count)) ∙ p.cut;
      totals_are = p.totals_are ∙ rw (← f p.count, p.read);
    })
