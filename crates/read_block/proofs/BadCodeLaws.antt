-- The first bad code: it is inside, it is not tight, and there is none exactly where all codes are tight. Assumes nothing.
use mathlib.Core.Bool.{Bool, true, false, cond, ◌&&◌, and-true, and-false, false≢true}
use mathlib.Core.List.{List, [], ◌∷◌}
use mathlib.Core.Logic.{◌↔◌}
use mathlib.Core.Path.{◌≡◌, refl, sym, ap, ◌∙◌, subst}
use Prim.Native.Nat.{ℕ, zero, suc, ◌+◌, ◌*◌, ◌/◌, ◌^◌, ◌≤◌, ◌<◌}
use native.Mathlib.Omega.{arith}
use borrow.Author.Tests.{lt-ltb, le-ltb, le-leb, lt-leb, eq-eqb, ne_eqb}
use lib.Dec.{leb, eqb}
use lib.ListN.{length}
use Rattle.numbers.proofs.OrderLaws.{split}
use Rattle.bits.specs.Bits.{bit_at, bits_at, zeros, zero_run}
use Rattle.quantiser.specs.Quantisers.{largest}
use Rattle.quantiser.specs.declared.Quantiser.{Quantiser}
use Rattle.code.specs.Codes.{short_code, long_code, code_at}
use Rattle.code.specs.Tight.{is_tight}
use Rattle.code.specs.declared.Code.{Code}
use Rattle.code.proofs.CodeLaws.{code_cases}
use Rattle.pass_schedule.specs.Steps.{Step, plan_of, pass_steps}
use Rattle.pass_schedule.specs.Steps.{step_place}
use Rattle.pass_steps.specs.Contexts.{step_context, step_look, step_slot}
use Rattle.read_pass.specs.Readings.{Reading, interpolate, take_code, taken, read_step, and_then, reads, read_pass, step_code}
use Rattle.pass_schedule.specs.declared.Plan.{Plan}
use Rattle.image_map.specs.Places.{width_of}
use Rattle.read_block.specs.Records.{base_of}
use Rattle.read_block.specs.Blocks.{State, runs, enter, leave, pass_at, end_line, read_line, before_line, read_line_at, start_state, read_lines}
use Rattle.read_block.specs.Inside.{tight_in}
use Rattle.code.specs.declared.reasons.Reason.{Reason}
use Rattle.code.specs.declared.reasons.Reason.TheVariants.{Large, Zeros, Escape}
use Rattle.code.specs.Reasons.{reason_of, coded_reason}
use Rattle.read_block.specs.BadCodes.{step_reason}
use Rattle.read_block.specs.BadCodes.{BadCode, bad_at, bad_in_steps, first_found, bad_in_pass, bad_in_line, first_bad}
use Rattle.read_block.specs.BadSpots.{step_k, step_quantiser, BadStep, BadIn}
use Rattle.read_block.specs.declared.Form.{Form}
use Rattle.read_block.proofs.RunLaws.{then_both, runs_last}
use Rattle.std.specs.Prelude.{None, Some, Option, option_map}
use Rattle.std.specs.Option.{option_or}
use Rattle.std.proofs.lemmas.Option.{same_Some}

-- ---- the verdict

-- a verdict stays where nothing was found
abbrev pub stays : {B : Type 0} → Option B → Bool → Bool
stays None t = t
stays (Some b) t = false

stays_false : {B : Type 0} (o : Option B) → stays o false ≡ false
stays_false None = refl
stays_false (Some b) = refl

stays_map : {A B : Type 0} (f : A → B) (o : Option A) (t : Bool) → stays (option_map f o) t ≡ stays o t
stays_map f None t = refl
stays_map f (Some a) t = refl

stays_else : {B : Type 0} (o p : Option B) (t : Bool) → stays (option_or o p) t ≡ stays p (stays o t)
stays_else None p t = refl
stays_else (Some b) p t = sym (stays_false p)

-- ---- one code

module _ (M : ℕ) (s : List ℕ) (p k limit raw z : ℕ) (t : Bool) where
  short_stays : z < limit → t && is_tight M (short_code s p k z) ≡ stays (reason_of M k limit (short_code s p k z)) t
  unfolding is_tight reason_of
  short_stays h =
      let v : ℕ = z * 2 ^ k + bits_at s (p + z + 1) k in
      split v M
      (λ l. rw (le-leb v M l, le-ltb M v l, lt-leb limit z h, le-ltb limit z (omega arith)) (and-true t))
      (λ l. rw (lt-leb v M l, lt-ltb M v l) (and-false t))

  loose : (b : Bool) → t && (b && false) ≡ false
  loose b = rw (and-false b) (and-false t)

  long_stays : limit ≤ z → t && is_tight M (long_code s p k limit raw z) ≡ stays (reason_of M k limit (long_code s p k limit raw z)) t
  unfolding is_tight reason_of
  long_stays h =
      let v : ℕ = bits_at s (p + z + 1) raw + 1 in
      split v M
      (λ l. rw (le-leb v M l, le-ltb M v l)
      (split limit (v / 2 ^ k)
      (λ f. rw (le-leb limit (v / 2 ^ k) f, le-ltb (v / 2 ^ k) limit f, le-leb limit z h)
      (split z limit
      (λ e. rw (le-ltb limit z e, eq-eqb z limit (omega arith)) (and-true t))
      (λ e. rw (lt-ltb limit z e, ne_eqb z limit (λ q. omega arith)) (and-false t))))
      (λ f. rw (lt-leb limit (v / 2 ^ k) f, lt-ltb (v / 2 ^ k) limit f, le-leb limit z h) (loose (eqb z limit)))))
      (λ l. rw (lt-leb v M l, lt-ltb M v l) (and-false t))

-- a code that was read has a reason exactly if it is not tight
pub code_stays : (M : ℕ) (s : List ℕ) (p k limit raw : ℕ) (c : Code) (t : Bool) → code_at s p k limit raw ≡ Some c
    → t && is_tight M c ≡ stays (reason_of M k limit c) t
code_stays M s p k limit raw c t e =
    code_cases s p k limit raw {X = Stays c}
    (λ r g. let no : ◌≡◌ {A = ℕ} 0 1 = cc in absurd (omega arith))
    (λ z r h g. let is : short_code s p k z ≡ c = cc in subst Stays is (short_stays M s p k limit raw z t h))
    (λ z r h g. let is : long_code s p k limit raw z ≡ c = cc in subst Stays is (long_stays M s p k limit raw z t h))
  where
    Stays : Code → Type 0
    Stays c = t && is_tight M c ≡ stays (reason_of M k limit c) t

-- worked examples, at 14 bits, lossless, with k 8: a one and eight ones; 41 zeros, a one and 14 zeros; a zero more; a zero more, with
-- five ones and nine zeros after the one; 41 zeros, a one and 14 ones
abbrev reason_at : List ℕ → Option Reason
reason_at s = coded_reason 16383 8 41 (code_at s 0 8 41 14)

pub examples : (reason_at (0xFF ∷ 0x80 ∷ []) ≡ None) × (reason_at (0 ∷ 0 ∷ 0 ∷ 0 ∷ 0 ∷ 0x40 ∷ 0 ∷ []) ≡ Some Escape)
    × (reason_at (0 ∷ 0 ∷ 0 ∷ 0 ∷ 0 ∷ 0x20 ∷ 0 ∷ []) ≡ Some Escape) × (reason_at (0 ∷ 0 ∷ 0 ∷ 0 ∷ 0 ∷ 0x3F ∷ 0 ∷ []) ≡ Some Zeros)
    × (reason_at (0 ∷ 0 ∷ 0 ∷ 0 ∷ 0 ∷ 0x7F ∷ 0xFF ∷ []) ≡ Some Large)
unfolding bit_at bits_at zeros zero_run code_at reason_of
examples = (refl, refl, refl, refl, refl)

-- ---- the steps of a pass

module _ (bits q W : ℕ) (s : List ℕ) where
  pub step_stays : (x : Step) (r z : Reading) → read_step bits q W s x r ≡ Some z → z.tight ≡ stays (step_reason bits q W s x r) r.tight
  unfolding read_step step_reason
  step_stays x r z e = go x.coded (step_code bits q W s x r) refl e
    where
      M : ℕ
      M = largest bits

      go : (b : Bool) (g : Option Code) → step_code bits q W s x r ≡ g
          → cond b (taken bits q (step_place W x) (step_slot q W x r.lines) (step_context W x r.lines) (step_look q W x r.lines) r g)
          (Some (interpolate (step_place W x) (step_context W x r.lines) r)) ≡ Some z
          → z.tight ≡ stays (cond b (coded_reason M (step_k q W x r) (step_quantiser bits q W x r).limit g) None) r.tight
      go true None eg f = let no : ◌≡◌ {A = ℕ} 0 1 = cc in absurd (omega arith)
      go true (Some d) eg f =
          let y : Reading = take_code bits q (step_place W x) (step_slot q W x r.lines) (step_context W x r.lines) (step_look q W x r.lines) d r in
          ap (λ (w : Reading). w.tight) (sym (same_Some y z f))
          ∙ code_stays M s r.at.0 (step_k q W x r) (step_quantiser bits q W x r).limit (step_quantiser bits q W x r).raw d r.tight eg
      go false g eg f =
          let y : Reading = interpolate (step_place W x) (step_context W x r.lines) r in
          ap (λ (w : Reading). w.tight) (sym (same_Some y z f))

  module _ (n i : ℕ) where
    steps_stay : (l : List Step) (r z : Reading) → reads bits q W s l r ≡ Some z → z.tight ≡ stays (bad_in_steps n i bits q W s l r) r.tight
    unfolding reads bad_in_steps and_then
    steps_stay [] r z e = ap (λ (w : Reading). w.tight) (sym (same_Some r z e))
    steps_stay (x ∷ l) r z e =
        let b = then_both (read_step bits q W s x r) (λ y. reads bits q W s l y) z e in
        let first = step_stays x r b.0 b.1 ∙ sym (stays_map (bad_at n i x r) (step_reason bits q W s x r) r.tight) in
        rw b.1
        (steps_stay l b.0 z b.2 ∙ ap (stays (bad_in_steps n i bits q W s l b.0)) first
        ∙ sym (stays_else (option_map (bad_at n i x r) (step_reason bits q W s x r)) (bad_in_steps n i bits q W s l b.0) r.tight))

    -- the first of some steps is bad
    bad_here : (x : Step) (l : List Step) (r : Reading) (w : Reason) → step_reason bits q W s x r ≡ Some w → BadStep bits q W s n i (x ∷ l) r (bad_at n i x r w)
    unfolding step_reason reads
    bad_here x l r w e = go x.coded (step_code bits q W s x r) refl refl e
      where
        M : ℕ
        M = largest bits

        k : ℕ
        k = step_k q W x r

        Q : Quantiser
        Q = step_quantiser bits q W x r

        go : (b : Bool) (g : Option Code) → x.coded ≡ b → step_code bits q W s x r ≡ g → cond b (coded_reason M k Q.limit g) None ≡ Some w
            → BadStep bits q W s n i (x ∷ l) r (bad_at n i x r w)
        go true (Some c) eb eg f =
            record {
              line = refl;
              pass = refl;
              before = [];
              after = l;
              among = refl;
              reading = r;
              read = refl;
              clean = refl;
              coded = eb;
              at = refl;
              code = c;
              code_read = eg;
              loose = rw f at (code_stays M s r.at.0 k Q.limit Q.raw c true eg);
              reason = f;
            }
        go true None eb eg f = let no : ◌≡◌ {A = ℕ} 0 1 = cc in absurd (omega arith)
        go false g eb eg f = let no : ◌≡◌ {A = ℕ} 0 1 = cc in absurd (omega arith)

    -- or it is read, with a tight code or none, and a later one is bad
    bad_later : (x : Step) (l : List Step) (r y : Reading) (b : BadCode) → read_step bits q W s x r ≡ Some y → y.tight ≡ r.tight
        → BadStep bits q W s n i l y b → BadStep bits q W s n i (x ∷ l) r b
    unfolding reads and_then
    bad_later x l r y b e t p =
        record {
          line = p.line;
          pass = p.pass;
          before = x ∷ p.before;
          after = p.after;
          among = ap (λ (k : List Step). x ∷ k) p.among;
          reading = p.reading;
          read = rw e p.read;
          clean = p.clean ∙ t;
          coded = p.coded;
          at = p.at;
          code = p.code;
          code_read = p.code_read;
          loose = p.loose;
          reason = p.reason;
        }

    bad_step : (l : List Step) (r : Reading) (b : BadCode) → bad_in_steps n i bits q W s l r ≡ Some b → BadStep bits q W s n i l r b
    unfolding bad_in_steps and_then
    bad_step [] r b e = let no : ◌≡◌ {A = ℕ} 0 1 = cc in absurd (omega arith)
    bad_step (x ∷ l) r b e =
        go (step_reason bits q W s x r) (read_step bits q W s x r) refl refl (λ y h. step_stays x r y h) (λ y h. bad_step l y b h) e
      where
        go : (o : Option Reason) (p : Option Reading) → step_reason bits q W s x r ≡ o → read_step bits q W s x r ≡ p
            → ((y : Reading) → read_step bits q W s x r ≡ Some y → y.tight ≡ stays (step_reason bits q W s x r) r.tight)
            → ((y : Reading) → bad_in_steps n i bits q W s l y ≡ Some b → BadStep bits q W s n i l y b)
            → option_or (option_map (bad_at n i x r) o) (and_then p (λ z. bad_in_steps n i bits q W s l z)) ≡ Some b → BadStep bits q W s n i (x ∷ l) r b
        go (Some w) p eo ep tight next h = subst (BadStep bits q W s n i (x ∷ l) r) (same_Some (bad_at n i x r w) b h) (bad_here x l r w eo)
        go None None eo ep tight next h = let no : ◌≡◌ {A = ℕ} 0 1 = cc in absurd (omega arith)
        go None (Some y) eo ep tight next h = bad_later x l r y b ep (rw eo at (tight y ep)) (next y h)

-- ---- passes and lines

module _ {A B : Type 0} (f : ℕ → A → Option A) (g : ℕ → A → Option B) (r : A) where
  -- where the verdict of each run stays unless something is found in it, that of all of them does
  each_stays : (tight : A → Bool) → ((i : ℕ) (y z : A) → f i y ≡ Some z → tight z ≡ stays (g i y) (tight y))
      → (n : ℕ) (z : A) → runs f n r ≡ Some z → tight z ≡ stays (first_found f g n r) (tight r)
  unfolding runs first_found and_then
  each_stays tight each zero z e = ap tight (sym (same_Some r z e))
  each_stays tight each (suc n) z e =
      let b = runs_last f r n z e in
      rw b.1
      (each n b.0 z b.2 ∙ ap (stays (g n b.0)) (each_stays tight each n b.0 b.1) ∙ sym (stays_else (first_found f g n r) (g n b.0) (tight r)))

  -- what is found is found in one of them, with nothing before it
  pub record FoundIn (n : ℕ) (b : B) : Type 0 where
    pub index : ℕ
    pub inside : index < n
    pub state : A
    pub run : runs f index r ≡ Some state
    pub found : g index state ≡ Some b
    pub first : first_found f g index r ≡ None

  found_in : (n : ℕ) (b : B) → first_found f g n r ≡ Some b → FoundIn n b
  unfolding first_found and_then
  found_in zero b e = let no : ◌≡◌ {A = ℕ} 0 1 = cc in absurd (omega arith)
  found_in (suc n) b e = go (first_found f g n r) (runs f n r) refl refl (λ h. found_in n b h) e
    where
      go : (o : Option B) (p : Option A) → first_found f g n r ≡ o → runs f n r ≡ p → (first_found f g n r ≡ Some b → FoundIn n b)
          → option_or o (and_then p (λ z. g n z)) ≡ Some b → FoundIn (suc n) b
      go (Some a) p eo ep before h =
          let l = before (eo ∙ h) in
          record { index = l.index; inside = omega (arith, l.inside); state = l.state; run = l.run; found = l.found; first = l.first }
      go None None eo ep before h = let no : ◌≡◌ {A = ℕ} 0 1 = cc in absurd (omega arith)
      go None (Some y) eo ep before h = record { index = n; inside = omega arith; state = y; run = ep; found = h; first = eo }

-- the line of a bad code, or all lines
abbrev pub line_or : ℕ → Option BadCode → ℕ
line_or lines None = lines
line_or lines (Some b) = b.line

-- one line more, which has the verdict t: it is counted where no line before it has a bad code
count_on : (n : ℕ) (o p : Option BadCode) (t : Bool) → ((b : BadCode) → o ≡ Some b → b.line < n) → ((b : BadCode) → p ≡ Some b → b.line ≡ n)
    → t ≡ stays p (stays o true) → cond (eqb (line_or n o) n && t) (suc n) (line_or n o) ≡ line_or (suc n) (option_or o p)
count_on n None None t low here e = rw (eq-eqb n n refl, e)
count_on n None (Some b) t low here e = rw (eq-eqb n n refl, e) (sym (here b refl))
count_on n (Some b) p t low here e = rw (ne_eqb b.line n (λ q. omega (arith, low b refl)))

module _ (F : Form) (bases s : List ℕ) where
  pass_stays : (q n i : ℕ) (r z : State) → pass_at F q s i r ≡ Some z → z.tight ≡ stays (bad_in_pass F q s n i r) r.tight
  unfolding pass_at read_pass bad_in_pass
  pass_stays q n i r z e = go (reads F.bits q W s (pass_steps W P) (enter F P r)) (steps_stay F.bits q W s n i (pass_steps W P) (enter F P r)) e
    where
      W : ℕ
      W = width_of F.xtrans

      P : Plan
      P = plan_of F.xtrans i

      go : (o : Option Reading) → ((y : Reading) → o ≡ Some y → y.tight ≡ stays (bad_in_steps n i F.bits q W s (pass_steps W P) (enter F P r)) r.tight)
          → leave P r o ≡ Some z → z.tight ≡ stays (bad_in_steps n i F.bits q W s (pass_steps W P) (enter F P r)) r.tight
      go None k f = let no : ◌≡◌ {A = ℕ} 0 1 = cc in absurd (omega arith)
      go (Some y) k f = let same : z.tight ≡ y.tight = cc in same ∙ k y refl

  -- the test at a line's end leaves the verdict as it is
  end_stays : (r z : State) → end_line s r ≡ Some z → z.tight ≡ r.tight
  end_stays r z e = go (leb r.at.0 (8 * length s + 7)) e
    where
      go : (b : Bool) → cond b (Some r) None ≡ Some z → z.tight ≡ r.tight
      go true f = cc
      go false f = let no : ◌≡◌ {A = ℕ} 0 1 = cc in absurd (omega arith)

  line_stays : (n : ℕ) (r z : State) → read_line_at F bases s n r ≡ Some z → z.tight ≡ stays (bad_in_line F bases s n r) r.tight
  unfolding read_line_at read_line bad_in_line
  line_stays n r z e =
      let q : ℕ = base_of bases n in
      let b = then_both (runs (pass_at F q s) 6 (before_line F bases n r)) (end_line s) z e in
      end_stays b.0 z b.2
      ∙ each_stays (pass_at F q s) (bad_in_pass F q s n) (before_line F bases n r) (λ (y : State). y.tight) (pass_stays q n) 6 b.0 b.1

  -- where all lines are read, all codes are tight exactly if there is no bad one
  pub block_stays : (n : ℕ) (z : State) → read_lines F bases s n ≡ Some z → z.tight ≡ stays (first_bad F bases s n) true
  unfolding read_lines first_bad start_state
  block_stays n z e = each_stays (read_line_at F bases s) (bad_in_line F bases s) (start_state F bases) (λ (y : State). y.tight) line_stays n z e

  pub no_bad : (n : ℕ) (z : State) → read_lines F bases s n ≡ Some z → (z.tight ≡ true) ↔ (first_bad F bases s n ≡ None)
  no_bad n z e = (λ t. none_found (first_bad F bases s n) (sym (block_stays n z e) ∙ t), λ f. rw f at (block_stays n z e))
    where
      none_found : (o : Option BadCode) → stays o true ≡ true → o ≡ None
      none_found None k = refl
      none_found (Some b) k = absurd (false≢true k)

  -- ---- where it stands

  module _ (n : ℕ) (r : State) (b : BadCode) (e : bad_in_line F bases s n r ≡ Some b) where
    in_pass : FoundIn (pass_at F (base_of bases n) s) (bad_in_pass F (base_of bases n) s n) (before_line F bases n r) 6 b
    unfolding bad_in_line
    in_pass = found_in (pass_at F (base_of bases n) s) (bad_in_pass F (base_of bases n) s n) (before_line F bases n r) 6 b e

    in_step : BadStep F.bits (base_of bases n) (width_of F.xtrans) s n in_pass.index
        (pass_steps (width_of F.xtrans) (plan_of F.xtrans in_pass.index))
        (enter F (plan_of F.xtrans in_pass.index) in_pass.state) b
    unfolding bad_in_pass
    in_step = bad_step F.bits (base_of bases n) (width_of F.xtrans) s n in_pass.index _ _ b in_pass.found

    entry_tight : in_pass.state.tight ≡ r.tight
    entry_tight =
        let p = in_pass in
        rw p.first at
        (each_stays (pass_at F (base_of bases n) s) (bad_in_pass F (base_of bases n) s n) (before_line F bases n r) (λ (y : State). y.tight) (pass_stays (base_of bases n) n)
        p.index p.state p.run)

  in_line : (lines : ℕ) (b : BadCode) → first_bad F bases s lines ≡ Some b → FoundIn (read_line_at F bases s) (bad_in_line F bases s) (start_state F bases) lines b
  unfolding first_bad
  in_line lines b e = found_in (read_line_at F bases s) (bad_in_line F bases s) (start_state F bases) lines b e

  pub bad_in : (lines : ℕ) (b : BadCode) → first_bad F bases s lines ≡ Some b → BadIn F bases s lines b.line b.pass b
  unfolding read_lines first_bad
  bad_in lines b e =
      let l = in_line lines b e in
      let p = in_pass l.index l.state b l.found in
      let x = in_step l.index l.state b l.found in
      let there : BadIn F bases s lines l.index p.index b =
      record {
        line_inside = l.inside;
        pass_inside = p.inside;
        start = l.state;
        started = l.run;
        entry = p.state;
        entered = p.run;
        step = x;
        clean = x.clean ∙ entry_tight l.index l.state b l.found ∙ (rw l.first at (block_stays l.index l.state l.run));
      } in
      subst (λ (k : ℕ). BadIn F bases s lines k b.pass b) (sym x.line) (subst (λ (k : ℕ). BadIn F bases s lines l.index k b) (sym x.pass) there)

  -- ---- how many lines are tight

  lines_last : (n : ℕ) (z : State) → read_lines F bases s (suc n) ≡ Some z → (y : State) × (read_lines F bases s n ≡ Some y) × (read_line_at F bases s n y ≡ Some z)
  unfolding read_lines
  lines_last n z e = runs_last (read_line_at F bases s) (start_state F bases) n z e

  bad_more : (n : ℕ) (y : State) → read_lines F bases s n ≡ Some y → first_bad F bases s (suc n) ≡ option_or (first_bad F bases s n) (bad_in_line F bases s n y)
  unfolding read_lines first_bad first_found and_then
  bad_more n y e = rw e

  bad_none : first_bad F bases s 0 ≡ None
  unfolding first_bad first_found
  bad_none = refl

  -- the lines before that of the first bad code are tight, or all of them
  pub tight_lines : (n : ℕ) (z : State) → read_lines F bases s n ≡ Some z → tight_in (λ m. read_lines F bases s m) n ≡ line_or n (first_bad F bases s n)
  unfolding tight_in
  tight_lines zero z e = rw bad_none
  tight_lines (suc n) z e =
      let l = lines_last n z e in
      let y : State = l.0 in
      rw (tight_lines n y l.1, bad_more n y l.1, e)
      (count_on n (first_bad F bases s n) (bad_in_line F bases s n y) z.tight (λ b h. (bad_in n b h).line_inside) (λ b h. (in_step n y b h).line)
      (line_stays n y z l.2 ∙ ap (stays (bad_in_line F bases s n y)) (block_stays n y l.1)))
