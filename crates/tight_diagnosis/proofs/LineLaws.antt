-- Lines of a block: a pass on the records of its set, which is a part of two lists, and six passes. Assumes nothing.
use borrow.Rule.Slice.PartMut.{mid_of, put_mid, Post-is}
use borrow.Author.Tests.{ltb-true, ltb-false, le-leb, lt-leb, ne_eqb}
use mathlib.Core.Bool.{Bool, true, false, cond}
use mathlib.Core.List.{List, [], ◌∷◌, ◌++◌, append_assoc}
use mathlib.Core.Path.{◌≡◌, refl, sym, ap, ◌∙◌}
use Prim.Native.Nat.{ℕ, zero, suc, ◌+◌, ◌-◌, ◌*◌, ◌%◌, ◌≤◌, ◌<◌}
use native.Mathlib.Nat.{sub-zero}
use native.Mathlib.Omega.{arith}
use lib.Dec.{ltb}
use lib.ListN.{length, take, drop, replicate, length-replicate}
use lib.Seq.{take_all, length-take-le}
use Rattle.bits.specs.declared.BitPosition.{BitPosition}
use Rattle.statistics.specs.declared.Record.{Record}
use Rattle.quantiser.specs.declared.Quantiser.{Quantiser}
use Rattle.colour_lines.specs.ColourLines.{zero_lines, guarded, turned}
use Rattle.image_map.specs.Places.{width_of}
use Rattle.pass_steps.specs.Contexts.{no_record}
use Rattle.pass_schedule.specs.Steps.{plan_of, pass_steps}
use Rattle.pass_steps.specs.Values.{zip_records, SetInRange}
use Rattle.pass_schedule.specs.declared.Plan.{Plan}
use Rattle.pass_steps.proofs.ZipLaws.{zip_length}
use Rattle.read_pass.specs.Readings.{Reading, reads, read_pass}
use Rattle.read_block.specs.Records.{table, start_record, start_records, restarted_main, set_of, put_set}
use Rattle.read_block.specs.Blocks.{State, runs, leave, pass_at, end_line, read_line, before_line, read_line_at, start_state, read_lines}
use Rattle.read_block.specs.Walks.{AllInRange}
use Rattle.read_block.specs.BadCodes.{BadCode, bad_in_steps, first_found, bad_in_pass, bad_in_line, first_bad}
use Rattle.read_block.specs.declared.Form.{Form}
use Rattle.read_block.proofs.TableLaws.{table_get_d}
use Rattle.read_block.proofs.RangeLaws.{set_in_range, put_in_range}
use Rattle.tight_diagnosis.specs.Ways.{plain, plain_state, Way, cut_off, on, way_of, steps_way, passes_way, line_way, block_way}
use Rattle.tight_diagnosis.specs.Traces.{Says, clean, clean_state, Ends}
use Rattle.tight_diagnosis.specs.declared.trace.Stage.{Stage}
use Rattle.tight_diagnosis.proofs.WayLaws.{then_way, way_then_by, way_end_by, on_then, then_bad, then_cut, was_bad, was_cut, was_at}
use Rattle.tight_diagnosis.proofs.PlainLaws.{pass_plain, bad_pass_plain, end_plain, line_plain, bad_line_plain}
use Rattle.std.specs.Prelude.{None, Option, Some, option_map, Err, Ok, Result}
use Rattle.tight_diagnosis.specs.declared.trace.Stop.{Stop}

-- ---- parts of two lists

zip_nil : (l : List ℕ) → zip_records l [] ≡ []
unfolding zip_records
zip_nil [] = refl
zip_nil (a ∷ l) = refl

zip_take : (k : ℕ) (sums ns : List ℕ) → zip_records (take k sums) (take k ns) ≡ take k (zip_records sums ns)
unfolding zip_records
zip_take zero sums ns = refl
zip_take (suc k) [] ns = refl
zip_take (suc k) (a ∷ sums) [] = refl
zip_take (suc k) (a ∷ sums) (b ∷ ns) = ap (λ (l : List Record). record { sum = a; n = b } ∷ l) (zip_take k sums ns)

zip_drop : (k : ℕ) (sums ns : List ℕ) → zip_records (drop k sums) (drop k ns) ≡ drop k (zip_records sums ns)
unfolding zip_records
zip_drop zero sums ns = refl
zip_drop (suc k) [] ns = refl
zip_drop (suc k) (a ∷ sums) [] = zip_nil (drop k sums)
zip_drop (suc k) (a ∷ sums) (b ∷ ns) = zip_drop k sums ns

zip_append : (a c b d : List ℕ) → length a ≡ length c → zip_records (a ++ b) (c ++ d) ≡ zip_records a c ++ zip_records b d
unfolding zip_records
zip_append [] [] b d e = refl
zip_append [] (y ∷ c) b d e = absurd (omega arith)
zip_append (x ∷ a) [] b d e = absurd (omega arith)
zip_append (x ∷ a) (y ∷ c) b d e = ap (λ (l : List Record). record { sum = x; n = y } ∷ l) (zip_append a c b d (omega arith))

module _ (sums ns : List ℕ) (g a e : ℕ) (ea : a ≡ 112 * g) (ee : e ≡ a + 112) where
  count : e - a ≡ 112
  count = omega arith

  -- the set that is lent
  pub set_zip : set_of g (zip_records sums ns) ≡ zip_records (mid_of a (e - a) sums) (mid_of a (e - a) ns)
  unfolding set_of
  set_zip = rw (count, zip_take 112 (drop a sums) (drop a ns), zip_drop a sums ns, ea)

  -- and that goes back
  pub put_zip : (p q : List ℕ) → length sums ≡ 336 → length ns ≡ 336 → g < 3 → length p ≡ 112 → length q ≡ 112
      → put_set g (zip_records p q) (zip_records sums ns) ≡ zip_records (put_mid a (e - a) sums p) (put_mid a (e - a) ns q)
  unfolding put_set
  put_zip p q ls ln h lp lq =
      let z : length (zip_records p q) ≡ length p = zip_length p q (lp ∙ sym lq) in
      let all : take 112 (zip_records p q) ≡ zip_records p q = take_all 112 (zip_records p q) (omega arith) in
      let le : a ≤ e = omega arith in
      let front : length (take a sums) ≡ length (take a ns) = length-take-le a sums (omega arith) ∙ sym (length-take-le a ns (omega arith)) in
      let i : 112 * g + 112 ≡ e = omega arith in
      rw (all, i, ← ea)
      (append_assoc (take a (zip_records sums ns)) (zip_records p q) (drop e (zip_records sums ns))
      ∙ sym
      (rw (Post-is a e sums le, Post-is a e ns le)
      (zip_append (take a sums) (take a ns) (p ++ drop e sums) (q ++ drop e ns) front
      ∙ rw (zip_append p q (drop e sums) (drop e ns) (lp ∙ sym lq), zip_take a sums ns, zip_drop e sums ns))))

  module _ (ls : length sums ≡ 336) (ln : length ns ≡ 336) (three : g < 3) (all : AllInRange (zip_records sums ns)) where
    pub lent_in_range : SetInRange (zip_records (mid_of a (e - a) sums) (mid_of a (e - a) ns))
    lent_in_range = rw (← set_zip) (set_in_range g (zip_records sums ns) three all)

    pub back_in_range : (p q : List ℕ) → length p ≡ 112 → length q ≡ 112 → SetInRange (zip_records p q)
        → AllInRange (zip_records (put_mid a (e - a) sums p) (put_mid a (e - a) ns q))
    back_in_range p q lp lq new =
        let z : length (zip_records sums ns) ≡ length sums = zip_length sums ns (ls ∙ sym ln) in
        rw (← put_zip p q ls ln three lp lq) (put_in_range g (zip_records p q) (zip_records sums ns) three (z ∙ ls) new all)

-- ---- a pass

-- the state after a pass that was read
abbrev left : Plan → State → Reading → State
left P r z = record { lines = z.lines; records = put_set P.set z.set r.records; at = z.at; tight = z.tight; long = 0 }

way_leave : (P : Plan) (r : State) (o : Option BadCode) (a : Option Reading)
    → way_of o (option_map plain_state (leave P r a)) ≡ then_way (way_of o (option_map plain a)) (λ z. on (left P r z))
unfolding then_way
way_leave P r (Some b) None = refl
way_leave P r (Some b) (Some z) = refl
way_leave P r None None = refl
way_leave P r None (Some z) = refl

-- pass i of line n
abbrev pub pass_way : Form → List ℕ → ℕ → ℕ → State → Way State
pass_way F s n i r = way_of (bad_in_pass F 0 s n i r) (option_map plain_state (pass_at F 0 s i r))

module _ (F : Form) (s : List ℕ) (n : ℕ) (r : State) where
  pub passes_none : passes_way F s n 0 r ≡ on (plain_state r)
  unfolding passes_way first_found runs
  passes_none = refl

  pub passes_next : (i : ℕ) → passes_way F s n (suc i) r ≡ then_way (passes_way F s n i r) (pass_way F s n i)
  unfolding passes_way first_found runs
  passes_next i =
      way_then_by plain_state plain_state (first_found (pass_at F 0 s) (bad_in_pass F 0 s n) i r) (runs (pass_at F 0 s) i r) _ _ (bad_pass_plain F 0 s n i) (pass_plain F 0 s i)

  -- a line is six of them, with the test at its end
  pub line_end : (i : ℕ) → i ≡ 6 → line_way F s n r ≡ then_way (passes_way F s n i r) (λ z. way_of None (option_map plain_state (end_line s z)))
  unfolding line_way passes_way
  line_end i e = rw e (way_end_by plain_state plain_state (first_found (pass_at F 0 s) (bad_in_pass F 0 s n) 6 r) (runs (pass_at F 0 s) 6 r) (end_line s) (end_plain s))

pub end_past : (s : List ℕ) (z : State) → ltb (8 * length s + 7) z.at.0 ≡ true → way_of None (option_map plain_state (end_line s z)) ≡ cut_off
end_past s z h = rw (lt-leb z.at.0 (8 * length s + 7) (ltb-true _ _ h))

pub end_here : (s : List ℕ) (z : State) → ltb (8 * length s + 7) z.at.0 ≡ false → way_of None (option_map plain_state (end_line s z)) ≡ on (plain_state z)
end_here s z h = rw (le-leb z.at.0 (8 * length s + 7) (ltb-false _ _ h))

-- pass i, by what was done before it
module _ (F : Form) (s : List ℕ) (n i W : ℕ) (P : Plan) (Q : Quantiser) (l₀ l₁ l₂ sums ns : List ℕ) (at : BitPosition) (a e : ℕ) (eW : W ≡ width_of F.xtrans)
    (eP : P ≡ plan_of F.xtrans i) (e₁ : l₁ ≡ guarded W P.first l₀) (e₂ : l₂ ≡ guarded W P.second l₁) (ea : a ≡ 112 * P.set) (ee : e ≡ a + 112)
    (ls : length sums ≡ 336) (ln : length ns ≡ 336) (three : P.set < 3) where
  abbrev stage : Stage
  stage = record { line = n; pass = i; bits = F.bits; w = W; q = Q }

  abbrev before : State
  before = clean_state l₀ sums ns at

  abbrev entered : Reading
  entered = clean l₂ (mid_of a (e - a) sums) (mid_of a (e - a) ns) at

  pass_is : pass_way F s n i before ≡ then_way (steps_way stage s (pass_steps W P) entered) (λ z. on (left P before z))
  unfolding bad_in_pass pass_at read_pass steps_way
  pass_is = rw (← eP, ← eW, ← e₁, ← e₂, set_zip sums ns P.set a e ea ee)
      (way_leave P before (bad_in_steps n i F.bits 0 W s (pass_steps W P) entered) (reads F.bits 0 W s (pass_steps W P) entered))

  module _ (lines p q : List ℕ) (lp : length p ≡ 112) (lq : length q ≡ 112) where
    pub pass_says : {r : Result BitPosition Stop} → Says (clean lines p q) (steps_way stage s (pass_steps W P) entered) r
        → Says (clean_state lines (put_mid a (e - a) sums p) (put_mid a (e - a) ns q)) (pass_way F s n i before) r
    pass_says {r = Err (Stop.Bad x)} h = then_bad (λ z. on (left P before z)) pass_is h refl
    pass_says {r = Err Stop.CutOff} h = then_cut (λ z. on (left P before z)) pass_is h refl
    pass_says {r = Ok x} h =
        let k = on_then (λ z. on (left P before z)) (steps_way stage s (pass_steps W P) entered) (clean lines p q x) (was_at h refl) in
        record { is = pass_is ∙ k ∙ rw (put_zip sums ns P.set a e ea ee p q ls ln three lp lq) }

-- ---- lines

-- line n, which begins with a turn
abbrev pub line_at_way : Form → List ℕ → ℕ → State → Way State
line_at_way F s n r = way_of (bad_in_line F [] s n r) (option_map plain_state (read_line_at F [] s n r))

line_at_lem : (F : Form) (s : List ℕ) (n : ℕ) (r : State) → line_at_way F s n r ≡ line_way F s n (before_line F [] n r)
unfolding bad_in_line read_line_at read_line line_way
line_at_lem F s n r = refl

module _ (F : Form) (s : List ℕ) where
  pub lines_next : (n : ℕ) → block_way F s (suc n) ≡ then_way (block_way F s n) (line_at_way F s n)
  unfolding block_way first_bad read_lines first_found runs
  lines_next n =
      way_then_by plain_state plain_state (first_found (read_line_at F [] s) (bad_in_line F [] s) n (start_state F [])) (runs (read_line_at F [] s) n (start_state F [])) _ _
      (bad_line_plain F [] s n) (line_plain F [] s n)

  pub lines_none : (lines sums ns : List ℕ) → lines ≡ zero_lines (width_of F.xtrans) → zip_records sums ns ≡ start_records F.bits 0
      → block_way F s 0 ≡ on (clean_state lines sums ns (record { 0 = 0 }))
  unfolding block_way first_bad read_lines first_found runs start_state
  lines_none lines sums ns el er = rw (el, er)

-- the main records start anew before line 0 alone, where they have just started
table_same : {A : Type 0} (f g : ℕ → A) (n : ℕ) → ((j : ℕ) → j < n → f j ≡ g j) → table f n ≡ table g n
unfolding table
table_same f g zero h = refl
table_same f g (suc n) h = rw (table_same f g n (λ j l. h j (omega arith)), h n (omega arith))

restart_none : (bits : ℕ) → restarted_main bits 0 (start_records bits 0) ≡ start_records bits 0
unfolding restarted_main start_records
restart_none bits = table_same _ (start_record bits 0) 336 (λ j h. rw (table_get_d (start_record bits 0) 336 j no_record h) (either (ltb (j % 56) 41) (start_record bits 0 j)))
  where
    either : {A : Type 0} (b : Bool) (x : A) → cond b x x ≡ x
    either true x = refl
    either false x = refl

module _ (F : Form) (s : List ℕ) (n W : ℕ) (l₀ l₁ sums ns : List ℕ) (at : BitPosition) (eW : W ≡ width_of F.xtrans) (el : l₁ ≡ turned W l₀)
    (first : n ≡ 0 → zip_records sums ns ≡ start_records F.bits 0) where
  before_is : before_line F [] n (clean_state l₀ sums ns at) ≡ clean_state l₁ sums ns at
  before_is = rw (el, eW) (go n first)
    where
      go : (n : ℕ) → (n ≡ 0 → zip_records sums ns ≡ start_records F.bits 0)
          → before_line F [] n (clean_state l₀ sums ns at) ≡ clean_state (turned (width_of F.xtrans) l₀) sums ns at
      go zero k = let r : zip_records sums ns ≡ start_records F.bits 0 = k refl in rw (r, restart_none F.bits)
      go (suc n) k = rw (ne_eqb (suc n) 0 (λ q. omega arith))

  pub line_says : {here : BitPosition → State} {r : Result BitPosition Stop} → Says here (line_way F s n (clean_state l₁ sums ns at)) r
      → Says here (line_at_way F s n (clean_state l₀ sums ns at)) r
  line_says h = rw (line_at_lem F s n (clean_state l₀ sums ns at), before_is) h

-- ---- colour lines that begin at 0

pub zero_length : (xtrans : Bool) (w : ℕ) (lines : List ℕ) → w ≡ width_of xtrans → lines ≡ zero_lines (width_of xtrans) → length lines ≡ 18 * (w + 2)
zero_length xtrans w lines e f = rw (f, e) (length-replicate _ _)

take_zeros : (n m : ℕ) → n ≤ m → take n (replicate {A = ℕ} m 0) ≡ replicate n 0
take_zeros zero m h = refl
take_zeros (suc n) zero h = absurd (omega arith)
take_zeros (suc n) (suc m) h = ap (λ (l : List ℕ). 0 ∷ l) (take_zeros n m (omega arith))

pub zero_part : (xtrans : Bool) (n m : ℕ) → n ≡ 18 * (width_of xtrans + 2) → n ≤ m → take (n - 0) (drop 0 (replicate m 0)) ≡ zero_lines (width_of xtrans)
zero_part xtrans n m e h = rw sub-zero (take_zeros n m h ∙ rw e)

-- ---- what the walk over a block says

pub ends_says : (lines sums ns : List ℕ) {o : Way State} {r : Result BitPosition Stop} → Says (clean_state lines sums ns) o r → Ends o r
ends_says lines sums ns {r = Err (Stop.Bad x)} h = was_bad h refl
ends_says lines sums ns {r = Err Stop.CutOff} h = was_cut h refl
ends_says lines sums ns {r = Ok at} h = (clean_state lines sums ns at, was_at h refl, refl)
