-- Totals are those of the codes: the bits of all, and how many have zeros that are not below their limit. Assumes nothing.
use mathlib.Core.Bool.{Bool, true, false, cond}
use mathlib.Core.List.{List, [], ◌∷◌, ◌++◌}
use mathlib.Core.Path.{◌≡◌, refl, sym, ◌∙◌}
use Prim.Native.Nat.{ℕ, zero, suc, ◌+◌, ◌-◌, ◌≤◌, ◌<◌}
use native.Mathlib.Omega.{arith}
use borrow.Author.Tests.{ltb-false}
use lib.Dec.{ltb}
use lib.ListN.{get_or}
use Rattle.numbers.specs.Numbers.{flag}
use Rattle.bits.specs.declared.BitPosition.{BitPosition}
use Rattle.statistics.specs.Statistics.{k_of}
use Rattle.quantiser.specs.declared.Quantiser.{Quantiser}
use Rattle.code.specs.Codes.{code_at}
use Rattle.code.specs.declared.Code.{Code}
use Rattle.code.proofs.CodeLaws.{code_shape}
use Rattle.pass_schedule.specs.Steps.{Step, plan_of, pass_steps}
use Rattle.pass_schedule.specs.Steps.{step_place}
use Rattle.pass_steps.specs.Contexts.{used_quantiser, no_record, step_context, step_look, step_slot}
use Rattle.pass_steps.specs.declared.Look.{Look}
use Rattle.pass_schedule.specs.declared.Plan.{Plan}
use Rattle.read_pass.specs.Readings.{Reading, interpolate, taken, step_code, read_step, reads, read_pass}
use Rattle.bits.specs.BitLists.{is_tail}
use Rattle.stream.specs.declared.header.Refusal.TheVariants.{Truncated}
use Rattle.image_map.specs.Places.{width_of}
use Rattle.read_block.specs.Records.{base_of}
use Rattle.read_block.specs.Blocks.{State, runs, enter, leave, pass_at, end_line, read_line, before_line, read_line_at, start_state, read_lines, totals_after}
use Rattle.read_block.specs.Totals.{LimitedCode, long_codes, used_bits, codes_of, step_codes, gather_from, codes_in_steps}
use Rattle.read_block.specs.Totals.{gathered, codes_in_pass, codes_in_line, block_codes, sum_of, lines_counted, TotalsOf}
use Rattle.read_block.specs.Images.{is_read, lines_read}
use Rattle.read_block.specs.BadCodes.{BadCode, first_bad}
use Rattle.read_block.specs.TightBlocks.{bits_read, read_answer, tight_answer}
use Rattle.read_block.specs.BlockReadings.{ReadTotals, TightTotals}
use Rattle.read_block.specs.declared.Form.{Form}
use Rattle.read_block.proofs.RunLaws.{then_both, runs_none, runs_last}
use Rattle.read_block.proofs.KeepLaws.{end_same}
use Rattle.read_block.proofs.DecodeLaws.{stay_none}
use Rattle.read_block.proofs.BadCodeLaws.{bad_in}
use Rattle.std.specs.Prelude.{Err, None, Ok, Some, Option}

-- ---- sums

sum_append : {A : Type 0} (h : A → ℕ) (k l : List A) → sum_of h (k ++ l) ≡ sum_of h k + sum_of h l
unfolding sum_of
sum_append h [] l = omega arith
sum_append h (x ∷ k) l = omega (arith, sum_append h k l)

sum_one : {A : Type 0} (h : A → ℕ) (x : A) → sum_of h (x ∷ []) ≡ h x
unfolding sum_of
sum_one h x = omega arith

sum_none : {A : Type 0} (h : A → ℕ) → sum_of h [] ≡ 0
unfolding sum_of
sum_none h = refl

-- where each run adds what is gathered from it, all of them do
each_adds : {A B : Type 0} (f : ℕ → A → Option A) (g : ℕ → A → List B) (h : B → ℕ) (v : A → ℕ)
    → ((i : ℕ) (y z : A) → f i y ≡ Some z → v z ≡ v y + sum_of h (g i y))
    → (r : A) (n : ℕ) (z : A) → runs f n r ≡ Some z → v z ≡ v r + sum_of h (gathered f g n r)
unfolding runs gathered gather_from
each_adds f g h v each r zero z e = let same : r ≡ z = cc in rw (← same) (omega (arith, sum_none h))
each_adds f g h v each r (suc n) z e =
    let b = runs_last f r n z e in
    rw (b.1, sum_append h (gathered f g n r) (g n b.0))
    (omega (arith, each n b.0 z b.2, each_adds f g h v each r n b.0 b.1))

-- ---- from the steps to the block

-- a number h of each code, and the number v of a position and a count to which a code adds it
module _ (h : LimitedCode → ℕ) (v : BitPosition → ℕ → ℕ)
    (code : (s : List ℕ) (p : BitPosition) (n k : ℕ) (Q : Quantiser) (c : Code) → code_at s p.0 k Q.limit Q.raw ≡ Some c
    → v c.after (n + flag c.long) ≡ v p n + h (record { code = c; limit = Q.limit })) where
  step_adds : (bits q W : ℕ) (s : List ℕ) (x : Step) (r z : Reading) → read_step bits q W s x r ≡ Some z
      → v z.at z.long ≡ v r.at r.long + sum_of h (step_codes bits q W s x r)
  unfolding read_step
  step_adds bits q W s x r z e = go x.coded (step_code bits q W s x r) refl e
    where
      i : ℕ
      i = step_place W x

      l : Look
      l = step_look q W x r.lines

      slot : ℕ
      slot = step_slot q W x r.lines

      Q : Quantiser
      Q = used_quantiser bits q l.choice

      go : (b : Bool) (g : Option Code) → step_code bits q W s x r ≡ g
          → cond b (taken bits q i slot (step_context W x r.lines) l r g) (Some (interpolate i (step_context W x r.lines) r)) ≡ Some z
          → v z.at z.long ≡ v r.at r.long + sum_of h (cond b (codes_of Q.limit g) [])
      go true (Some d) eg f =
          let at : d.after ≡ z.at = cc in
          let long : r.long + flag d.long ≡ z.long = cc in
          rw (← at, ← long, sum_one h (record { code = d; limit = Q.limit }))
          (code s r.at r.long (k_of (get_or r.set slot no_record)) Q d eg)
      go true None eg f = let no : ◌≡◌ {A = ℕ} 0 1 = cc in absurd (omega arith)
      go false g eg f =
          let at : r.at ≡ z.at = cc in
          let long : r.long ≡ z.long = cc in
          rw (← at, ← long) (omega (arith, sum_none h))

  steps_add : (bits q W : ℕ) (s : List ℕ) (l : List Step) (r z : Reading) → reads bits q W s l r ≡ Some z
      → v z.at z.long ≡ v r.at r.long + sum_of h (codes_in_steps bits q W s l r)
  unfolding reads codes_in_steps gather_from
  steps_add bits q W s [] r z e = let same : r ≡ z = cc in rw (← same) (omega (arith, sum_none h))
  steps_add bits q W s (x ∷ l) r z e =
      let b = then_both (read_step bits q W s x r) (λ y. reads bits q W s l y) z e in
      rw (b.1, sum_append h (step_codes bits q W s x r) (codes_in_steps bits q W s l b.0))
      (omega (arith, step_adds bits q W s x r b.0 b.1, steps_add bits q W s l b.0 z b.2))

  pass_adds : (F : Form) (q : ℕ) (s : List ℕ) (i : ℕ) (r z : State) → pass_at F q s i r ≡ Some z
      → v z.at z.long ≡ v r.at r.long + sum_of h (codes_in_pass F q s i r)
  unfolding pass_at read_pass codes_in_pass
  pass_adds F q s i r z e = go (reads F.bits q W s (pass_steps W P) (enter F P r)) (λ y k. steps_add F.bits q W s (pass_steps W P) (enter F P r) y k) e
    where
      W : ℕ
      W = width_of F.xtrans

      P : Plan
      P = plan_of F.xtrans i

      go : (o : Option Reading)
          → ((y : Reading) → o ≡ Some y → v y.at y.long ≡ v r.at r.long + sum_of h (codes_in_steps F.bits q W s (pass_steps W P) (enter F P r)))
          → leave P r o ≡ Some z → v z.at z.long ≡ v r.at r.long + sum_of h (codes_in_steps F.bits q W s (pass_steps W P) (enter F P r))
      go None k f = let no : ◌≡◌ {A = ℕ} 0 1 = cc in absurd (omega arith)
      go (Some y) k f =
          let at : y.at ≡ z.at = cc in
          let long : y.long ≡ z.long = cc in
          rw (← at, ← long) (k y refl)

  line_adds : (F : Form) (bases s : List ℕ) (n : ℕ) (r z : State) → read_line_at F bases s n r ≡ Some z
      → v z.at z.long ≡ v r.at r.long + sum_of h (codes_in_line F bases s n r)
  unfolding read_line_at read_line codes_in_line
  line_adds F bases s n r z e =
      let q : ℕ = base_of bases n in
      let b = then_both (runs (pass_at F q s) 6 (before_line F bases n r)) (end_line s) z e in
      let same = end_same s b.0 z b.2 in
      rw (← same)
      (each_adds (pass_at F q s) (codes_in_pass F q s) h (λ (y : State). v y.at y.long) (pass_adds F q s) (before_line F bases n r) 6 b.0 b.1)

  block_adds : (F : Form) (bases s : List ℕ) (n : ℕ) (z : State) → read_lines F bases s n ≡ Some z
      → v z.at z.long ≡ v (record { 0 = 0 }) 0 + sum_of h (block_codes F bases s n)
  unfolding read_lines block_codes start_state
  block_adds F bases s n z e =
      each_adds (read_line_at F bases s) (codes_in_line F bases s) h (λ (y : State). v y.at y.long) (line_adds F bases s) (start_state F bases) n z e

-- ---- the theorem

used_adds : (s : List ℕ) (p : BitPosition) (n k : ℕ) (Q : Quantiser) (c : Code) → code_at s p.0 k Q.limit Q.raw ≡ Some c
    → c.after.0 ≡ p.0 + c.used
used_adds s p n k Q c e = (code_shape s p.0 k Q.limit Q.raw c e).counts.bits

long_adds : (s : List ℕ) (p : BitPosition) (n k : ℕ) (Q : Quantiser) (c : Code) → code_at s p.0 k Q.limit Q.raw ≡ Some c
    → n + flag c.long ≡ n + long_codes (record { code = c; limit = Q.limit })
long_adds s p n k Q c e = rw (code_shape s p.0 k Q.limit Q.raw c e).counts.long

-- the totals of lines that are read
pub totals_true : (F : Form) (bases s : List ℕ) (n : ℕ) (z : State) → read_lines F bases s n ≡ Some z → TotalsOf F bases s n (totals_after F bases s n)
totals_true F bases s n z e =
    let bits = block_adds used_bits (λ at long. at.0) used_adds F bases s n z e in
    let long = block_adds long_codes (λ at long. long) long_adds F bases s n z e in
    rw e (record { end = z; read = e; position = refl; bits = omega (arith, bits); long = omega (arith, long) })

-- ---- the totals of every answer

module _ (F : Form) (bases s : List ℕ) where
  -- the first lines of some that are read
  first_lines : (m n : ℕ) (z : State) → m ≤ n → read_lines F bases s n ≡ Some z → (y : State) × (read_lines F bases s m ≡ Some y)
  first_lines m n z h e = go (read_lines F bases s m) refl
    where
      go : (o : Option State) → read_lines F bases s m ≡ o → (y : State) × (o ≡ Some y)
      go None f =
          let k : m + (n - m) ≡ n = omega arith in
          let no : None ≡ Some z = sym (rw k at (stay_none F bases s m (n - m) f)) ∙ e in
          let not : ◌≡◌ {A = ℕ} 0 1 = cc in
          absurd (omega arith)
      go (Some y) f = (y, refl)

  no_lines : read_lines F bases s 0 ≡ Some (start_state F bases)
  unfolding read_lines
  no_lines = runs_none (read_line_at F bases s) (start_state F bases)

  lines_read_lem : (m count : ℕ) → m ≤ lines_read F bases s count → (y : State) × (read_lines F bases s m ≡ Some y)
  unfolding lines_read
  lines_read_lem m zero h = first_lines m 0 (start_state F bases) h no_lines
  lines_read_lem m (suc n) h = go (read_lines F bases s (suc n)) refl (λ k. lines_read_lem m n k) h
    where
      go : (o : Option State) → read_lines F bases s (suc n) ≡ o → (m ≤ lines_read F bases s n → (y : State) × (read_lines F bases s m ≡ Some y))
          → m ≤ cond (is_read o) (suc n) (lines_read F bases s n) → (y : State) × (read_lines F bases s m ≡ Some y)
      go None f before k = before k
      go (Some z) f before k = first_lines m (suc n) z k f

  true_totals : (m count : ℕ) → m ≤ lines_read F bases s count → TotalsOf F bases s m (totals_after F bases s m)
  true_totals m count h = let y = lines_read_lem m count h in totals_true F bases s m y.0 y.1

pub read_totals : ReadTotals
read_totals F bases s b lines = go (ltb (lines_read F bases s lines) lines) refl
  where
    n : ℕ
    n = lines_read F bases s lines

    go : (t : Bool) → ltb n lines ≡ t → let answer = cond t (Err (Truncated b n)) (Ok tt) in
        TotalsOf F bases s (lines_counted answer lines) (totals_after F bases s (lines_counted answer lines))
    go true e = true_totals F bases s n lines (omega arith)
    go false e = true_totals F bases s lines lines (ltb-false n lines e)

pub tight_totals : TightTotals
unfolding tight_answer
tight_totals F s b lines =
    go (ltb (lines_read F [] s lines) lines) (first_bad F [] s lines) refl (is_tail s (bits_read (read_lines F [] s lines))) (λ x e. (bad_in F [] s lines x e).line_inside)
  where
    n : ℕ
    n = lines_read F [] s lines

    go : (t : Bool) (o : Option BadCode) → ltb n lines ≡ t → (tail : Bool) → ((x : BadCode) → o ≡ Some x → x.line < lines)
        → let answer = cond t (Err (Truncated b n)) (read_answer o lines tail) in
        TotalsOf F [] s (lines_counted answer lines) (totals_after F [] s (lines_counted answer lines))
    go true o e tail low = true_totals F [] s n lines (omega arith)
    go false None e true low = true_totals F [] s lines lines (ltb-false n lines e)
    go false None e false low = true_totals F [] s lines lines (ltb-false n lines e)
    go false (Some x) e tail low = true_totals F [] s x.line lines (omega (arith, low x refl, ltb-false n lines e))
