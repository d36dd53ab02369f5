-- Measuring and writing, held against each other. Assumes nothing.
use mathlib.Core.Bool.{Bool, true, false, cond}
use mathlib.Core.List.{List, []}
use mathlib.Core.Logic.{◌≢◌}
use mathlib.Core.Path.{◌≡◌, refl, sym, ap, ◌∙◌}
use Prim.Native.Nat.{ℕ, ◌≤◌, ◌<◌}
use native.Mathlib.Nat.{le_refl}
use native.Mathlib.Omega.{arith}
use lib.Dec.{lit<, ltb, eqb}
use lib.ListN.{length}
use borrow.Author.Tests.{ltb-true, ltb-false, le-ltb}
use Rattle.image_map.specs.Places.{width_of}
use Rattle.stream.specs.Headers.{parse_of, all_rules, header_of}
use Rattle.stream.specs.Lengths.{length_bound}
use Rattle.stream.specs.Refusals.{refusal_number}
use Rattle.stream.specs.declared.header.FujiHeader.{FujiHeader}
use Rattle.stream.specs.declared.header.Refusal.{Refusal}
use Rattle.stream.specs.declared.header.Refusal.TheVariants.{ShortHeader, BadHeader, Lossy, WrongCount, ShortScratch, AboveLargest, NotPredicted, ShortOutput}
use Rattle.admission.specs.Beginnings.{is_short_scratch}
use Rattle.admission.specs.Writings.{with_parsed, writing_begins}
use Rattle.admission.proofs.SetLaws.{writing_goes}
use Rattle.colour_lines.specs.Sets.{set_size}
use Rattle.read_block.specs.Images.{form_of}
use Rattle.write_block.specs.WrittenAnswers.{predicted_answer, range_answer, measured_answer, above_in, set_answer, written_answer, exact_answer, LeftWritten, LeftMeasured}
use Rattle.write_block.specs.WrittenBlocks.{write_lines, tight_block}
use Rattle.read_block.specs.declared.Form.{Form}
use Rattle.theorem_one_to_one.specs.Lengths.{Agrees, AgreementOfCalls, MeasuredWithinBound}
use Rattle.theorem_one_to_one.proofs.BoundHolds.{bounds}
use Rattle.theorem_one_to_one.proofs.WriterHolds.{correspondence_of_writers}
use Rattle.std.specs.Prelude.{Err, Ok, Result, None, Option, Some}

clash : {X : Type 0} (x : Refusal) (n : ℕ) → Err x ≡ Ok n → X
clash x n e = let no : ◌≡◌ {A = ℕ} 0 1 = cc in absurd (omega arith)

-- ---- the answers

-- a refusal before 13
both_refused : (room : ℕ) (x : Refusal) → refusal_number x < 13 → Agrees room (Err x) (Err x)
both_refused room x h =
    record {
      length_is = λ n. (λ e. clash x n e, λ p. clash x n p.0);
      short = (λ e. absurd (other e), λ p. clash x p.0 p.1.0);
      refused = λ y ne. (λ e. e, λ e. e);
      never_short = λ e. other e;
    }
  where
    other : ◌≢◌ {A = Result ℕ Refusal} (Err x) (Err ShortOutput)
    other e = let is : x ≡ ShortOutput = cc in let q : refusal_number x ≡ 13 = ap refusal_number is in omega (arith, h)

-- a length
measured_length : (room n : ℕ) → Agrees room (Ok n) (cond (ltb room n) (Err ShortOutput) (Ok n))
measured_length room n = go (ltb room n) refl
  where
    same : (m : ℕ) → ◌≡◌ {A = Result ℕ Refusal} (Ok n) (Ok m) → n ≡ m
    same m e = cc

    go : (b : Bool) → ltb room n ≡ b → Agrees room (Ok n) (cond b (Err ShortOutput) (Ok n))
    go true eb =
        let lt : room < n = ltb-true room n eb in
        record {
          length_is = λ m. (λ e. clash ShortOutput m e, λ p. absurd (omega (arith, lt, same m p.0, p.1)));
          short = (λ e. (n, (refl, lt)), λ p. refl);
          refused = λ x ne. (λ e. absurd (ne (let is : x ≡ ShortOutput = cc in is)), λ e. clash x n (sym e));
          never_short = λ e. clash ShortOutput n (sym e);
        }
    go false eb =
        let le : n ≤ room = ltb-false room n eb in
        record {
          length_is = λ m. (λ e. (e, omega (arith, le, same m e)), λ p. p.0);
          short = (λ e. clash ShortOutput n (sym e), λ p. absurd (omega (arith, le, same p.0 p.1.0, p.1.1)));
          refused = λ x ne. (λ e. clash x n (sym e), λ e. clash x n (sym e));
          never_short = λ e. clash ShortOutput n (sym e);
        }

agree : (F : Form) (lines : ℕ) (t : List ℕ) (room : ℕ) → Agrees room (exact_answer F [] lines t) (written_answer F lines t room)
unfolding exact_answer set_answer measured_answer
agree F lines t room = go (above_in F [] t) (write_lines F [] t lines).wrong (length (tight_block F lines t))
  where
    go : (o p : Option ℕ) (n : ℕ) → Agrees room (range_answer o (predicted_answer p n n)) (range_answer o (predicted_answer p n room))
    go (Some i) p n = both_refused room (AboveLargest i) (lit< tt)
    go None (Some j) n = both_refused room (NotPredicted j) (lit< tt)
    go None None n = rw (le-ltb n n (le_refl n)) (measured_length room n)

-- ---- calls

-- a call that is refused as it begins is not refused by 13
begins_below : (d : List ℕ) (n a b : ℕ) (x : Refusal) → writing_begins d n a b ≡ Err x → refusal_number x < 13
unfolding writing_begins parse_of
begins_below d n a b x = parsed (ltb (length d) 16) (all_rules d)
  where
    is : (y : Refusal) → refusal_number y < 13 → ◌≡◌ {A = Result FujiHeader Refusal} (Err y) (Err x) → refusal_number x < 13
    is y h e = let q : y ≡ x = cc in rw (← q) h

    no : {X : Type 0} (h : FujiHeader) → Ok h ≡ Err x → X
    no h e = let z : ◌≡◌ {A = ℕ} 0 1 = cc in absurd (omega arith)

    set : (h : FujiHeader) (l c s : Bool)
        → cond l (cond c (cond s (Err ShortScratch) (Ok h)) (Err WrongCount)) (Err Lossy) ≡ Err x
        → refusal_number x < 13
    set h true true true e = is ShortScratch (lit< tt) e
    set h true true false e = no h e
    set h true false s e = is WrongCount (lit< tt) e
    set h false c s e = is Lossy (lit< tt) e

    parsed : (p q : Bool)
        → with_parsed (cond p (Err ShortHeader) (cond q (Ok (header_of d)) (Err BadHeader))) n a b ≡ Err x
        → refusal_number x < 13
    parsed true q e = is ShortHeader (lit< tt) e
    parsed false false e = is BadHeader (lit< tt) e
    parsed false true e =
        let h : FujiHeader = header_of d in
        set h h.lossless (eqb n (set_size (width_of h.xtrans) h.lines)) (is_short_scratch h.xtrans a b) e

pub agreement_of_calls : AgreementOfCalls
agreement_of_calls d t a b before after written before' after' measured = go (writing_begins d (length t) a b) refl
  where
    go : (p : Result FujiHeader Refusal) → writing_begins d (length t) a b ≡ p → LeftWritten t p before after written → LeftMeasured t p before' after' measured
        → Agrees (length before.out) measured written
    go (Err x) e l m = rw (l.0, m.0) (both_refused (length before.out) x (begins_below d (length t) a b x e))
    go (Ok h) e l m = rw (l.answered, m.answered) (agree (form_of h) h.lines t (length before.out))

pub measured_within_bound : MeasuredWithinBound
unfolding exact_answer
measured_within_bound d t h a b before after n e = go (writing_begins d (length t) a b) refl
  where
    go : (p : Result FujiHeader Refusal) → writing_begins d (length t) a b ≡ p → LeftMeasured t p before after (Ok n) → n ≤ length_bound h
    go (Err x) eb l = clash x n (sym l.0)
    go (Ok g) eb l =
        let k = writing_goes d (length t) a b g eb in
        let f : Ok g ≡ Ok h = sym k.parses ∙ e in
        let is : g ≡ h = cc in
        let block : List ℕ = tight_block (form_of g) g.lines t in
        let w = (correspondence_of_writers d g k.parses k.lossless_is).whole t block n k.set.size (sym l.answered) in
        let m : length block ≤ length_bound g = bounds d g k.parses k.lossless_is block w.tight in
        rw (w.size, ← is) m
