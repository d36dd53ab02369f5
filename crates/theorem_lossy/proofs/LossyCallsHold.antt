-- Calls of the lossy writer, held against the statement. Assumes nothing.
use mathlib.Core.Bool.{Bool, true, false, cond}
use mathlib.Core.List.{List}
use mathlib.Core.Logic.{◌≢◌}
use mathlib.Core.Path.{◌≡◌, refl, sym, ap, ◌∙◌}
use Prim.Native.Nat.{ℕ, ◌≤◌}
use native.Mathlib.Omega.{arith}
use lib.Dec.{ltb, eqb}
use lib.ListN.{length}
use Rattle.image_map.specs.Places.{width_of}
use Rattle.colour_lines.specs.Sets.{set_size}
use Rattle.stream.specs.Headers.{header_of, all_rules, parse_of}
use Rattle.stream.specs.Lengths.{length_word, length_refusal}
use Rattle.stream.specs.Refusals.{refusal_number, no_refusal}
use Rattle.stream.specs.declared.header.FujiHeader.{FujiHeader}
use Rattle.stream.specs.declared.header.Refusal.{Refusal}
use Rattle.stream.specs.declared.header.Refusal.TheVariants.{ShortHeader, BadHeader, WrongCount, ShortScratch}
use Rattle.stream.specs.declared.header.Refusal.TheVariants.{AboveLargest, NotPredicted, ShortOutput, Lossless, WrongBases}
use Rattle.stream.proofs.RefusalLaws.{number_low}
use Rattle.admission.specs.Beginnings.{is_short_scratch}
use Rattle.admission.specs.Writings.{with_lossy, lossy_begins}
use Rattle.admission.proofs.SetLaws.{lossy_goes}
use Rattle.read_block.specs.Images.{form_of}
use Rattle.read_block.specs.Lent.{Outputs}
use Rattle.write_block.specs.WrittenAnswers.{predicted_answer, range_answer, measured_answer, above_in, set_answer, LeftLossy}
use Rattle.write_block.specs.WrittenBlocks.{write_lines, written_block}
use Rattle.read_block.specs.declared.Form.{Form}
use Rattle.theorem_lossy.specs.LossyBlocks.{lossy_of, LossyWritten, LossyCalls}
use Rattle.theorem_lossy.proofs.NeverWrong.{not_strict, never_wrong}
use Rattle.theorem_lossy.proofs.LossyHolds.{lossy_blocks}
use Rattle.std.specs.Prelude.{Err, Ok, Result, None, Option, Some}

clash : {X : Type 0} (x : Refusal) (n : ℕ) → Err x ≡ Ok n → X
clash x n e = let no : ◌≡◌ {A = ℕ} 0 1 = cc in absurd (omega arith)

-- ---- the answer

-- where a length is answered no sample with a code is too large, and it is the block's
answered_length : (F : Form) (bases : List ℕ) (count : ℕ) (t : List ℕ) (room n : ℕ) → set_answer F bases count t room ≡ Ok n
    → (above_in F bases t ≡ None) × (n ≡ length (written_block F bases count t))
unfolding set_answer measured_answer
answered_length F bases count t room n = go (above_in F bases t) refl
  where
    sized : (b : Bool) → cond b (Err ShortOutput) (Ok (length (written_block F bases count t))) ≡ Ok n → n ≡ length (written_block F bases count t)
    sized true e = clash ShortOutput n e
    sized false e = let k : length (written_block F bases count t) ≡ n = cc in sym k

    predicted : (o : Option ℕ) → predicted_answer o (length (written_block F bases count t)) room ≡ Ok n → n ≡ length (written_block F bases count t)
    predicted None e = sized (ltb room (length (written_block F bases count t))) e
    predicted (Some j) e = clash (NotPredicted j) n e

    go : (o : Option ℕ) → above_in F bases t ≡ o
        → range_answer o (predicted_answer (write_lines F bases t count).wrong (length (written_block F bases count t)) room) ≡ Ok n
        → (above_in F bases t ≡ None) × (n ≡ length (written_block F bases count t))
    go None f e = (f, predicted (write_lines F bases t count).wrong e)
    go (Some i) f e = clash (AboveLargest i) n e

-- ---- a call

written : (d bases t : List ℕ) (before after : Outputs) (n : ℕ) → LeftLossy bases t (lossy_of d bases t before) before after (Ok n)
    → LossyWritten d bases t before after n
written d bases t before after n = from (lossy_of d bases t before) refl
  where
    from : (p : Result FujiHeader Refusal) → lossy_of d bases t before ≡ p → LeftLossy bases t p before after (Ok n) → LossyWritten d bases t before after n
    from (Err x) b L = clash x n (sym L.0)
    from (Ok h) b L =
        let g = lossy_goes d (length t) (length before.lines) (length before.records) h (length bases) b in
        let a = answered_length (form_of h) bases h.lines t (length before.out) n (sym L.answered) in
        let W = lossy_blocks d bases t h g.0.parses g.0.lossless_is g.1 g.0.set.size a.0 in
        record {
          header = h;
          parses = g.0.parses;
          block = written_block (form_of h) bases h.lines t;
          output = L.output;
          size = sym a.1;
          reads = W.block;
        }

-- ---- refusal 12

-- what is refused as it begins
begins_other : (d : List ℕ) (k n a b : ℕ) (x : Refusal) (j : ℕ) → lossy_begins d k n a b ≡ Err x → x ≢ NotPredicted j
unfolding lossy_begins parse_of
begins_other d k n a b x j = parsed (ltb (length d) 16) (all_rules d)
  where
    is : (y : Refusal) → refusal_number y ≢ 12 → ◌≡◌ {A = Result FujiHeader Refusal} (Err y) (Err x) → x ≢ NotPredicted j
    is y ne e f = let q : y ≡ NotPredicted j = cc in ne (ap refusal_number q)

    no : {X : Type 0} (h : FujiHeader) → Ok h ≡ Err x → X
    no h e = let z : ◌≡◌ {A = ℕ} 0 1 = cc in absurd (omega arith)

    set : (h : FujiHeader) (l c m s : Bool)
        → cond l (Err Lossless) (cond c (cond m (cond s (Err ShortScratch) (Ok h)) (Err WrongCount))
        (Err WrongBases)) ≡ Err x
        → x ≢ NotPredicted j
    set h true c m s e = is Lossless (λ z. omega arith) e
    set h false false m s e = is WrongBases (λ z. omega arith) e
    set h false true false s e = is WrongCount (λ z. omega arith) e
    set h false true true true e = is ShortScratch (λ z. omega arith) e
    set h false true true false e = no h e

    parsed : (p q : Bool)
        → with_lossy (cond p (Err ShortHeader) (cond q (Ok (header_of d)) (Err BadHeader))) k n a b ≡ Err x
        → x ≢ NotPredicted j
    parsed true q e = is ShortHeader (λ z. omega arith) e
    parsed false false e = is BadHeader (λ z. omega arith) e
    parsed false true e =
        let h : FujiHeader = header_of d in
        set h h.lossless (eqb k h.lines) (eqb n (set_size (width_of h.xtrans) h.lines)) (is_short_scratch h.xtrans a b) e

-- and what is answered then
answers_other : (F : Form) (bases : List ℕ) (count : ℕ) (t : List ℕ) (room j : ℕ) → 1 ≤ length bases → set_answer F bases count t room ≢ Err (NotPredicted j)
unfolding set_answer measured_answer
answers_other F bases count t room j h =
    rw (never_wrong F bases t (not_strict bases h) count) (go (above_in F bases t) (ltb room (length (written_block F bases count t))))
  where
    other : (x : Refusal) → refusal_number x ≢ 12 → ◌≢◌ {A = Result ℕ Refusal} (Err x) (Err (NotPredicted j))
    other x ne e = let q : x ≡ NotPredicted j = cc in ne (ap refusal_number q)

    go : (o : Option ℕ) (b : Bool) → range_answer o (cond b (Err ShortOutput) (Ok (length (written_block F bases count t)))) ≢ Err (NotPredicted j)
    go (Some i) b = other (AboveLargest i) (λ z. omega arith)
    go None true = other ShortOutput (λ z. omega arith)
    go None false = λ e. clash (NotPredicted j) (length (written_block F bases count t)) (sym e)

never_12 : (d bases t : List ℕ) (before after : Outputs) (a : Result ℕ Refusal) → LeftLossy bases t (lossy_of d bases t before) before after a
    → (j : ℕ) → a ≢ Err (NotPredicted j)
never_12 d bases t before after a = from (lossy_of d bases t before) refl
  where
    from : (p : Result FujiHeader Refusal) → lossy_of d bases t before ≡ p → LeftLossy bases t p before after a → (j : ℕ) → a ≢ Err (NotPredicted j)
    from (Err x) b L j e =
        let f : Err x ≡ Err (NotPredicted j) = sym L.0 ∙ e in
        let q : x ≡ NotPredicted j = cc in
        begins_other d (length bases) (length t) (length before.lines) (length before.records) x j b q
    from (Ok h) b L j e =
        let g = lossy_goes d (length t) (length before.lines) (length before.records) h (length bases) b in
        let some-bases : 1 ≤ length bases = omega (arith, g.1, g.0.set.is_ruled.lines_low) in
        answers_other (form_of h) bases h.lines t (length before.out) j some-bases (sym L.answered ∙ e)

-- ---- from C

-- no refusal is told where a length is answered
pub told_length : (a : Result ℕ Refusal) → length_refusal a ≡ no_refusal → (n : ℕ) × (a ≡ Ok n)
told_length (Ok n) e = (n, refl)
told_length (Err r) e = let q : 0 ≡ refusal_number r = cc in absurd (omega (arith, number_low r))

pub lossy_calls : LossyCalls
lossy_calls =
    record {
      written = written;
      never_12 = never_12;
      from_c = λ d bases t before after size words T e.
          let l = told_length T.answer (sym T.told ∙ e) in
          let L : LeftLossy bases t (lossy_of d bases t before) before after (Ok l.0) = rw l.1 at T.left in
          (l.0, T.told_size ∙ ap length_word l.1, written d bases t before after l.0 L);
    }
