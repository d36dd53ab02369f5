-- The sample that refusal 12 names is the first in coding order that differs from its prediction. Assumes nothing.
use mathlib.Core.Bool.{Bool, true, false, cond, not, ◌||◌}
use mathlib.Core.List.{List, [], ◌∷◌, ◌++◌}
use mathlib.Core.Path.{◌≡◌, refl, sym, ap, ◌∙◌}
use Prim.Native.Nat.{ℕ, zero, suc, ◌≤◌, ◌<◌}
use native.Mathlib.Omega.{arith}
use lib.Dec.{leb, ltb, eqb}
use lib.ListN.{length, get_or}
use borrow.Author.Tests.{leb-true}
use Rattle.quantiser.specs.Quantisers.{largest}
use Rattle.pass_schedule.specs.Steps.{Step, plan_of, pass_steps, is_interpolated}
use Rattle.pass_schedule.specs.declared.Plan.{Plan}
use Rattle.pass_schedule.proofs.OrderLaws.{All, all_append, pass_all}
use Rattle.pass_schedule.proofs.PlanLaws.{interpolated_even, CodedIn, steps_coded}
use Rattle.pass_steps.specs.Contexts.{step_context}
use Rattle.image_map.specs.Places.{width_of}
use Rattle.colour_lines.specs.Sets.{index_in}
use Rattle.stream.specs.declared.header.Refusal.{Refusal}
use Rattle.stream.specs.declared.header.Refusal.TheVariants.{AboveLargest, NotPredicted, ShortOutput}
use Rattle.stream.specs.Refusals.{refusal_number}
use Rattle.admission.specs.Above.{is_ignored, first_above}
use Rattle.read_block.specs.declared.Form.{Form}
use Rattle.write_pass.specs.Writings.{Writing, write_step, writes, write_pass}
use Rattle.write_pass.proofs.WriteLaws.{wanted, write_coded, write_interpolated}
use Rattle.write_block.specs.WrittenAnswers.{predicted_answer, range_answer, measured_answer, above_in, set_answer}
use Rattle.write_block.specs.WrittenBlocks.{WriteState, repeats, enter_writing, write_pass_at}
use Rattle.write_block.specs.WrittenBlocks.{before_writing, write_line, start_writing, write_lines, tight_block}
use Rattle.theorem_one_to_one.specs.FirstWrong.{steps_of, AllPredicted, FirstWrong, NamesFirstWrong}
use Rattle.theorem_one_to_one.specs.PredictedSets.{prediction_in}
use Rattle.theorem_one_to_one.proofs.PredictedSteps.{InPass, AllRight, writes_wrong}
use Rattle.theorem_one_to_one.proofs.PredictedPasses.{LineOf, lines_of, all_in_pass}
use Rattle.theorem_one_to_one.proofs.PredictedLines.{Found, entered, prediction_is}
use Rattle.theorem_one_to_one.proofs.PredictedBlocks.{even, positive, PassRight, passes_found}
use Rattle.theorem_one_to_one.proofs.PredictedBlocks.{passes_wrong, before_small, lines_found, lines_wrong}
use Rattle.std.specs.Prelude.{Err, Ok, None, Option, Some, Result}

none_some : {X : Type 0} (j : ℕ) → None ≡ Some j → X
none_some j e = let no : ◌≡◌ {A = ℕ} 0 1 = cc in absurd (omega arith)

same_some : (k j : ℕ) → Some k ≡ Some j → k ≡ j
same_some k j e = cc

-- ---- steps

module _ (bits W : ℕ) (t : List ℕ) (n : ℕ) where
  step_some : (x : Step) (r : Writing) (k : ℕ) → r.wrong ≡ Some k → (write_step bits 0 W true t n x r).wrong ≡ Some k
  step_some x r k e = go x.coded refl
    where
      go : (b : Bool) → x.coded ≡ b → (write_step bits 0 W true t n x r).wrong ≡ Some k
      go true c = rw (write_coded bits 0 W true t n x r c) e
      go false c = rw (write_interpolated bits 0 W true t n x r c, e)

  writes_some : (l : List Step) (r : Writing) (k : ℕ) → r.wrong ≡ Some k → (writes bits 0 W true t n l r).wrong ≡ Some k
  unfolding writes
  writes_some [] r k e = e
  writes_some (x ∷ l) r k e = writes_some l (write_step bits 0 W true t n x r) k (step_some x r k e)

  -- a step that is the first to be wrong
  step_first : (x : Step) (r : Writing) (j : ℕ) → r.wrong ≡ None → (write_step bits 0 W true t n x r).wrong ≡ Some j
      → (x.coded ≡ false) × (j ≡ index_in W n x.line x.position)
  step_first x r j e w = go x.coded refl
    where
      index : (b : Bool) → cond (not b) (Some (index_in W n x.line x.position)) None ≡ Some j → j ≡ index_in W n x.line x.position
      index true q = none_some j q
      index false q = sym (same_some (index_in W n x.line x.position) j q)

      go : (b : Bool) → x.coded ≡ b → (x.coded ≡ false) × (j ≡ index_in W n x.line x.position)
      go true c = let q : r.wrong ≡ Some j = rw (write_coded bits 0 W true t n x r c) at w in none_some j (sym e ∙ q)
      go false c = (c, index (eqb (wanted W t n x) (step_context W x r.lines).prediction) (rw (write_interpolated bits 0 W true t n x r c, e) at w))

  record Split (l : List Step) (r : Writing) (j : ℕ) : Type 0 where
    before : List Step
    step : Step
    after : List Step
    order : l ≡ before ++ step ∷ after
    right : (writes bits 0 W true t n before r).wrong ≡ None
    wrong : (writes bits 0 W true t n (before ++ step ∷ []) r).wrong ≡ Some j
    coded : step.coded ≡ false
    index : j ≡ index_in W n step.line step.position

  first_split : (l : List Step) (r : Writing) (j : ℕ) → r.wrong ≡ None → (writes bits 0 W true t n l r).wrong ≡ Some j → Split l r j
  unfolding writes
  first_split [] r j e w = none_some j (sym e ∙ w)
  first_split (x ∷ l) r j e w = go (write_step bits 0 W true t n x r).wrong refl (λ q. first_split l (write_step bits 0 W true t n x r) j q w)
    where
      go : (o : Option ℕ) → (write_step bits 0 W true t n x r).wrong ≡ o
          → ((write_step bits 0 W true t n x r).wrong ≡ None → Split l (write_step bits 0 W true t n x r) j) → Split (x ∷ l) r j
      go None q f =
          let S = f q in
          record {
            before = x ∷ S.before;
            step = S.step;
            after = S.after;
            order = ap (λ (k : List Step). x ∷ k) S.order;
            right = S.right;
            wrong = S.wrong;
            coded = S.coded;
            index = S.index;
          }
      go (Some k) q f =
          let is : k ≡ j = same_some k j (sym (writes_some l (write_step bits 0 W true t n x r) k q) ∙ w) in
          let here : (write_step bits 0 W true t n x r).wrong ≡ Some j = rw is at q in
          let s = step_first x r j e here in
          record { before = []; step = x; after = l; order = refl; right = e; wrong = here; coded = s.0; index = s.1 }

-- ---- one after the other

first_repeat : (f : ℕ → WriteState → WriteState) → ((i : ℕ) (r : WriteState) (k : ℕ) → r.wrong ≡ Some k → (f i r).wrong ≡ Some k)
    → (m : ℕ) (r : WriteState) (j : ℕ) → r.wrong ≡ None → (repeats f m r).wrong ≡ Some j
    → (i : ℕ) × (i < m) × ((repeats f i r).wrong ≡ None) × ((f i (repeats f i r)).wrong ≡ Some j)
unfolding repeats
first_repeat f stays zero r j e w = none_some j (sym e ∙ w)
first_repeat f stays (suc m) r j e w = go (repeats f m r).wrong refl (λ q. first_repeat f stays m r j e q)
  where
    go : (o : Option ℕ) → (repeats f m r).wrong ≡ o
        → ((repeats f m r).wrong ≡ Some j → (i : ℕ) × (i < m) × ((repeats f i r).wrong ≡ None) × ((f i (repeats f i r)).wrong ≡ Some j))
        → (i : ℕ) × (i < suc m) × ((repeats f i r).wrong ≡ None) × ((f i (repeats f i r)).wrong ≡ Some j)
    go None q g = (m, omega arith, q, w)
    go (Some k) q g =
        let is : k ≡ j = same_some k j (sym (stays m (repeats f m r) k q) ∙ w) in
        let a = g (rw is at q) in
        (a.0, omega (arith, a.1), a.2, a.3)

repeats_some : (f : ℕ → WriteState → WriteState) → ((i : ℕ) (r : WriteState) (k : ℕ) → r.wrong ≡ Some k → (f i r).wrong ≡ Some k)
    → (m : ℕ) (r : WriteState) (k : ℕ) → r.wrong ≡ Some k → (repeats f m r).wrong ≡ Some k
unfolding repeats
repeats_some f stays zero r k e = e
repeats_some f stays (suc m) r k e = stays m (repeats f m r) k (repeats_some f stays m r k e)

pass_some : (F : Form) (t : List ℕ) (n i : ℕ) (r : WriteState) (k : ℕ) → r.wrong ≡ Some k → (write_pass_at F 0 true t n i r).wrong ≡ Some k
unfolding write_pass_at write_pass
pass_some F t n i r k e =
    let P : Plan = plan_of F.xtrans i in
    writes_some F.bits (width_of F.xtrans) t n (pass_steps (width_of F.xtrans) P) (enter_writing F P r) k e

line_some : (F : Form) (t : List ℕ) (n : ℕ) (r : WriteState) (k : ℕ) → r.wrong ≡ Some k → (write_line F [] t n r).wrong ≡ Some k
unfolding write_line
line_some F t n r k e = repeats_some (write_pass_at F 0 true t n) (pass_some F t n) 6 (before_writing F [] n r) k e

-- ---- lists of steps

all_first : (Q : Step → Type 0) (k l : List Step) → All Q (k ++ l) → All Q k
all_first Q [] l a = tt
all_first Q (x ∷ k) l a = (a.0, all_first Q k l a.1)

all_at : (Q : Step → Type 0) (k l : List Step) (x : Step) → All Q (k ++ x ∷ l) → Q x
all_at Q [] l x a = a.0
all_at Q (y ∷ k) l x a = all_at Q k l x a.1

was : (b : Bool) → not b ≡ false → b ≡ true
was true q = refl
was false q = sym q

-- ---- a set in range

module _ (F : Form) (t : List ℕ) (range : (j : ℕ) → get_or t j 0 ≤ largest F.bits) where
  abbrev W : ℕ
  W = width_of F.xtrans

  -- a pass all of whose samples are right
  right_all : (n i : ℕ) → PassRight F t range n i → AllPredicted F t n (steps_of F i)
  unfolding AllPredicted
  right_all n i a = go (steps_of F i) (pass_all W (plan_of F.xtrans i) (even F t range) Held (λ p h. a p h))
    where
      Held : ℕ → ℕ → Type 0
      Held l p = is_interpolated F.xtrans l p ≡ true → get_or t (index_in W n l p) 0 ≡ prediction_in W t n l p

      go : (l : List Step) → All (λ x. Held x.line x.position) l → AllPredicted F t n l
      go [] a = tt
      go (x ∷ l) a = (a.0, go l a.1)

  -- the pass that has the first wrong one
  module _ (n i : ℕ) (hi : i < 6) (r : WriteState) (found : Found W t n i r.lines) (j : ℕ) (none_yet : r.wrong ≡ None)
      (wrong : (write_pass_at F 0 true t n i r).wrong ≡ Some j) where
    abbrev P : Plan
    P = plan_of F.xtrans i

    abbrev lines : List ℕ
    lines = entered F.xtrans W (even F t range) (positive F t range) t n i hi r.lines found

    abbrev R : Writing
    R = enter_writing F P r

    S : Split F.bits W t n (pass_steps W P) R j
    unfolding write_pass_at write_pass
    S = first_split F.bits W t n (pass_steps W P) R j none_yet wrong

    -- what is known of each step of the pass
    abbrev Known : Step → Type 0
    Known x = InPass W P.first P.second x × CodedIn F.xtrans x × LineOf i x.line × (x.position < W)

    known : All Known (pass_steps W P)
    known = join (pass_steps W P) (all_in_pass F.xtrans W (even F t range) i hi) (steps_coded F.xtrans W i hi) placed
      where
        L : LineOf i P.first × LineOf i P.second
        L = lines_of F.xtrans i hi

        placed : All (λ x. LineOf i x.line × (x.position < W)) (pass_steps W P)
        placed = pass_all W P (even F t range) (λ l p. LineOf i l × (p < W)) (λ p h. ((L.0, h), (L.1, h)))

        join : (l : List Step) → All (InPass W P.first P.second) l → All (CodedIn F.xtrans) l → All (λ x. LineOf i x.line × (x.position < W)) l
            → All Known l
        join [] a b c = tt
        join (x ∷ l) a b c = ((a.0, b.0, c.0.0, c.0.1), join l a.1 b.1 c.1)

    prediction : (x : Step) → Known x → is_interpolated F.xtrans x.line x.position ≡ true
        → (step_context W x lines).prediction ≡ prediction_in W t n x.line x.position
    prediction x k e =
        prediction_is F.xtrans W (even F t range) (positive F t range) t n i hi r.lines found x.line x.position k.2 k.3
        (interpolated_even F.xtrans x.line x.position e)

    in_pass : (l : List Step) → All Known l → All (InPass W P.first P.second) l
    in_pass [] a = tt
    in_pass (x ∷ l) a = (a.0.0, in_pass l a.1)

    said : (l : List Step) → All Known l → AllRight W P.first P.second F.bits t n lines l → AllPredicted F t n l
    unfolding AllPredicted
    said [] k a = tt
    said (x ∷ l) k a = (λ e. a.0 (k.0.1 ∙ rw e) ∙ prediction x k.0 e, said l k.1 a.1)

    split_known : All Known (S.before ++ S.step ∷ S.after)
    split_known = rw S.order at known

    known_before : All Known S.before
    known_before = all_first Known S.before (S.step ∷ S.after) split_known

    known_step : Known S.step
    known_step = all_at Known S.before S.after S.step split_known

    right_before : AllRight W P.first P.second F.bits t n lines S.before
    right_before =
        ((writes_wrong W P.first P.second F.bits t n lines S.before R (in_pass S.before known_before) (λ m d a b h. refl)).0 S.right).1

    is_interpolated_lem : is_interpolated F.xtrans S.step.line S.step.position ≡ true
    is_interpolated_lem = was (is_interpolated F.xtrans S.step.line S.step.position) (sym known_step.1 ∙ S.coded)

    differs : get_or t j 0 ≡ prediction_in W t n S.step.line S.step.position → ⊥
    differs e =
        let here : wanted W t n S.step ≡ (step_context W S.step lines).prediction =
        ap (λ (k : ℕ). get_or t k 0) (sym S.index) ∙ e ∙ sym (prediction S.step known_step is_interpolated_lem) in
        let k = all_append Known S.before (S.step ∷ []) known_before (known_step, tt) in
        let a = all_append (λ x. x.coded ≡ false → wanted W t n x ≡ (step_context W x lines).prediction) S.before (S.step ∷ []) right_before
        ((λ c. here), tt) in
        let w =
        (writes_wrong W P.first P.second F.bits t n lines (S.before ++ S.step ∷ []) R (in_pass (S.before ++ S.step ∷ []) k) (λ m d a b h. refl)
        ).1 (none_yet, a) in
        none_some j (sym w ∙ S.wrong)

  first_wrong : (count j : ℕ) → (write_lines F [] t count).wrong ≡ Some j → FirstWrong F count t j
  unfolding write_lines write_line start_writing
  first_wrong count j w =
      let a = first_repeat (write_line F [] t) (line_some F t) count (start_writing F []) j refl w in
      let n : ℕ = a.0 in
      let start : WriteState = before_writing F [] n (write_lines F [] t n) in
      let b = first_repeat (write_pass_at F 0 true t n) (pass_some F t n) 6 start j a.2 a.3 in
      let i : ℕ = b.0 in
      let r : WriteState = repeats (write_pass_at F 0 true t n) i start in
      let found0 = lines_found F t range n a.2 in
      let small = before_small F t range n in
      let le : i ≤ 6 = omega (arith, b.1) in
      let found = passes_found F t range n start found0 small i le b.2 in
      let s = S n i b.1 r found j b.2 b.3 in
      record {
        line = n;
        line_lt = a.1;
        pass = i;
        pass_lt = b.1;
        before = s.before;
        step = s.step;
        after = s.after;
        order = s.order;
        index = s.index;
        interpolated = is_interpolated_lem n i b.1 r found j b.2 b.3;
        differs = differs n i b.1 r found j b.2 b.3;
        lines_before = λ m k u v. right_all m k ((lines_wrong F t range n).0 a.2 m k u v);
        passes_before = λ k u. right_all n k (((passes_wrong F t range n start found0 small i le).0 b.2).1 k u);
        steps_before =
            let known = known_before n i b.1 r found j b.2 b.3 in
            said n i b.1 r found j b.2 b.3 s.before known (right_before n i b.1 r found j b.2 b.3);
      }

-- ---- the answer

none_above : (xtrans : Bool) (m i : ℕ) (t : List ℕ) → first_above (is_ignored xtrans true) m i t ≡ None → (j : ℕ) → get_or t j 0 ≤ m
unfolding first_above is_ignored
none_above xtrans m i [] e j = omega arith
none_above xtrans m i (v ∷ t) e j = go (leb v m) refl e (λ g k. none_above xtrans m (suc i) t g k) j
  where
    go : (b : Bool) → leb v m ≡ b → cond (b || false) (first_above (is_ignored xtrans true) m (suc i) t) (Some i) ≡ None
        → (first_above (is_ignored xtrans true) m (suc i) t ≡ None → (k : ℕ) → get_or t k 0 ≤ m) → (k : ℕ) → get_or (v ∷ t) k 0 ≤ m
    go true q f g zero = leb-true v m q
    go true q f g (suc k) = g f k
    go false q f g k = none_some i (sym f)

pub names_first_wrong : NamesFirstWrong
unfolding set_answer measured_answer
names_first_wrong F lines t room j = ranged (above_in F [] t) refl
  where
    other : {X : Type 0} (x : Refusal) → (refusal_number x ≡ 12 → ⊥) → ◌≡◌ {A = Result ℕ Refusal} (Err x) (Err (NotPredicted j)) → X
    other x ne e = let q : x ≡ NotPredicted j = cc in absurd (ne (ap refusal_number q))

    sized : {X : Type 0} (b : Bool) (n : ℕ) → cond b (Err ShortOutput) (Ok n) ≡ Err (NotPredicted j) → X
    sized true n e = other ShortOutput (λ z. omega arith) e
    sized false n e = let no : ◌≡◌ {A = ℕ} 0 1 = cc in absurd (omega arith)

    measured : ((k : ℕ) → get_or t k 0 ≤ largest F.bits) → (o : Option ℕ) → (write_lines F [] t lines).wrong ≡ o
        → predicted_answer o (length (tight_block F lines t)) room ≡ Err (NotPredicted j) → FirstWrong F lines t j
    measured range None q e = sized (ltb room (length (tight_block F lines t))) (length (tight_block F lines t)) e
    measured range (Some k) q e = let is : k ≡ j = cc in first_wrong F t range lines j (rw is at q)

    ranged : (o : Option ℕ) → above_in F [] t ≡ o
        → range_answer o (predicted_answer (write_lines F [] t lines).wrong (length (tight_block F lines t)) room) ≡ Err (NotPredicted j) → FirstWrong F lines t j
    ranged None q e = measured (none_above F.xtrans (largest F.bits) 0 t q) (write_lines F [] t lines).wrong refl e
    ranged (Some k) q e = other (AboveLargest k) (λ z. omega arith) e
