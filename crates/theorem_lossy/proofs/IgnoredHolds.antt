-- Samples at interpolated positions are ignored: neither the bits nor the answer depend on them. Assumes nothing.
use mathlib.Core.Bool.{Bool, true, false, cond, ◌||◌}
use mathlib.Core.List.{List, [], ◌∷◌}
use mathlib.Core.Path.{◌≡◌, refl, sym, ap, ◌∙◌}
use Prim.Native.Nat.{ℕ, zero, suc, ◌+◌, ◌<◌}
use native.Mathlib.Nat.{add-zero, zero-add}
use native.Mathlib.Omega.{arith}
use lib.Dec.{leb}
use lib.ListN.{length, get_or, get_or-eq_default}
use borrow.Author.Tests.{not-true, ne_eqb}
use Rattle.numbers.proofs.OrderLaws.{split}
use Rattle.statistics.specs.declared.Record.{Record}
use Rattle.quantiser.specs.Quantisers.{largest}
use Rattle.pass_schedule.specs.Steps.{Step, plan_of, pass_steps, is_interpolated}
use Rattle.pass_schedule.specs.declared.Plan.{Plan}
use Rattle.pass_schedule.proofs.OrderLaws.{All, pass_all}
use Rattle.pass_schedule.proofs.PlanLaws.{CodedIn, steps_coded}
use Rattle.image_map.specs.Places.{width_of}
use Rattle.colour_lines.specs.Sets.{line_of_rank, index_in, colour_line_at, position_at}
use Rattle.admission.specs.Above.{is_ignored, first_above}
use Rattle.admission.specs.Writings.{lossy_begins}
use Rattle.admission.proofs.SetLaws.{lossy_goes}
use Rattle.read_block.specs.Images.{form_of}
use Rattle.read_block.specs.Lent.{Outputs}
use Rattle.read_block.specs.Records.{base_of}
use Rattle.read_block.specs.declared.Form.{Form}
use Rattle.read_block.proofs.LineLaws.{width_in_range}
use Rattle.write_pass.specs.Writings.{Writing, write_step, writes, write_pass}
use Rattle.write_pass.proofs.SetLaws.{lines_passes, colour_line_at_lem, position_at_lem}
use Rattle.write_pass.proofs.WriteLaws.{write_coded, write_interpolated}
use Rattle.write_block.specs.WrittenAnswers.{measured_answer, above_in, set_answer, LeftLossy}
use Rattle.write_block.specs.WrittenBlocks.{WriteState, repeats, enter_writing, write_pass_at, before_writing}
use Rattle.write_block.specs.WrittenBlocks.{is_strict, write_line, start_writing, write_lines, written_block}
use Rattle.theorem_lossy.specs.IgnoredSamples.{SameWhereCoded, IgnoredSamples}
use Rattle.std.specs.Prelude.{Err, Ok, Result, Some}
use Rattle.stream.specs.declared.header.FujiHeader.{FujiHeader}
use Rattle.stream.specs.declared.header.Refusal.{Refusal}

-- ---- refusal 11

-- one sample more: the same where it is looked at
next : (ignored : ℕ → Bool) (M i v w : ℕ) (t u : List ℕ) → (ignored i ≡ false → v ≡ w) → first_above ignored M (suc i) t ≡ first_above ignored M (suc i) u
    → cond (leb v M || ignored i) (first_above ignored M (suc i) t) (Some i) ≡ cond (leb w M || ignored i) (first_above ignored M (suc i) u) (Some i)
next ignored M i v w t u f rest = go (ignored i) refl
  where
    skipped : (a b : Bool) → cond (a || true) (first_above ignored M (suc i) t) (Some i) ≡ cond (b || true) (first_above ignored M (suc i) u) (Some i)
    skipped true true = rest
    skipped true false = rest
    skipped false true = rest
    skipped false false = rest

    looked : (a : Bool) → cond a (first_above ignored M (suc i) t) (Some i) ≡ cond a (first_above ignored M (suc i) u) (Some i)
    looked true = rest
    looked false = refl

    go : (b : Bool) → ignored i ≡ b
        → cond (leb v M || ignored i) (first_above ignored M (suc i) t) (Some i) ≡ cond (leb w M || ignored i) (first_above ignored M (suc i) u) (Some i)
    go true g = rw g (skipped (leb v M) (leb w M))
    go false g = let same : v ≡ w = f g in rw (g, same) (looked (leb w M || false))

above_same : (ignored : ℕ → Bool) (M i : ℕ) (t u : List ℕ) → length t ≡ length u → ((j : ℕ) → ignored (i + j) ≡ false → get_or t j 0 ≡ get_or u j 0)
    → first_above ignored M i t ≡ first_above ignored M i u
unfolding first_above
above_same ignored M i [] [] e f = refl
above_same ignored M i [] (w ∷ u) e f = absurd (omega arith)
above_same ignored M i (v ∷ t) [] e f = absurd (omega arith)
above_same ignored M i (v ∷ t) (w ∷ u) e f =
    next ignored M i v w t u (λ g. f 0 (rw (add-zero i) g))
    (above_same ignored M (suc i) t u (omega arith) (λ j g. f (suc j) (let n : i + suc j ≡ suc i + j = omega arith in rw n g)))

-- ---- the bits

-- what holds of each of some things, one after the other
repeats_same : {A : Type 0} (f g : ℕ → A → A) (n : ℕ) (r : A) → ((i : ℕ) (z : A) → i < n → f i z ≡ g i z) → repeats f n r ≡ repeats g n r
unfolding repeats
repeats_same f g zero r h = refl
repeats_same f g (suc n) r h = ap (f n) (repeats_same f g n r (λ i z k. h i z (omega arith))) ∙ h n (repeats g n r) (omega arith)

module _ (bits q W : ℕ) (t u : List ℕ) (n : ℕ) where
  abbrev Agree : Step → Type 0
  Agree x = x.coded ≡ true → get_or t (index_in W n x.line x.position) 0 ≡ get_or u (index_in W n x.line x.position) 0

  step_same : (x : Step) (r : Writing) → Agree x → write_step bits q W false t n x r ≡ write_step bits q W false u n x r
  step_same x r f = go x.coded refl
    where
      go : (b : Bool) → x.coded ≡ b → write_step bits q W false t n x r ≡ write_step bits q W false u n x r
      go true e = rw (write_coded bits q W false t n x r e, write_coded bits q W false u n x r e, f e)
      go false e = rw (write_interpolated bits q W false t n x r e, write_interpolated bits q W false u n x r e) refl

  writes_same : (l : List Step) (r : Writing) → All Agree l → writes bits q W false t n l r ≡ writes bits q W false u n l r
  unfolding writes
  writes_same [] r a = refl
  writes_same (x ∷ l) r a =
      ap (λ (z : Writing). writes bits q W false t n l z) (step_same x r a.0) ∙ writes_same l (write_step bits q W false u n x r) a.1

module _ (F : Form) (bases t u : List ℕ) (free : is_strict bases ≡ false)
    (same : (j : ℕ) → is_interpolated F.xtrans (colour_line_at (width_of F.xtrans) j) (position_at (width_of F.xtrans) j) ≡ false → get_or t j 0 ≡ get_or u j 0) where
  abbrev W : ℕ
  W = width_of F.xtrans

  all_agree : (n : ℕ) (l : List Step)
      → All (λ x. is_interpolated F.xtrans x.line x.position ≡ false
      → get_or t (index_in W n x.line x.position) 0 ≡ get_or u (index_in W n x.line x.position) 0) l
      → All (CodedIn F.xtrans) l → All (Agree F.bits 0 W t u n) l
  all_agree n [] a b = tt
  all_agree n (x ∷ l) a b = (λ e. a.0 (not-true _ (sym b.0 ∙ e)), all_agree n l a.1 b.1)

  passes_agree : (n i : ℕ) → i < 6 → All (Agree F.bits 0 W t u n) (pass_steps W (plan_of F.xtrans i))
  passes_agree n i h =
      all_agree n (pass_steps W (plan_of F.xtrans i))
      (pass_all W (plan_of F.xtrans i) (width_in_range F.xtrans W refl).2 Held
      (λ p k. lines_passes F.xtrans (λ l. Held l p) (λ c m. held c p m k) i h))
      (steps_coded F.xtrans W i h)
    where
      Held : ℕ → ℕ → Type 0
      Held l p = is_interpolated F.xtrans l p ≡ false → get_or t (index_in W n l p) 0 ≡ get_or u (index_in W n l p) 0

      held : (c p : ℕ) → c < 12 → p < W → Held (line_of_rank c) p
      held c p hc hp e = same (index_in W n (line_of_rank c) p) (rw (colour_line_at_lem W n c p hc hp, position_at_lem W n c p hc hp) e)

  pass_same : (n i : ℕ) (r : WriteState) → i < 6
      → write_pass_at F (base_of bases n) (is_strict bases) t n i r ≡ write_pass_at F (base_of bases n) (is_strict bases) u n i r
  unfolding write_pass_at write_pass
  pass_same n i r h =
      let P : Plan = plan_of F.xtrans i in
      rw (free, writes_same F.bits (base_of bases n) W t u n (pass_steps W P) (enter_writing F P r) (passes_agree n i h))

  lines_same : (count : ℕ) → write_lines F bases t count ≡ write_lines F bases u count
  unfolding write_lines write_line
  lines_same count =
      repeats_same (write_line F bases t) (write_line F bases u) count (start_writing F bases)
      (λ n r k. repeats_same (write_pass_at F (base_of bases n) (is_strict bases) t n) (write_pass_at F (base_of bases n) (is_strict bases) u n) 6
      (before_writing F bases n r) (λ i z h. pass_same n i z h))

  block_same : (count : ℕ) → written_block F bases count t ≡ written_block F bases count u
  unfolding written_block
  block_same count = rw (lines_same count)

  above_is : length t ≡ length u → above_in F bases t ≡ above_in F bases u
  unfolding is_ignored
  above_is e = rw free (above_same (is_ignored F.xtrans false) (largest F.bits) 0 t u e (λ j g. same j (rw (zero-add j) at g)))

  answer_same : (count room : ℕ) → length t ≡ length u → set_answer F bases count t room ≡ set_answer F bases count u room
  unfolding set_answer measured_answer
  answer_same count room e = rw (above_is e, lines_same count, block_same count)

-- ---- a call

abbrev outputs : (out lines : List ℕ) → List Record → Outputs
outputs out lines records = record { out = out; lines = lines; records = records }

same_outputs : (a b : Outputs) → a.out ≡ b.out → a.lines ≡ b.lines → a.records ≡ b.records → a ≡ b
same_outputs a b e f g =
    let x : outputs a.out a.lines a.records ≡ outputs b.out b.lines b.records = rw (e, f, g) in x

everywhere : (xtrans : Bool) (t u : List ℕ) → SameWhereCoded xtrans t u → (j : ℕ)
    → is_interpolated xtrans (colour_line_at (width_of xtrans) j) (position_at (width_of xtrans) j) ≡ false → get_or t j 0 ≡ get_or u j 0
everywhere xtrans t u S j f =
    split (length t) j
    (λ h. get_or-eq_default t 0 h ∙ sym (get_or-eq_default u 0 (omega (arith, S.as_long))))
    (λ h. S.same j h f)

pub ignored_samples : IgnoredSamples
ignored_samples d bases t u h before after after' answer answer' parses S L L' =
    from (lossy_begins d (length bases) (length u) a b) refl (rw S.as_long at L) L'
  where
    a : ℕ
    a = length before.lines

    b : ℕ
    b = length before.records

    from : (p : Result FujiHeader Refusal) → lossy_begins d (length bases) (length u) a b ≡ p → LeftLossy bases t p before after answer → LeftLossy bases u p before after' answer'
        → (answer ≡ answer') × (after ≡ after')
    from (Err x) o K K' = (K.0 ∙ sym K'.0, K.1 ∙ sym K'.1)
    from (Ok g) o K K' =
        let G = lossy_goes d (length u) a b g (length bases) o in
        let is : Ok g ≡ Ok h = sym G.0.parses ∙ parses in
        let same_header : g ≡ h = cc in
        let S' : SameWhereCoded g.xtrans t u = rw same_header S in
        let free : is_strict bases ≡ false = ne_eqb (length bases) 0 (λ e. omega (arith, G.1, G.0.set.is_ruled.lines_low)) in
        let all = everywhere g.xtrans t u S' in
        let answers : answer ≡ answer' =
        K.answered ∙ answer_same (form_of g) bases t u free all g.lines (length before.out) S.as_long ∙ sym K'.answered in
        let blocks = block_same (form_of g) bases t u free all g.lines in
        (answers, same_outputs after after' (K.output ∙ rw (answers, blocks) (sym K'.output)) (K.lines ∙ sym K'.lines) (K.records ∙ sym K'.records))
