-- Sets of colour lines fit, by the writer's rules, exactly when each interpolated position has its prediction. Assumes nothing.
use mathlib.Core.Bool.{Bool, true, false, not}
use mathlib.Core.List.{List, []}
use mathlib.Core.Logic.{◌≢◌, ◌↔◌}
use mathlib.Core.Path.{◌≡◌, refl, sym, ◌∙◌}
use Prim.Native.Nat.{ℕ, zero, suc, ◌+◌, ◌-◌, ◌*◌, ◌%◌, ◌≤◌, ◌<◌}
use native.Mathlib.Omega.{arith}
use lib.ListN.{length, get_or, length-replicate}
use Rattle.numbers.proofs.OrderLaws.{split}
use Rattle.pass_schedule.specs.Steps.{is_interpolated, plan_of, pass_steps}
use Rattle.pass_steps.specs.Contexts.{context_in}
use Rattle.pass_schedule.specs.declared.Plan.{Plan}
use Rattle.colour_lines.specs.ColourLines.{zero_lines, guarded, turned}
use Rattle.colour_lines.proofs.LineLaws.{length_turned}
use Rattle.colour_lines.proofs.MoveLaws.{turned_at}
use Rattle.image_map.specs.Places.{width_of}
use Rattle.colour_lines.specs.Sets.{index_in}
use Rattle.quantiser.specs.Quantisers.{largest}
use Rattle.write_pass.specs.Puts.{Within}
use Rattle.write_pass.specs.Writings.{write_pass}
use Rattle.pass_schedule.proofs.OrderLaws.{all_both, pass_all, all_pass}
use Rattle.pass_schedule.proofs.PlanLaws.{interpolated_even, steps_coded}
use Rattle.write_block.specs.WrittenBlocks.{WriteState, repeats, enter_writing, write_pass_at, before_writing, write_line, start_writing, write_lines}
use Rattle.write_block.specs.Inside.{FitSet}
use Rattle.read_block.specs.declared.Form.{Form}
use Rattle.read_block.proofs.LineLaws.{width_in_range}
use Rattle.read_block.proofs.SampleLaws.{zeros_le, guarded_le, turned_le}
use Rattle.write_block.proofs.WalkLaws.{pass_at_within, lines_within}
use Rattle.write_block.proofs.WrittenLaws.{pass_at_right, line_right}
use Rattle.theorem_one_to_one.specs.PredictedSets.{sample_at, prediction_in, PredictedSet}
use Rattle.theorem_one_to_one.proofs.PredictedSteps.{place, AllRight, writes_wrong}
use Rattle.theorem_one_to_one.proofs.PredictedPasses.{ready, LineOf, lines_of, each_before, early_coded, Owner, before, first, second, owner, all_in_pass}
use Rattle.theorem_one_to_one.proofs.PredictedLines.{Found, entered, found_next, prediction_is}
use Rattle.std.specs.Prelude.{None}

module _ (F : Form) (t : List ℕ) (range : (j : ℕ) → get_or t j 0 ≤ largest F.bits) where
  abbrev pub W : ℕ
  W = width_of F.xtrans

  pub even : W % 2 ≡ 0
  even = (width_in_range F.xtrans W refl).2

  pub positive : 0 < W
  positive = omega (arith, (width_in_range F.xtrans W refl).0)

  -- position p of line l of line n has its prediction, if it is interpolated
  abbrev pub Right : ℕ → ℕ → ℕ → Type 0
  Right n l p = is_interpolated F.xtrans l p ≡ true → get_or t (index_in W n l p) 0 ≡ prediction_in W t n l p

  abbrev pub PassRight : ℕ → ℕ → Type 0
  PassRight n i = (p : ℕ) → p < W → Right n (plan_of F.xtrans i).first p × Right n (plan_of F.xtrans i).second p

  -- ---- a pass

  module _ (n i : ℕ) (hi : i < 6) (r : WriteState) (found : Found W t n i r.lines) where
    pub pass_found : Within (largest F.bits) r.lines → (write_pass_at F 0 true t n i r).wrong ≡ None
        → Found W t n (suc i) (write_pass_at F 0 true t n i r).lines
    unfolding write_pass_at write_pass
    pass_found small w =
        let Q : Plan = plan_of F.xtrans i in
        let M : ℕ = largest F.bits in
        found_next F.xtrans W even positive t n i hi r.lines found F.bits (enter_writing F Q r) refl range
        (guarded_le M W Q.second (guarded W Q.first r.lines) (guarded_le M W Q.first r.lines small)) w

    abbrev P : Plan
    P = plan_of F.xtrans i

    abbrev lines : List ℕ
    lines = entered F.xtrans W even positive t n i hi r.lines found

    -- a sample of one of its lines is its prediction, by the lines before the pass
    abbrev Seen : ℕ → ℕ → Type 0
    Seen l p = is_interpolated F.xtrans l p ≡ true → get_or t (index_in W n l p) 0 ≡ (context_in W lines l p).prediction

    pass_seen : AllRight W P.first P.second F.bits t n lines (pass_steps W P) ↔ PassRight n i
    pass_seen = (
      λ a p h. let s = all_pass W P even Seen (all_both (pass_steps W P) a (steps_coded F.xtrans W i hi) (λ x f c e. f (rw (e) at c))) p h in
          (to P.first p h L.0 s.0, to P.second p h L.1 s.1),
      λ a. all_both (pass_steps W P) (pass_all W P even Seen (λ p h. (from P.first p h L.0 (a p h).0, from P.second p h L.1 (a p h).1)))
          (steps_coded F.xtrans W i hi) (λ x f c e. f (was (is_interpolated F.xtrans x.line x.position) (sym c ∙ e))),
    )
      where
        L : LineOf i P.first × LineOf i P.second
        L = lines_of F.xtrans i hi

        is : (l p : ℕ) → p < W → LineOf i l → is_interpolated F.xtrans l p ≡ true → (context_in W lines l p).prediction ≡ prediction_in W t n l p
        is l p h M e = prediction_is F.xtrans W even positive t n i hi r.lines found l p M h (interpolated_even F.xtrans l p e)

        to : (l p : ℕ) → p < W → LineOf i l → Seen l p → Right n l p
        to l p h M s e = s e ∙ is l p h M e

        from : (l p : ℕ) → p < W → LineOf i l → Right n l p → Seen l p
        from l p h M s e = s e ∙ sym (is l p h M e)

        was : (b : Bool) → not b ≡ false → b ≡ true
        was true q = refl
        was false q = sym q

    pub pass_wrong : (write_pass_at F 0 true t n i r).wrong ≡ None ↔ (r.wrong ≡ None) × PassRight n i
    unfolding write_pass_at write_pass
    pass_wrong =
        let w = writes_wrong W P.first P.second F.bits t n lines (pass_steps W P) (enter_writing F P r) (all_in_pass F.xtrans W even i hi) (λ m d a b h. refl) in
        (λ e. let v = w.0 e in (v.0, pass_seen.0 v.1), λ e. w.1 (e.0, pass_seen.1 e.1))

  -- ---- a line: six passes

  module _ (n : ℕ) (r : WriteState) (found : Found W t n 0 r.lines) (small : Within (largest F.bits) r.lines) where
    passes_small : (k : ℕ) → Within (largest F.bits) (repeats (write_pass_at F 0 true t n) k r).lines
    unfolding repeats
    passes_small zero = small
    passes_small (suc k) = pass_at_within F 0 true t n k (repeats (write_pass_at F 0 true t n) k r) (passes_small k)

    pub passes_found : (k : ℕ) → k ≤ 6 → (repeats (write_pass_at F 0 true t n) k r).wrong ≡ None → Found W t n k (repeats (write_pass_at F 0 true t n) k r).lines
    unfolding repeats
    passes_found zero h w = found
    passes_found (suc k) h w =
        let z : WriteState = repeats (write_pass_at F 0 true t n) k r in
        pass_found n k h z (passes_found k (omega arith) (pass_at_right F 0 true t n k z w)) (passes_small k) w

    pub passes_wrong : (k : ℕ) → k ≤ 6 → (repeats (write_pass_at F 0 true t n) k r).wrong ≡ None ↔ (r.wrong ≡ None) × ((i : ℕ) → i < k → PassRight n i)
    unfolding repeats
    passes_wrong zero h = (λ e. (e, λ i k. absurd (omega arith)), λ e. e.0)
    passes_wrong (suc k) h =
        let rest = passes_wrong k (omega arith) in (
          λ e. let w = pass_at_right F 0 true t n k before_it e in let b = rest.0 w in let a = (one w).0 e in
              (b.0, λ i hi. split k i (λ u. let q : i ≡ k = omega arith in rw q a.1) (λ u. b.1 i u)),
          λ e. let w = rest.1 (e.0, λ i hi. e.1 i (omega arith)) in (one w).1 (w, e.1 k (omega arith)),
        )
      where
        before_it : WriteState
        before_it = repeats (write_pass_at F 0 true t n) k r

        one : before_it.wrong ≡ None → (write_pass_at F 0 true t n k before_it).wrong ≡ None ↔ (before_it.wrong ≡ None) × PassRight n k
        one w = pass_wrong n k h before_it (passes_found k (omega arith) w)

  -- ---- the lines of a block

  -- before line n the last two lines of each colour have become its first two
  turned_found : (n : ℕ) (lines : List ℕ) → Found W t n 6 lines → Found W t (suc n) 0 (turned W lines)
  unfolding sample_at ready
  turned_found n lines f =
      let long : 18 * (W + 2) ≤ length lines = omega (arith, f.long) in
      let at = turned_at W lines long in
      record {
        long = length_turned W lines long ∙ f.long;
        samples = λ l p hl k h. each_before (λ l. get_or (turned W lines) (place W l (p + 1)) 0 ≡ sample_at W t (suc n) l p) (
          (at (p + 1) (omega arith)).0 ∙ f.samples 3 p (omega arith) (omega arith) h,
          (at (p + 1) (omega arith)).1 ∙ f.samples 4 p (omega arith) (omega arith) h,
          (at (p + 1) (omega arith)).2 ∙ f.samples 11 p (omega arith) (omega arith) h,
          (at (p + 1) (omega arith)).3 ∙ f.samples 12 p (omega arith) (omega arith) h,
          (at (p + 1) (omega arith)).4 ∙ f.samples 16 p (omega arith) (omega arith) h,
          (at (p + 1) (omega arith)).5 ∙ f.samples 17 p (omega arith) (omega arith) h,
        ) l hl k;
        guards = λ l hl k ne. each_before (λ l. (l ≢ 0) × (l ≢ 5) × (l ≢ 13) → get_or (turned W lines) (place W l 0) 0 ≡ sample_at W t (suc n) (l - 1) 0) (
          λ ne. absurd (ne.0 refl),
          λ ne. (at 0 (omega arith)).1 ∙ f.guards 4 (omega arith) (omega arith) (λ e. omega arith, λ e. omega arith, λ e. omega arith),
          λ ne. absurd (ne.1 refl),
          λ ne. (at 0 (omega arith)).3 ∙ f.guards 12 (omega arith) (omega arith) (λ e. omega arith, λ e. omega arith, λ e. omega arith),
          λ ne. absurd (ne.2 refl),
          λ ne. (at 0 (omega arith)).5 ∙ f.guards 17 (omega arith) (omega arith) (λ e. omega arith, λ e. omega arith, λ e. omega arith),
        ) l hl k ne;
      }

  -- line 0 finds lines of 0
  zeros_found : (lines : List ℕ) → length lines ≡ 18 * (W + 2) → ((j : ℕ) → get_or lines j 0 ≤ 0) → Found W t 0 0 lines
  unfolding sample_at
  zeros_found lines long z =
      record {
        long = long;
        samples = λ l p hl k h. each_before (λ l. get_or lines (place W l (p + 1)) 0 ≡ sample_at W t 0 l p)
            (omega (arith, z (place W 0 (p + 1))), omega (arith, z (place W 1 (p + 1))), omega (arith, z (place W 5 (p + 1))), omega (arith, z (place W 6 (p + 1))), omega (arith, z (place W 13 (p + 1))), omega (arith, z (place W 14 (p + 1)))) l hl k;
        guards = λ l hl k ne. each_before (λ l. (l ≢ 0) × (l ≢ 5) × (l ≢ 13) → get_or lines (place W l 0) 0 ≡ sample_at W t 0 (l - 1) 0) (
          λ ne. absurd (ne.0 refl),
          λ ne. omega (arith, z (place W 1 0)),
          λ ne. absurd (ne.1 refl),
          λ ne. omega (arith, z (place W 6 0)),
          λ ne. absurd (ne.2 refl),
          λ ne. omega (arith, z (place W 14 0)),
        ) l hl k ne;
      }

  -- after n lines: line n finds what it should, and no sample was wrong exactly if each has its prediction
  abbrev pub LinesRight : ℕ → Type 0
  LinesRight n = (m i : ℕ) → m < n → i < 6 → PassRight m i

  pub before_small : (n : ℕ) → Within (largest F.bits) (before_writing F [] n (write_lines F [] t n)).lines
  before_small n = turned_le (largest F.bits) W (write_lines F [] t n).lines (lines_within F [] t n)

  pub lines_found : (n : ℕ) → (write_lines F [] t n).wrong ≡ None → Found W t n 0 (before_writing F [] n (write_lines F [] t n)).lines
  unfolding write_lines repeats start_writing write_line
  lines_found zero w =
      let long : length (zero_lines W) ≡ 18 * (W + 2) = length-replicate (18 * (W + 2)) 0 in
      zeros_found (turned W (zero_lines W)) (length_turned W (zero_lines W) (omega arith) ∙ long) (turned_le 0 W (zero_lines W) (zeros_le 0 (18 * (W + 2))))
  lines_found (suc n) w =
      turned_found n _
      (passes_found n (before_writing F [] n (write_lines F [] t n)) (lines_found n (line_right F [] t n (write_lines F [] t n) w)) (before_small n) 6 (omega arith) w)

  pub lines_wrong : (n : ℕ) → (write_lines F [] t n).wrong ≡ None ↔ LinesRight n
  unfolding write_lines repeats start_writing write_line
  lines_wrong zero = (λ e m i h k. absurd (omega arith), λ e. refl)
  lines_wrong (suc n) =
      let rest = lines_wrong n in (
        λ e. let w = line_right F [] t n (write_lines F [] t n) e in let a = (one w).0 e in
            λ m i h k. split n m (λ u. let q : m ≡ n = omega arith in rw q (a.1 i k)) (λ u. rest.0 w m i u k),
        λ e. let w = rest.1 (λ m i h k. e m i (omega arith) k) in (one w).1 (w, λ i k. e n i (omega arith) k),
      )
    where
      start : WriteState
      start = before_writing F [] n (write_lines F [] t n)

      one : (write_lines F [] t n).wrong ≡ None
          → (repeats (write_pass_at F 0 true t n) 6 start).wrong ≡ None ↔ (start.wrong ≡ None) × ((i : ℕ) → i < 6 → PassRight n i)
      one w = passes_wrong n start (lines_found n w) (before_small n) 6 (omega arith)

  -- ---- a set that fits

  module _ (lines : ℕ) where
    pub to_predicted : FitSet F lines t → PredictedSet F lines t
    to_predicted f =
        record {
          size = f.size;
          range = f.range;
          predicted = λ n l p hn hl hp e. at n l p hn hp e (owner F.xtrans l hl);
        }
      where
        right : LinesRight lines
        right = (lines_wrong lines).0 f.predicted

        at : (n l p : ℕ) → n < lines → p < W → is_interpolated F.xtrans l p ≡ true → Owner F.xtrans l → get_or t (index_in W n l p) 0 ≡ prediction_in W t n l p
        at n l p hn hp e (before k z) =
            let no : false ≡ true = sym (early_coded F.xtrans l p k (omega arith)) ∙ e in
            let y : ◌≡◌ {A = ℕ} 0 1 = cc in
            absurd (omega arith)
        at n l p hn hp e (first i k z is) = rw is ((right n i hn k p hp).0 (rw is at e))
        at n l p hn hp e (second i k z is) = rw is ((right n i hn k p hp).1 (rw is at e))

    pub from_predicted : PredictedSet F lines t → FitSet F lines t
    from_predicted f =
        record {
          size = f.size;
          range = f.range;
          predicted = (lines_wrong lines).1 (λ m i h k p hp. let L = lines_of F.xtrans i k in
              (f.predicted m (plan_of F.xtrans i).first p h L.0.high hp, f.predicted m (plan_of F.xtrans i).second p h L.1.high hp));
        }

pub fits_is : (F : Form) (lines : ℕ) (t : List ℕ) → FitSet F lines t ↔ PredictedSet F lines t
fits_is F lines t = (λ f. to_predicted F t f.range lines f, λ f. from_predicted F t f.range lines f)
