-- Lines by the samples of a set: what each pass finds in the colour lines, and the predictions that come from it. Assumes nothing.
use mathlib.Core.Bool.{Bool, true, cond}
use mathlib.Core.List.{List}
use mathlib.Core.Logic.{◌≢◌}
use mathlib.Core.Path.{◌≡◌, ap, ◌∙◌}
use Prim.Native.Nat.{ℕ, suc, ◌+◌, ◌-◌, ◌*◌, ◌%◌, ◌≤◌, ◌<◌}
use native.Mathlib.Nat.{mul-le-mul_right}
use native.Mathlib.Omega.{arith}
use lib.Dec.{eqb}
use lib.ListN.{length, get_or}
use borrow.Author.Tests.{eq-eqb, ne_eqb}
use Rattle.numbers.proofs.OrderLaws.{split}
use Rattle.pass_schedule.specs.Steps.{plan_of, pass_steps}
use Rattle.pass_steps.specs.Contexts.{context_in}
use Rattle.pass_schedule.specs.declared.Plan.{Plan}
use Rattle.colour_lines.specs.ColourLines.{guarded}
use Rattle.colour_lines.proofs.LineLaws.{length_guarded}
use Rattle.colour_lines.proofs.MoveLaws.{place_is, samples_stay, guard_leaves, left_guard_lem}
use Rattle.colour_lines.specs.Sets.{index_in}
use Rattle.quantiser.specs.Quantisers.{largest}
use Rattle.write_pass.specs.Puts.{Within}
use Rattle.write_pass.specs.Writings.{Writing, writes}
use Rattle.pass_schedule.proofs.OrderLaws.{pass_all, all_pass, pass_apart}
use Rattle.theorem_one_to_one.specs.PredictedSets.{sample_at, prediction_in}
use Rattle.pass_schedule.proofs.PlanLaws.{two_lines}
use Rattle.theorem_one_to_one.proofs.PredictedSteps.{place, even_sees, writes_leave, writes_length, writes_stand}
use Rattle.theorem_one_to_one.proofs.PredictedPasses.{ready, LineOf, lines_of, Owner, before, first, second, owner, not_ready}
use Rattle.std.specs.Prelude.{None}

-- what the colour lines hold in line n, after i passes: the samples of the set in each line that is ready, and left of it the first sample of the
-- line above
pub record Found (W : ℕ) (t : List ℕ) (n i : ℕ) (lines : List ℕ) : Type 0 where
  pub long : length lines ≡ 18 * (W + 2)
  pub samples : (l p : ℕ) → l ≤ 17 → ready l ≤ i → p < W → get_or lines (place W l (p + 1)) 0 ≡ sample_at W t n l p
  pub guards : (l : ℕ) → l ≤ 17 → ready l ≤ i → (l ≢ 0) × (l ≢ 5) × (l ≢ 13) → get_or lines (place W l 0) 0 ≡ sample_at W t n (l - 1) 0

module _ (xtrans : Bool) (W : ℕ) (even : W % 2 ≡ 0) (positive : 0 < W) (t : List ℕ) (n i : ℕ) (hi : i < 6) (lines : List ℕ) (found : Found W t n i lines) where
  abbrev A : ℕ
  A = (plan_of xtrans i).first

  abbrev B : ℕ
  B = (plan_of xtrans i).second

  -- the lines as the pass begins: both guards are set
  abbrev pub entered : List ℕ
  entered = guarded W B (guarded W A lines)

  -- ---- the prediction of an even position of one of its lines

  other : (m d : ℕ) → ready m ≤ i → d < W + 2 → get_or entered (place W m d) 0 ≡ get_or lines (place W m d) 0
  other m d k h =
      let ne = not_ready xtrans W even i hi m k in
      guard_leaves W B m d (guarded W A lines) h ne.1 ∙ guard_leaves W A m d lines h ne.0

  pub prediction_is : (l p : ℕ) → LineOf i l → p < W → p % 2 ≡ 0 → (context_in W entered l p).prediction ≡ prediction_in W t n l p
  unfolding prediction_in
  prediction_is l p L h e =
      even_sees W l p entered e
      ∙ rw (
        other (l - 2) (p + 1) L.two_up (omega arith) ∙ found.samples (l - 2) p (omega (arith, L.high)) L.two_up h,
        left,
        other (l - 1) (p + 1) L.one_up (omega arith) ∙ found.samples (l - 1) p (omega (arith, L.high)) L.one_up h,
        right,
      )
    where
      up : ℕ
      up = l - 1

      right : get_or entered (place W (l - 1) (p + 2)) 0 ≡ sample_at W t n (l - 1) (p + 1)
      right =
          other (l - 1) (p + 2) L.one_up (omega arith)
          ∙ ap (λ (j : ℕ). get_or lines j 0) (let q : place W (l - 1) (p + 2) ≡ place W (l - 1) (p + 1 + 1) = omega arith in q)
          ∙ found.samples (l - 1) (p + 1) (omega (arith, L.high)) L.one_up (omega arith)

      left : get_or entered (place W (l - 1) p) 0 ≡ cond (eqb p 0) (sample_at W t n (l - 2) 0) (sample_at W t n (l - 1) (p - 1))
      left =
          split p 0
          (λ k. let z : p ≡ 0 = omega arith in
          let q : l - 1 - 1 ≡ l - 2 = omega arith in
          rw (eq-eqb p 0 z, z) (other (l - 1) 0 L.one_up (omega arith) ∙ found.guards (l - 1) (omega (arith, L.high)) L.one_up L.guarded ∙ rw q))
          (λ k. let q : p ≡ p - 1 + 1 = omega arith in
          rw (ne_eqb p 0 (λ z. omega arith))
          (other (l - 1) p L.one_up (omega arith) ∙ ap (λ (j : ℕ). get_or lines (place W (l - 1) j) 0) q ∙ found.samples (l - 1) (p - 1) (omega (arith, L.high)) L.one_up (omega arith)))

  -- ---- after the pass

  module _ (bits : ℕ) (r : Writing) (is : r.lines ≡ entered) (range : (j : ℕ) → get_or t j 0 ≤ largest bits) (small : Within (largest bits) r.lines)
      (right : (writes bits 0 W true t n (pass_steps W (plan_of xtrans i)) r).wrong ≡ None) where
    abbrev after : List ℕ
    after = (writes bits 0 W true t n (pass_steps W (plan_of xtrans i)) r).lines

    L : LineOf i A × LineOf i B
    L = lines_of xtrans i hi

    entered_long : length entered ≡ 18 * (W + 2)
    entered_long = length_guarded W B (guarded W A lines) ∙ length_guarded W A lines ∙ found.long

    abbrev P : Plan
    P = plan_of xtrans i

    -- places that no sample of the two lines has are left as they are
    leaves : (j : ℕ) → ((p : ℕ) → p < W → (j ≢ A * (W + 2) + p + 1) × (j ≢ B * (W + 2) + p + 1)) → get_or after j 0 ≡ get_or entered j 0
    leaves j ne = writes_leave bits W t n j (pass_steps W P) r (pass_all W P even (λ l p. j ≢ l * (W + 2) + p + 1) ne) ∙ ap (λ (l : List ℕ). get_or l j 0) is

    old : (m d : ℕ) → ready m ≤ i → d < W + 2 → get_or after (place W m d) 0 ≡ get_or lines (place W m d) 0
    old m d k h =
        let ne = not_ready xtrans W even i hi m k in
        leaves (place W m d) (λ p hp. (λ e. ne.0 (same A p hp e), λ e. ne.1 (same B p hp e))) ∙ other m d k h
      where
        same : (l p : ℕ) → p < W → place W m d ≡ l * (W + 2) + p + 1 → m ≡ l
        same l p hp e = let f : m * (W + 2) + d ≡ l * (W + 2) + (p + 1) = omega arith in (place_is W m d l (p + 1) h (omega arith) f).0

    -- no guard is a sample's place
    guard_stays : (m : ℕ) → get_or after (place W m 0) 0 ≡ get_or entered (place W m 0) 0
    guard_stays m = leaves (place W m 0) (λ p hp. (no A p hp, no B p hp))
      where
        no : (l p : ℕ) → p < W → place W m 0 ≢ l * (W + 2) + p + 1
        no l p hp e =
            let f : m * (W + 2) + 0 ≡ l * (W + 2) + (p + 1) = omega arith in
            let z : 0 ≡ p + 1 = (place_is W m 0 l (p + 1) (omega arith) (omega arith) f).1 in
            omega arith

    stand : (p : ℕ) → p < W
        → (get_or after (A * (W + 2) + p + 1) 0 ≡ get_or t (index_in W n A p) 0) × (get_or after (B * (W + 2) + p + 1) 0 ≡ get_or t (index_in W n B p) 0)
    stand =
        all_pass W P even (λ l p. get_or after (l * (W + 2) + p + 1) 0 ≡ get_or t (index_in W n l p) 0)
        (writes_stand bits W t n range (pass_steps W P) r small right
        (rw is (pass_all W P even (λ l p. l * (W + 2) + p + 1 < length entered) (λ p h. (room A p L.0.high h, room B p L.1.high h))))
        (pass_apart W P even (two_lines xtrans i hi)))
      where
        room : (l p : ℕ) → l ≤ 17 → p < W → l * (W + 2) + p + 1 < length entered
        room l p a b = let m : suc l * (W + 2) ≤ 18 * (W + 2) = mul-le-mul_right (W + 2) (omega arith) in omega (arith, entered_long)

    inside : (l : ℕ) → l ≤ 17 → (m : List ℕ) → length m ≡ 18 * (W + 2) → l * (W + 2) < length m
    inside l a m e = let k : suc l * (W + 2) ≤ 18 * (W + 2) = mul-le-mul_right (W + 2) (omega arith) in omega arith

    -- a line of the pass has its samples, and left of them the first sample of the line above
    new : (l p : ℕ) → LineOf i l → get_or after (l * (W + 2) + p + 1) 0 ≡ get_or t (index_in W n l p) 0 → get_or after (place W l (p + 1)) 0 ≡ sample_at W t n l p
    unfolding sample_at
    new l p Ll e = let q : place W l (p + 1) ≡ l * (W + 2) + p + 1 = omega arith in rw (q, Ll.new) e

    first_above_lem : (l : ℕ) → LineOf i l → get_or lines ((l - 1) * (W + 2) + 1) 0 ≡ sample_at W t n (l - 1) 0
    first_above_lem l Ll = found.samples (l - 1) 0 (omega (arith, Ll.high)) Ll.one_up positive

    new_guard : (get_or after (place W A 0) 0 ≡ sample_at W t n (A - 1) 0) × (get_or after (place W B 0) 0 ≡ sample_at W t n (B - 1) 0)
    new_guard = (
      guard_stays A
          ∙ guard_leaves W B A 0 (guarded W A lines) (omega arith) (two_lines xtrans i hi)
          ∙ rw (zero A) (left_guard_lem W A lines (inside A L.0.high lines found.long))
          ∙ first_above_lem A L.0,
      guard_stays B
          ∙ rw (zero B) (left_guard_lem W B (guarded W A lines) (inside B L.1.high (guarded W A lines) (length_guarded W A lines ∙ found.long)))
          ∙ samples_stay_first
          ∙ first_above_lem B L.1,
    )
      where
        zero : (l : ℕ) → place W l 0 ≡ l * (W + 2)
        zero l = omega arith

        samples_stay_first : get_or (guarded W A lines) ((B - 1) * (W + 2) + 1) 0 ≡ get_or lines ((B - 1) * (W + 2) + 1) 0
        samples_stay_first = let q : (B - 1) * (W + 2) + 0 + 1 ≡ (B - 1) * (W + 2) + 1 = omega arith in rw q at (samples_stay W (B - 1) 0 A lines positive)

    pub found_next : Found W t n (suc i) after
    found_next =
        record {
          long = writes_length bits W t n (pass_steps W P) r ∙ rw is entered_long;
          samples = λ l p hl k h. sample l p hl k h (owner xtrans l hl);
          guards = λ l hl k ne. guard l hl k ne (owner xtrans l hl);
        }
      where
        -- a line that is ready just now is one of the two
        now : (X : ℕ → Type 0) (l : ℕ) → ready l ≡ suc i → Owner xtrans l → X A → X B → X l
        now X l e (before h f) a b = absurd (omega arith)
        now X l e (first j h f g) a b = let q : j ≡ i = omega arith in rw (g, q) a
        now X l e (second j h f g) a b = let q : j ≡ i = omega arith in rw (g, q) b

        sample : (l p : ℕ) → l ≤ 17 → ready l ≤ suc i → p < W → Owner xtrans l → get_or after (place W l (p + 1)) 0 ≡ sample_at W t n l p
        sample l p hl k h o =
            split (ready l) i
            (λ u. old l (p + 1) u (omega arith) ∙ found.samples l p hl u h)
            (λ u. now (λ m. get_or after (place W m (p + 1)) 0 ≡ sample_at W t n m p) l (omega arith) o (new A p L.0 (stand p h).0) (new B p L.1 (stand p h).1))

        guard : (l : ℕ) → l ≤ 17 → ready l ≤ suc i → (l ≢ 0) × (l ≢ 5) × (l ≢ 13) → Owner xtrans l → get_or after (place W l 0) 0 ≡ sample_at W t n (l - 1) 0
        guard l hl k ne o =
            split (ready l) i
            (λ u. old l 0 u (omega arith) ∙ found.guards l hl u ne)
            (λ u. now (λ m. get_or after (place W m 0) 0 ≡ sample_at W t n (m - 1) 0) l (omega arith) o new_guard.0 new_guard.1)
