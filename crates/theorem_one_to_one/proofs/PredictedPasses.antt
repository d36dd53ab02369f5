-- The passes of a line, by the samples of a set: which lines a pass finds, and when none of its interpolated samples is wrong. Assumes nothing.
use mathlib.Core.Bool.{Bool, true, false, not, ◌&&◌, ◌||◌, and-false}
use mathlib.Core.List.{[], ◌∷◌}
use mathlib.Core.Logic.{◌≢◌, ◌⊎◌, inl, inr}
use mathlib.Core.Path.{◌≡◌, refl, sym, ap, ◌∙◌}
use Prim.Native.Nat.{ℕ, zero, suc, ◌+◌, ◌-◌, ◌*◌, ◌%◌, ◌≤◌, ◌<◌}
use native.Mathlib.Omega.{arith}
use lib.Dec.{leb, ltb, eqb}
use lib.ListN.{get_or}
use borrow.Author.Tests.{eq-eqb, leb-true, ltb-true, eqb-true}
use Rattle.numbers.proofs.BoolLaws.{both}
use Rattle.numbers.proofs.OrderLaws.{split}
use Rattle.pass_schedule.specs.Steps.{plan_of, is_interpolated, Step, pass_steps}
use Rattle.pass_schedule.proofs.OrderLaws.{All, all_both, pass_all}
use Rattle.colour_lines.proofs.MoveLaws.{place_is}
use Rattle.theorem_one_to_one.specs.PredictedSets.{is_before}
use Rattle.pass_schedule.proofs.PlanLaws.{first_line, second_line, lines_are, each_pass, interpolated_even, CodedIn, steps_coded}
use Rattle.theorem_one_to_one.proofs.PredictedSteps.{place, InPass}

-- ---- the order of the lines

-- after how many passes a colour line has the samples of the line: the first two of each colour have them before the first pass
unfoldable pub ready : ℕ → ℕ
ready l = get_or (0 ∷ 0 ∷ 1 ∷ 3 ∷ 5 ∷ 0 ∷ 0 ∷ 1 ∷ 2 ∷ 3 ∷ 4 ∷ 5 ∷ 6 ∷ 0 ∷ 0 ∷ 2 ∷ 4 ∷ 6 ∷ []) l 0

-- a line of pass i: two lines above it are ready before, and the one above has a line of its colour above it
pub record LineOf (i l : ℕ) : Type 0 where
  pub low : 2 ≤ l
  pub high : l ≤ 17
  pub now : ready l ≡ suc i
  pub one_up : ready (l - 1) ≤ i
  pub two_up : ready (l - 2) ≤ i
  pub new : is_before l ≡ false
  pub guarded : (l - 1 ≢ 0) × (l - 1 ≢ 5) × (l - 1 ≢ 13)

-- what can be seen of a line's number by computation
abbrev seen : ℕ → ℕ → Bool
seen i l =
    leb 2 l && (leb l 17 && (eqb (ready l) (suc i) && (leb (ready (l - 1)) i && (leb (ready (l - 2)) i && (not (is_before l) && (not (eqb (l - 1) 0) && (not (eqb (l - 1) 5) && not (eqb (l - 1) 13))))))))

line_of : (i l : ℕ) → seen i l ≡ true → LineOf i l
line_of i l e =
    let a = both _ _ e in
    let b = both _ _ a.1 in
    let c = both _ _ b.1 in
    let d = both _ _ c.1 in
    let f = both _ _ d.1 in
    let g = both _ _ f.1 in
    let h = both _ _ g.1 in
    let k = both _ _ h.1 in
    record {
      low = leb-true 2 l a.0;
      high = leb-true l 17 b.0;
      now = eqb-true (ready l) (suc i) c.0;
      one_up = leb-true (ready (l - 1)) i d.0;
      two_up = leb-true (ready (l - 2)) i f.0;
      new = not_true (is_before l) g.0;
      guarded = (differ (l - 1) 0 h.0, differ (l - 1) 5 k.0, differ (l - 1) 13 k.1);
    }
  where
    not_true : (b : Bool) → not b ≡ true → b ≡ false
    not_true false q = refl
    not_true true q = sym q

    differ : (m k : ℕ) → not (eqb m k) ≡ true → m ≢ k
    differ m k q z = let no : false ≡ true = (rw (eq-eqb m k z) at q) in let y : ◌≡◌ {A = ℕ} 0 1 = cc in absurd (omega arith)

each_line : (i : ℕ) → i < 6 → (seen i (first_line i) ≡ true) × (seen i (second_line i) ≡ true)
unfolding ready
each_line =
    each_pass (λ i. (seen i (first_line i) ≡ true) × (seen i (second_line i) ≡ true))
    ((refl, refl), (refl, refl), (refl, refl), (refl, refl), (refl, refl), (refl, refl))

pub lines_of : (xtrans : Bool) (i : ℕ) → i < 6 → LineOf i (plan_of xtrans i).first × LineOf i (plan_of xtrans i).second
lines_of xtrans i h =
    let e = lines_are xtrans i in
    let s = each_line i h in
    rw (e.0, e.1) (line_of i (first_line i) s.0, line_of i (second_line i) s.1)

-- the other way: a line is one of the first two of its colour, or a line of the pass after which it is ready
abbrev owned : ℕ → Bool
owned l = eqb (ready l) 0 || (ltb (ready l - 1) 6 && (eqb l (first_line (ready l - 1)) || eqb l (second_line (ready l - 1))))

all_below : (ℕ → Bool) → ℕ → Bool
all_below f zero = true
all_below f (suc n) = all_below f n && f n

below : (f : ℕ → Bool) (n : ℕ) → all_below f n ≡ true → (l : ℕ) → l < n → f l ≡ true
unfolding all_below
below f zero e l h = absurd (omega arith)
below f (suc n) e l h =
    let b = both (all_below f n) (f n) e in
    split n l (λ k. let q : l ≡ n = omega arith in rw q b.1) (λ k. below f n b.0 l k)

all_owned : all_below owned 18 ≡ true
unfolding all_below ready
all_owned = refl

either : (a b : Bool) → a || b ≡ true → (a ≡ true) ⊎ (b ≡ true)
either true b e = inl refl
either false b e = inr e

-- what holds of the first two lines of each colour holds of every line that is ready before the first pass
abbrev early : ℕ → Bool
early l = not (eqb (ready l) 0) || (eqb l 0 || (eqb l 1 || (eqb l 5 || (eqb l 6 || (eqb l 13 || eqb l 14)))))

all_early : all_below early 18 ≡ true
unfolding all_below ready
all_early = refl

pub each_before : (Q : ℕ → Type 0) → Q 0 × Q 1 × Q 5 × Q 6 × Q 13 × Q 14 → (l : ℕ) → l ≤ 17 → ready l ≤ 0 → Q l
each_before Q a l h k =
    let z : ready l ≡ 0 = omega arith in
    let e = rw z at (below early 18 all_early l (omega arith)) in
    pick 0 _ a.0 (pick 1 _ a.1 (pick 5 _ a.2 (pick 6 _ a.3 (pick 13 _ a.4 (λ u. is 14 a.5 u))))) e
  where
    is : (m : ℕ) → Q m → eqb l m ≡ true → Q l
    is m q u = rw (eqb-true l m u) q

    go : (m : ℕ) (rest : Bool) → Q m → (rest ≡ true → Q l) → (eqb l m ≡ true) ⊎ (rest ≡ true) → Q l
    go m rest q f (inl u) = is m q u
    go m rest q f (inr u) = f u

    pick : (m : ℕ) (rest : Bool) → Q m → (rest ≡ true → Q l) → eqb l m || rest ≡ true → Q l
    pick m rest q f u = go m rest q f (either (eqb l m) rest u)

-- none of them is interpolated
none_of : (a b c : Bool) → (a && false) || (b && false) || (c && false) ≡ false
none_of a b c = rw (and-false a, and-false b, and-false c)

pub early_coded : (xtrans : Bool) (l p : ℕ) → l ≤ 17 → ready l ≤ 0 → is_interpolated xtrans l p ≡ false
unfolding is_interpolated
early_coded false l p h k = refl
early_coded true l p h k = each_before (λ l. is_interpolated true l p ≡ false) (none, none, none, none, none, none) l h k
  where
    none : (eqb (p % 2) 0 && false) || (eqb (p % 4) 0 && false) || (eqb (p % 4) 2 && false) ≡ false
    none = none_of (eqb (p % 2) 0) (eqb (p % 4) 0) (eqb (p % 4) 2)

pub data Owner (xtrans : Bool) (l : ℕ) : Type 0 where
  before : l ≤ 17 → ready l ≡ 0 → Owner xtrans l
  first : (i : ℕ) → i < 6 → ready l ≡ suc i → l ≡ (plan_of xtrans i).first → Owner xtrans l
  second : (i : ℕ) → i < 6 → ready l ≡ suc i → l ≡ (plan_of xtrans i).second → Owner xtrans l

pub owner : (xtrans : Bool) (l : ℕ) → l ≤ 17 → Owner xtrans l
owner xtrans l h = go (either _ _ (below owned 18 all_owned l (omega arith)))
  where
    i : ℕ
    i = ready l - 1

    e : ((plan_of xtrans i).first ≡ first_line i) × ((plan_of xtrans i).second ≡ second_line i)
    e = lines_are xtrans i

    in_pass : i < 6 → 0 < ready l → (eqb l (first_line i) ≡ true) ⊎ (eqb l (second_line i) ≡ true) → Owner xtrans l
    in_pass k pos (inl f) = first i k (omega arith) (eqb-true l (first_line i) f ∙ sym e.0)
    in_pass k pos (inr f) = second i k (omega arith) (eqb-true l (second_line i) f ∙ sym e.1)

    go : (eqb (ready l) 0 ≡ true) ⊎ (ltb i 6 && (eqb l (first_line i) || eqb l (second_line i)) ≡ true) → Owner xtrans l
    go (inl f) = before h (eqb-true (ready l) 0 f)
    go (inr f) =
        let b = both (ltb i 6) (eqb l (first_line i) || eqb l (second_line i)) f in
        split (ready l) 0 (λ k. before h (omega arith)) (λ k. in_pass (ltb-true i 6 b.0) k (either _ _ b.1))

-- ---- the steps of pass i

module _ (xtrans : Bool) (W : ℕ) (even : W % 2 ≡ 0) (i : ℕ) (h : i < 6) where
  abbrev A : ℕ
  A = (plan_of xtrans i).first

  abbrev B : ℕ
  B = (plan_of xtrans i).second

  -- a line that is ready before is none of the two
  pub not_ready : (l : ℕ) → ready l ≤ i → (l ≢ A) × (l ≢ B)
  not_ready l k =
      let a = lines_of xtrans i h in
      (λ e. omega (arith, a.0.now, ap ready e), λ e. omega (arith, a.1.now, ap ready e))

  abbrev Fact : ℕ → ℕ → Type 0
  Fact l p =
      ((m d : ℕ) → m ≢ A → m ≢ B → d < W + 2 → place W m d ≢ l * (W + 2) + p + 1) × (p < W) × (2 ≤ l) × (l - 1 ≢ A) × (l - 1 ≢ B) × (l - 2 ≢ A) × (l - 2 ≢ B)

  fact : (l p : ℕ) → LineOf i l → (l ≡ A) ⊎ (l ≡ B) → p < W → Fact l p
  fact l p L one hp =
      let a = not_ready (l - 1) L.one_up in
      let b = not_ready (l - 2) L.two_up in
      (apart one, hp, L.low, a.0, a.1, b.0, b.1)
    where
      apart : (l ≡ A) ⊎ (l ≡ B) → (m d : ℕ) → m ≢ A → m ≢ B → d < W + 2 → place W m d ≢ l * (W + 2) + p + 1
      apart o m d na nb hd e =
          let f : m * (W + 2) + d ≡ l * (W + 2) + (p + 1) = omega arith in
          let q : m ≡ l = (place_is W m d l (p + 1) hd (omega arith) f).0 in
          elim o [ inl u ↦ na (q ∙ u) | inr u ↦ nb (q ∙ u) ]

  in_pass : (x : Step) → Fact x.line x.position → CodedIn xtrans x → InPass W A B x
  in_pass x f c =
      record {
        one = f.0;
        inside = f.1;
        above = λ e. (f.2, f.3, f.4, f.5, f.6, even_position (is_interpolated xtrans x.line x.position) refl (sym e ∙ c));
      }
    where
      even_position : (b : Bool) → is_interpolated xtrans x.line x.position ≡ b → false ≡ not b → x.position % 2 ≡ 0
      even_position false u v = let y : ◌≡◌ {A = ℕ} 0 1 = cc in absurd (omega arith)
      even_position true u v = interpolated_even xtrans x.line x.position u

  pub all_in_pass : All (InPass W A B) (pass_steps W (plan_of xtrans i))
  all_in_pass =
      let L = lines_of xtrans i h in
      all_both (pass_steps W (plan_of xtrans i))
      (pass_all W (plan_of xtrans i) even Fact (λ p k. (fact A p L.0 (inl refl) k, fact B p L.1 (inr refl) k)))
      (steps_coded xtrans W i h) in_pass
