-- The steps of a pass: they go to each position of both its lines, and no two of them to one place. Assumes nothing.
use mathlib.Core.Bool.{cond}
use mathlib.Core.List.{List, [], ◌∷◌, ◌++◌}
use mathlib.Core.Logic.{◌≢◌}
use mathlib.Core.Path.{◌≡◌, sym, ap, ◌∙◌, subst}
use Prim.Native.Nat.{ℕ, zero, suc, ◌+◌, ◌-◌, ◌*◌, ◌/◌, ◌%◌, ◌≤◌, ◌<◌}
use native.Mathlib.Nat.{not-suc-le-zero}
use native.Mathlib.Omega.{arith}
use lib.Arith.{digits_div, digits_mod}
use lib.Dec.{leb, ltb, eqb}
use borrow.Author.Tests.{lt-ltb, le-ltb, le-leb, lt-leb, eq-eqb, ne_eqb}
use Rattle.numbers.proofs.OrderLaws.{split}
use Rattle.pass_schedule.specs.Steps.{Step, even_steps, odd_steps, turn_steps, upto, pass_steps}
use Rattle.pass_schedule.specs.Steps.{step_place}
use Rattle.pass_schedule.specs.declared.Plan.{Plan}

-- ---- lists of steps

abbrev pub All : (Step → Type 0) → List Step → Type 0
All Q [] = Unit {0}
All Q (x ∷ l) = Q x × All Q l

-- where the sample of a step goes
abbrev pub cell : ℕ → Step → ℕ
cell W x = step_place W x + 1

-- no two samples go to one place
abbrev pub Apart : ℕ → List Step → Type 0
Apart W [] = Unit {0}
Apart W (x ∷ l) = All (λ y. cell W x ≢ cell W y) l × Apart W l

pub all_both : {P Q R : Step → Type 0} (l : List Step) → All P l → All Q l → ((x : Step) → P x → Q x → R x) → All R l
all_both [] a b f = tt
all_both (x ∷ l) a b f = (f x a.0 b.0, all_both l a.1 b.1 f)

module _ (Q : Step → Type 0) where
  pub all_append : (k l : List Step) → All Q k → All Q l → All Q (k ++ l)
  all_append [] l a b = b
  all_append (x ∷ k) l a b = (a.0, all_append k l a.1 b)

  all_left : (k l : List Step) → All Q (k ++ l) → All Q k
  all_left [] l a = tt
  all_left (x ∷ k) l a = (a.0, all_left k l a.1)

  all_right : (k l : List Step) → All Q (k ++ l) → All Q l
  all_right [] l a = a
  all_right (x ∷ k) l a = all_right k l a.1

  pub all_upto : (f : ℕ → List Step) (n : ℕ) → ((i : ℕ) → i < n → All Q (f i)) → All Q (upto f n)
  unfolding upto
  all_upto f zero a = tt
  all_upto f (suc n) a = all_append (upto f n) (f n) (all_upto f n (λ i h. a i (omega arith))) (a n (omega arith))

  all_at : (f : ℕ → List Step) (n i : ℕ) → i < n → All Q (upto f n) → All Q (f i)
  unfolding upto
  all_at f zero i h a = absurd (not-suc-le-zero h)
  all_at f (suc n) i h a =
      split n i
      (λ k. let e : n ≡ i = omega arith in subst (λ (j : ℕ). All Q (f j)) e (all_right (upto f n) (f n) a))
      (λ k. all_at f n i k (all_left (upto f n) (f n) a))

module _ (W : ℕ) where
  apart_append : (k l : List Step) → Apart W k → Apart W l → All (λ x. All (λ y. cell W x ≢ cell W y) l) k → Apart W (k ++ l)
  apart_append [] l a b c = b
  apart_append (x ∷ k) l a b c =
      (all_append (λ y. cell W x ≢ cell W y) k l a.0 c.0, apart_append k l a.1 b c.1)

  -- two places: their lines and positions
  pub place_is : (l p m q : ℕ) → p < W → q < W → l * (W + 2) + p + 1 ≡ m * (W + 2) + q + 1 → (l ≡ m) × (p ≡ q)
  place_is l p m q hp hq e =
      let f : l * (W + 2) + (p + 1) ≡ m * (W + 2) + (q + 1) = omega arith in
      let a : p + 1 < W + 2 = omega arith in
      let b : q + 1 < W + 2 = omega arith in
      let d : l ≡ m = sym (digits_div l a) ∙ ap (λ (z : ℕ). z / (W + 2)) f ∙ digits_div m b in
      let r : p + 1 ≡ q + 1 = sym (digits_mod l a) ∙ ap (λ (z : ℕ). z % (W + 2)) f ∙ digits_mod m b in
      (d, omega arith)

-- ---- the turns of a pass

-- the turn at which position p is done
abbrev turn_of : ℕ → ℕ
turn_of p = cond (eqb (p % 2) 0) (p / 2) ((p + 7) / 2)

turn_even : (t : ℕ) → turn_of (2 * t) ≡ t
turn_even t = rw (eq-eqb (2 * t % 2) 0 (omega arith)) (omega arith)

turn_odd : (t : ℕ) → 8 ≤ 2 * t → turn_of (2 * t - 7) ≡ t
turn_odd t h = rw (ne_eqb ((2 * t - 7) % 2) 0 (omega arith)) (omega arith)

module _ (W : ℕ) (P : Plan) (even : W % 2 ≡ 0) where
  -- what holds of both lines at the positions of a turn holds of its steps
  turn_all : (R : ℕ → ℕ → Type 0) (t : ℕ) → t < W / 2 + 4 → ((p : ℕ) → p < W → turn_of p ≡ t → R P.first p × R P.second p)
      → All (λ x. R x.line x.position) (turn_steps W P t)
  unfolding turn_steps
  turn_all R t h f =
      all_append (λ x. R x.line x.position) (cond (ltb (2 * t) W) (even_steps P (2 * t)) []) (cond (leb 8 (2 * t)) (odd_steps P (2 * t - 7)) [])
      (split W (2 * t)
      (λ k. rw (le-ltb (2 * t) W k) tt)
      (λ k. let r = f (2 * t) k (turn_even t) in rw (lt-ltb (2 * t) W k) (r.0, (r.1, tt))))
      (split 8 (2 * t)
      (λ k. let r = f (2 * t - 7) (omega arith) (turn_odd t k) in rw (le-leb 8 (2 * t) k) (r.0, (r.1, tt)))
      (λ k. rw (lt-leb 8 (2 * t) k) tt))

  -- each position of both lines is done
  pub pass_all : (R : ℕ → ℕ → Type 0) → ((p : ℕ) → p < W → R P.first p × R P.second p) → All (λ x. R x.line x.position) (pass_steps W P)
  unfolding pass_steps
  pass_all R f = all_upto (λ x. R x.line x.position) (turn_steps W P) (W / 2 + 4) (λ t h. turn_all R t h (λ p k e. f p k))

  even_at_lem : (R : ℕ → ℕ → Type 0) (t : ℕ) → 2 * t < W → All (λ x. R x.line x.position) (turn_steps W P t) → R P.first (2 * t) × R P.second (2 * t)
  unfolding turn_steps
  even_at_lem R t h a =
      let b = all_left (λ x. R x.line x.position) (cond (ltb (2 * t) W) (even_steps P (2 * t)) []) (cond (leb 8 (2 * t)) (odd_steps P (2 * t - 7)) []) a in
      let c = rw (lt-ltb (2 * t) W h) at b in
      (c.0, c.1.0)

  odd_at_lem : (R : ℕ → ℕ → Type 0) (t : ℕ) → 8 ≤ 2 * t → All (λ x. R x.line x.position) (turn_steps W P t)
      → R P.first (2 * t - 7) × R P.second (2 * t - 7)
  unfolding turn_steps
  odd_at_lem R t h a =
      let b = all_right (λ x. R x.line x.position) (cond (ltb (2 * t) W) (even_steps P (2 * t)) []) (cond (leb 8 (2 * t)) (odd_steps P (2 * t - 7)) []) a in
      let c = rw (le-leb 8 (2 * t) h) at b in
      (c.0, c.1.0)

  pub all_pass : (R : ℕ → ℕ → Type 0) → All (λ x. R x.line x.position) (pass_steps W P) → (p : ℕ) → p < W → R P.first p × R P.second p
  unfolding pass_steps
  all_pass R a p h =
      split (p % 2) 0
      (λ k. let e : 2 * (p / 2) ≡ p = omega arith in rw e at (even_at_lem R (p / 2) (omega arith) (turn (p / 2) (omega arith))))
      (λ k. let e : 2 * ((p + 7) / 2) - 7 ≡ p = omega arith in rw e at (odd_at_lem R ((p + 7) / 2) (omega arith) (turn ((p + 7) / 2) (omega arith))))
    where
      turn : (t : ℕ) → t < W / 2 + 4 → All (λ x. R x.line x.position) (turn_steps W P t)
      turn t k = all_at (λ x. R x.line x.position) (turn_steps W P) (W / 2 + 4) t k a

  -- ---- no two steps go to one place

  module _ (ne : P.first ≢ P.second) where
    -- both lines at one position
    pair_apart : (p : ℕ) → p < W → P.first * (W + 2) + p + 1 ≢ P.second * (W + 2) + p + 1
    pair_apart p h e = ne (place_is W P.first p P.second p h h e).0

    turn_apart : (t : ℕ) → t < W / 2 + 4 → Apart W (turn_steps W P t)
    unfolding turn_steps
    turn_apart t h =
        apart_append W (cond (ltb (2 * t) W) (even_steps P (2 * t)) []) (cond (leb 8 (2 * t)) (odd_steps P (2 * t - 7)) [])
        (split W (2 * t)
        (λ k. rw (le-ltb (2 * t) W k) tt)
        (λ k. rw (lt-ltb (2 * t) W k) ((pair_apart (2 * t) k, tt), (tt, tt))))
        (split 8 (2 * t)
        (λ k. rw (le-leb 8 (2 * t) k) ((pair_apart (2 * t - 7) (omega arith), tt), (tt, tt)))
        (λ k. rw (lt-leb 8 (2 * t) k) tt))
        (split W (2 * t)
        (λ k. rw (le-ltb (2 * t) W k) tt)
        (λ k. rw (lt-ltb (2 * t) W k) (odds P.first k, (odds P.second k, tt))))
      where
        -- the even position is not the odd one
        odd : (l m : ℕ) → 2 * t < W → 8 ≤ 2 * t → l * (W + 2) + 2 * t + 1 ≢ m * (W + 2) + (2 * t - 7) + 1
        odd l m k u e = let same : 2 * t ≡ 2 * t - 7 = (place_is W l (2 * t) m (2 * t - 7) k (omega arith) e).1 in omega arith

        odds : (l : ℕ) → 2 * t < W → All (λ y. l * (W + 2) + 2 * t + 1 ≢ cell W y) (cond (leb 8 (2 * t)) (odd_steps P (2 * t - 7)) [])
        odds l k =
            split 8 (2 * t)
            (λ u. rw (le-leb 8 (2 * t) u) (odd l P.first k u, (odd l P.second k u, tt)))
            (λ u. rw (lt-leb 8 (2 * t) u) tt)

    -- turns go to different positions
    turns_apart : (i j : ℕ) → i < j → j < W / 2 + 4 → All (λ x. All (λ y. cell W x ≢ cell W y) (turn_steps W P j)) (turn_steps W P i)
    turns_apart i j lt h =
        turn_all (λ l p. All (λ y. l * (W + 2) + p + 1 ≢ cell W y) (turn_steps W P j)) i (omega arith)
        (λ p hp ep. (other P.first p hp ep, other P.second p hp ep))
      where
        differ : (l p m q : ℕ) → p < W → turn_of p ≡ i → q < W → turn_of q ≡ j → l * (W + 2) + p + 1 ≢ m * (W + 2) + q + 1
        differ l p m q hp ep hq eq e =
            let same : p ≡ q = (place_is W l p m q hp hq e).1 in
            let no : i ≡ j = sym ep ∙ ap (λ (z : ℕ). turn_of z) same ∙ eq in
            omega arith

        other : (l p : ℕ) → p < W → turn_of p ≡ i → All (λ y. l * (W + 2) + p + 1 ≢ cell W y) (turn_steps W P j)
        other l p hp ep =
            turn_all (λ m q. l * (W + 2) + p + 1 ≢ m * (W + 2) + q + 1) j h
            (λ q hq eq. (differ l p P.first q hp ep hq eq, differ l p P.second q hp ep hq eq))

    turns_so_far : (n : ℕ) → n ≤ W / 2 + 4 → Apart W (upto (turn_steps W P) n)
    unfolding upto
    turns_so_far zero h = tt
    turns_so_far (suc n) h =
        apart_append W (upto (turn_steps W P) n) (turn_steps W P n) (turns_so_far n (omega arith)) (turn_apart n h)
        (all_upto (λ x. All (λ y. cell W x ≢ cell W y) (turn_steps W P n)) (turn_steps W P) n (λ i k. turns_apart i n k h))

    pub pass_apart : Apart W (pass_steps W P)
    unfolding pass_steps
    pass_apart = turns_so_far (W / 2 + 4) (omega arith)
