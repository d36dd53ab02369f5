-- What the coding of a sample goes by: which quantiser is chosen, and that its record is one of 56. Assumes nothing.
use mathlib.Core.Bool.{Bool, true, false, ◌&&◌, and-false, false≢true}
use mathlib.Core.Path.{◌≡◌, refl}
use Prim.Native.Nat.{ℕ, suc, ◌+◌, ◌-◌, ◌*◌, ◌≤◌, ◌<◌}
use native.Mathlib.Omega.{arith}
use lib.Dec.{leb, lit<}
use borrow.Author.Tests.{leb-true, lt-leb, ne_eqb}
use Rattle.quantiser.specs.Inside.{Serves}
use Rattle.quantiser.specs.Quantisers.{gradient_of}
use Rattle.quantiser.specs.declared.Thresholds.{Thresholds}
use Rattle.quantiser.proofs.GradientLaws.{main_le, flat_le}
use Rattle.prediction.specs.Predictions.{flatness_of}
use Rattle.prediction.specs.declared.Context.{Context}
use Rattle.code.specs.Samples.{choice_of}
use Rattle.pass_steps.specs.Contexts.{used_base, look_of}
use Rattle.pass_steps.specs.declared.Look.{Look}

either {ℓ} : {X : Type ℓ} (t : Bool) → (t ≡ true → X) → (t ≡ false → X) → X
either true f g = f refl
either false f g = g refl

second : (a b : Bool) → (a && b) ≡ true → b ≡ true
second true b e = e
second false b e = absurd (false≢true e)

-- the main quantiser is used, or flat quantiser i + 1 where the flatness is at most 7
pub choice_cases {ℓ} : {X : Type ℓ} (q f : ℕ) → (choice_of q f ≡ 0 → X) → ((i : ℕ) → choice_of q f ≡ suc i → i < 3 → f ≤ 7 → X) → X
unfolding choice_of
choice_cases q f main flat =
    either (leb 1 q && leb f 5)
    (λ a. flat 0 (rw a) (lit< tt) (omega (arith, leb-true f 5 (second (leb 1 q) (leb f 5) a))))
    (λ a. either (leb 2 q && leb f 6)
    (λ b. flat 1 (rw (a, b)) (lit< tt) (omega (arith, leb-true f 6 (second (leb 2 q) (leb f 6) b))))
    (λ b. either (leb 3 q && leb f 7)
    (λ c. flat 2 (rw (a, b, c)) (lit< tt) (leb-true f 7 (second (leb 3 q) (leb f 7) c)))
    (λ c. main (rw (a, b, c)))))

-- from flatness 8 on none is flat
pub no_flat : (q f : ℕ) → 8 ≤ f → choice_of q f ≡ 0
unfolding choice_of
no_flat q f h = rw (lt-leb f 5 (omega arith), lt-leb f 6 (omega arith), lt-leb f 7 h, and-false (leb 1 q), and-false (leb 2 q), and-false (leb 3 q))

-- so the record is one of 56
pub place_lt : (q : ℕ) (x : Context) → (look_of q x).place < 56
unfolding look_of
place_lt q x =
    choice_cases q (flatness_of x)
    (λ e. rw e (omega (arith, main_le q x.first x.second)))
    (λ i e h f. rw (e, ne_eqb (suc i) 0 (omega arith)) (omega (arith, flat_le (suc i - 1) x.first x.second (omega arith))))

-- the thresholds of the line's base after the first, with that of the base that is used
abbrev pub thresholds_for : ℕ → ℕ → Thresholds
thresholds_for q used = record { base = used; second = 3 * q + 18; third = 5 * q + 67; fourth = 7 * q + 276 }

-- they serve small differences, whatever the bases are
serves_small : (q used m : ℕ) → m < 18 → Serves (thresholds_for q used) m
serves_small q used m h = (
  rw (lt-leb (3 * q + 18) m (omega arith), lt-leb (3 * used + 18) m (omega arith)),
  rw (lt-leb (5 * q + 67) m (omega arith), lt-leb (5 * used + 67) m (omega arith)),
  rw (lt-leb (7 * q + 276) m (omega arith), lt-leb (7 * used + 276) m (omega arith)),
  omega arith,
  omega arith,
  omega arith,
)

-- so they serve a sample, by which the used base is chosen
pub serves : (q m : ℕ) (x : Context) → m ≤ flatness_of x → Serves (thresholds_for q (used_base q (choice_of q (flatness_of x)))) m
serves q m x h =
    choice_cases q (flatness_of x)
    (λ e. rw e (refl, refl, refl, omega arith, omega arith, omega arith))
    (λ i e l f. serves_small q (used_base q (choice_of q (flatness_of x))) m (omega arith))

-- what is chosen is one of four
pub choice_le : (q f : ℕ) → choice_of q f ≤ 3
choice_le q f = choice_cases q f (λ e. omega arith) (λ i e h k. omega arith)

-- a lossless line, with base 0, has the main quantiser alone
pub look_lossless : (x : Context)
    → look_of 0 x ≡ record {
      choice = 0;
      base = 0;
      negative = (gradient_of 0 9 x.first x.second).negative;
      place = (gradient_of 0 9 x.first x.second).size;
    }
unfolding look_of choice_of
look_lossless x = refl

-- what holds of a lossless line holds where the line's base is 0
pub in_lossless : {q : ℕ} (x : Context) {r : Look} → q ≡ 0 → (r ≡ look_of 0 x) × ((r.choice ≤ 3) × ((r.base < 256) × (r.place < 56)))
    → (r ≡ look_of q x) × ((r.choice ≤ 3) × ((r.base < 256) × (r.place < 56)))
in_lossless x e h = rw e h
