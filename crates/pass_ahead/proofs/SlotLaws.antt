-- Lists by record and by flatness. Assumes nothing.
use mathlib.Core.Bool.{Bool, true, false, cond, ◌&&◌}
use mathlib.Core.List.{List, [], ◌∷◌}
use mathlib.Core.Path.{◌≡◌, refl, ap, ◌∙◌}
use Prim.Native.Nat.{ℕ, zero, suc, ◌+◌, ◌*◌, ◌≤◌, ◌<◌}
use native.Mathlib.Omega.{arith}
use lib.Dec.{T, leb, ltb, eqb, eqb→eq}
use lib.ListN.{length, get_or, set, length-set, replicate}
use Rattle.numbers.proofs.TableLaws.{both_left, both_right}
use Rattle.code.specs.Samples.{choice_of}
use Rattle.pass_steps.specs.Contexts.{used_base, place_of}
use Rattle.pass_ahead.specs.Odds.{ByFlatness}
use Rattle.pass_ahead.specs.Arrays.{Each, here, Filled}
use Rattle.pass_ahead.specs.Tables.{choice_at, Five, BySlot}
use Rattle.pass_ahead.proofs.ArrayLaws.{each_kept, each_more}

abbrev in_five : ℕ → ℕ → Bool
in_five at i = leb at i && ltb i (at + 5)

-- the quantiser whose number is put last at a place
abbrev put_at : ℕ → ℕ
put_at i =
    cond (in_five 107 i) 3 (cond (in_five 102 i) 2 (cond (in_five 97 i) 1 (cond (in_five 51 i) 3 (cond (in_five 46 i) 2 (cond (in_five 41 i) 1 0)))))

abbrev all_put : ℕ → ℕ → Bool
all_put zero i = true
all_put (suc n) i = eqb (put_at i) (choice_at i) && all_put n (suc i)

put_from : (n i k : ℕ) → T (all_put n i) → k < n → put_at (i + k) ≡ choice_at (i + k)
put_from zero i k t h = absurd (omega arith)
put_from (suc n) i zero t h =
    let e : i + 0 ≡ i = omega arith in
    rw e (eqb→eq (put_at i) (choice_at i) (both_left (eqb (put_at i) (choice_at i)) (all_put n (suc i)) t))
put_from (suc n) i (suc k) t h =
    let e : i + suc k ≡ suc i + k = omega arith in
    rw e (put_from n (suc i) k (both_right (eqb (put_at i) (choice_at i)) (all_put n (suc i)) t) (omega arith))

all_put_lem : T (all_put 112 0)
unfolding choice_at
all_put_lem = tt

put_is : (k : ℕ) → k < 112 → put_at k ≡ choice_at k
put_is k h = let e : 0 + k ≡ k = omega arith in rw e at (put_from 112 0 k all_put_lem h)

pub repeated : (n v j : ℕ) → j < n → get_or (replicate n v) j 0 ≡ v
repeated zero v j h = absurd (omega arith)
repeated (suc n) v zero h = refl
repeated (suc n) v (suc j) h = repeated n v j (omega arith)

-- the number of a choice among four
of_four : (l : List ℕ) (a b c d e f : Bool)
    → cond a (get_or l 3 0) (cond b (get_or l 2 0) (cond c (get_or l 1 0) (cond d (get_or l 3 0) (cond e (get_or l 2 0) (cond f (get_or l 1 0) (get_or l 0 0))))))
    ≡ get_or l (cond a 3 (cond b 2 (cond c 1 (cond d 3 (cond e 2 (cond f 1 0)))))) 0
of_four l true b c d e f = refl
of_four l false true c d e f = refl
of_four l false false true d e f = refl
of_four l false false false true e f = refl
of_four l false false false false true f = refl
of_four l false false false false false true = refl
of_four l false false false false false false = refl

pub slots : (m x y z : ℕ) (l0 l1 l2 l3 l4 l5 l6 : List ℕ) → ((j : ℕ) → j < 112 → get_or l0 j 0 ≡ m) → Five 41 x l0 l1 → Five 46 y l1 l2 → Five 51 z l2 l3
    → Five 97 x l3 l4 → Five 102 y l4 l5 → Five 107 z l5 l6 → length l6 ≡ 112 → Filled 112 (BySlot m x y z) 112 l6
slots m x y z l0 l1 l2 l3 l4 l5 l6 e0 e1 e2 e3 e4 e5 e6 all =
    record {
      all = all;
      each = λ i h.
          rw (e6 i, e5 i, e4 i, e3 i, e2 i, e1 i, e0 i h)
          (of_four (m ∷ x ∷ y ∷ z ∷ []) (in_five 107 i) (in_five 102 i) (in_five 97 i) (in_five 51 i) (in_five 46 i) (in_five 41 i)
          ∙ ap (λ (k : ℕ). get_or (m ∷ x ∷ y ∷ z ∷ []) k 0) (put_is i h));
    }

-- the three rows by flatness
pub record Flats (q n : ℕ) (l : List ℕ) : Type 0 where
  pub all : length l ≡ 27
  pub rows : Each here (λ j v. v ≡ 192 + 48 * choice_of q j) n l
  pub firsts : Each (λ j. 9 + j) (λ j v. v ≡ 56 + place_of (choice_of q j) 0) n l
  pub bases : Each (λ j. 18 + j) (λ j v. v ≡ used_base q (choice_of q j)) n l

pub flats_none : (q : ℕ) (l : List ℕ) → length l ≡ 27 → Flats q 0 l
flats_none q l e = record { all = e; rows = λ h lt. absurd (omega arith); firsts = λ h lt. absurd (omega arith); bases = λ h lt. absurd (omega arith) }

pub flats_more : (q j u v w : ℕ) (l : List ℕ) → j < 9 → u ≡ 192 + 48 * choice_of q j → v ≡ 56 + place_of (choice_of q j) 0 → w ≡ used_base q (choice_of q j)
    → Flats q j l → Flats q (j + 1) (set (set (set l j u) (9 + j) v) (18 + j) w)
flats_more q j u v w l lt eu ev ew e =
    record {
      all = simp length-set e.all;
      rows =
          each_kept here (λ j v. v ≡ 192 + 48 * choice_of q j) (j + 1) (18 + j) w (set (set l j u) (9 + j) v) (λ h k x. omega arith)
          (each_kept here (λ j v. v ≡ 192 + 48 * choice_of q j) (j + 1) (9 + j) v (set l j u) (λ h k x. omega arith)
          (each_more here (λ j v. v ≡ 192 + 48 * choice_of q j) j u l (omega (arith, e.all)) (λ h k x. omega arith) eu e.rows));
      firsts =
          each_kept (λ j. 9 + j) (λ j v. v ≡ 56 + place_of (choice_of q j) 0) (j + 1) (18 + j) w (set (set l j u) (9 + j) v) (λ h k x. omega arith)
          (each_more (λ j. 9 + j) (λ j v. v ≡ 56 + place_of (choice_of q j) 0) j v (set l j u) (simp length-set (omega (arith, e.all))) (λ h k x. omega arith) ev
          (each_kept (λ j. 9 + j) (λ j v. v ≡ 56 + place_of (choice_of q j) 0) j j u l (λ h k x. omega arith) e.firsts));
      bases =
          each_more (λ j. 18 + j) (λ j v. v ≡ used_base q (choice_of q j)) j w (set (set l j u) (9 + j) v) (simp length-set (omega (arith, e.all))) (λ h k x. omega arith) ew
          (each_kept (λ j. 18 + j) (λ j v. v ≡ used_base q (choice_of q j)) j (9 + j) v (set l j u) (λ h k x. omega arith)
          (each_kept (λ j. 18 + j) (λ j v. v ≡ used_base q (choice_of q j)) j j u l (λ h k x. omega arith) e.bases));
    }

pub by_flatness : (q n : ℕ) (l : List ℕ) → 9 ≤ n → Flats q n l → ByFlatness q l
by_flatness q n l h e =
    record { row = λ j k. e.rows j (omega arith); first = λ j k. e.firsts j (omega arith); base = λ j k. e.bases j (omega arith) }
