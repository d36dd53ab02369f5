-- Lists that stand in a list. Assumes nothing.
use mathlib.Core.List.{List, [], ◌∷◌, ◌++◌, append_assoc, append-nil}
use mathlib.Core.Path.{◌≡◌, refl, sym, ap, ◌∙◌}
use Prim.Native.Nat.{ℕ, zero, suc, ◌+◌, ◌-◌, ◌*◌, ◌≤◌, ◌<◌}
use native.Mathlib.Omega.{arith}
use lib.ListN.{length, get_or, take, drop, length-append, get_or-append}
use lib.Seq.{get_or-append-add, drop_at, take_at}
use Rattle.numbers.proofs.OrderLaws.{split}
use Rattle.pass_schedule.specs.Steps.{upto}
use Rattle.theorem_one_to_one.specs.Correspondence.{Bytes}
use Rattle.theorem_whole_streams.specs.Assembled.{length_of}

-- m stands in s from place `at` on
pub record Stands (s : List ℕ) (at : ℕ) (m : List ℕ) : Type 0 where
  pub before : List ℕ
  pub after : List ℕ
  pub long : length before ≡ at
  pub is : s ≡ before ++ (m ++ after)

pub stands_whole : (s : List ℕ) → Stands s 0 s
stands_whole s = record { before = []; after = []; long = refl; is = sym (append-nil s) }

module _ (s : List ℕ) (at : ℕ) where
  pub stands_left : (l m : List ℕ) → Stands s at (l ++ m) → Stands s at l
  stands_left l m S =
      record { before = S.before; after = m ++ S.after; long = S.long; is = S.is ∙ ap (λ (k : List ℕ). S.before ++ k) (append_assoc l m S.after) }

  pub stands_right : (l m : List ℕ) → Stands s at (l ++ m) → Stands s (at + length l) m
  stands_right l m S =
      record {
        before = S.before ++ l;
        after = S.after;
        long = length-append S.before l ∙ rw S.long;
        is = S.is ∙ ap (λ (k : List ℕ). S.before ++ k) (append_assoc l m S.after) ∙ sym (append_assoc S.before l (m ++ S.after));
      }

  pub stands_part : (m : List ℕ) → Stands s at m → take (length m) (drop at s) ≡ m
  stands_part m S =
      ap (λ (k : List ℕ). take (length m) (drop at k)) S.is
      ∙ ap (take (length m)) (drop_at S.before (m ++ S.after) at S.long)
      ∙ take_at m S.after (length m) refl

  pub stands_at : (m : List ℕ) (j : ℕ) → Stands s at m → j < length m → get_or s (at + j) 0 ≡ get_or m j 0
  stands_at m j S h =
      ap (λ (k : List ℕ). get_or k (at + j) 0) S.is
      ∙ rw (← S.long) (get_or-append-add S.before (m ++ S.after) j 0)
      ∙ get_or-append m S.after 0 j h

  pub stands_inside : (m : List ℕ) → Stands s at m → at + length m ≤ length s
  stands_inside m S =
      let e : length s ≡ length S.before + (length m + length S.after) =
      ap length S.is ∙ length-append S.before (m ++ S.after) ∙ rw (length-append m S.after) in
      omega (arith, S.long, e)

pub stands_from : (s : List ℕ) (at at' : ℕ) (m : List ℕ) → at ≡ at' → Stands s at m → Stands s at' m
stands_from s at at' m e S = rw e at S

-- ---- f 0, f 1, .. one after the other

module _ (f : ℕ → List ℕ) where
  pub length_upto : (n : ℕ) → length (upto f n) ≡ length_of f n
  unfolding upto length_of
  length_upto zero = refl
  length_upto (suc n) = length-append (upto f n) (f n) ∙ rw (length_upto n)

  -- all of one length
  pub length_each : (k m : ℕ) → ((b : ℕ) → b < k → length (f b) ≡ m) → (n : ℕ) → n ≤ k → length_of f n ≡ n * m
  unfolding length_of
  length_each k m e zero h = omega arith
  length_each k m e (suc n) h = rw (length_each k m e n (omega arith), e n h) (omega arith)

  -- none longer than m
  pub length_most : (k m : ℕ) → ((b : ℕ) → b < k → length (f b) ≤ m) → (n : ℕ) → n ≤ k → length_of f n ≤ n * m
  unfolding length_of
  length_most k m e zero h = omega arith
  length_most k m e (suc n) h = omega (arith, length_most k m e n (omega arith), e n h)

  pub stands_each : (s : List ℕ) (at n b : ℕ) → Stands s at (upto f n) → b < n → Stands s (at + length_of f b) (f b)
  unfolding upto length_of
  stands_each s at zero b S h = absurd (omega arith)
  stands_each s at (suc n) b S h =
      split n b
      (λ k. let e : n ≡ b = omega arith in rw (← e, ← length_upto n) (stands_right s at (upto f n) (f n) S))
      (λ k. stands_each s at n b (stands_left s at (upto f n) (f n) S) k)

-- by what they are up to n
pub upto_same : (f g : ℕ → List ℕ) (n : ℕ) → ((b : ℕ) → b < n → f b ≡ g b) → upto f n ≡ upto g n
unfolding upto
upto_same f g zero e = refl
upto_same f g (suc n) e = rw (upto_same f g n (λ b h. e b (omega arith)), e n (omega arith))

-- ---- bytes

pub bytes_append : (k l : List ℕ) → Bytes k → Bytes l → Bytes (k ++ l)
bytes_append [] l a b i = b i
bytes_append (x ∷ k) l a b zero = a 0
bytes_append (x ∷ k) l a b (suc i) = bytes_append k l (λ j. a (suc j)) b i

pub bytes_take : (m : ℕ) (l : List ℕ) → Bytes l → Bytes (take m l)
bytes_take zero l a i = omega arith
bytes_take (suc m) [] a i = omega arith
bytes_take (suc m) (x ∷ l) a zero = a 0
bytes_take (suc m) (x ∷ l) a (suc i) = bytes_take m l (λ j. a (suc j)) i

pub bytes_upto : (f : ℕ → List ℕ) (n : ℕ) → ((b : ℕ) → b < n → Bytes (f b)) → Bytes (upto f n)
unfolding upto
bytes_upto f zero a i = omega arith
bytes_upto f (suc n) a i = bytes_append (upto f n) (f n) (bytes_upto f n (λ b h. a b (omega arith))) (a n (omega arith)) i
