-- Lengths of two calls with scratch of different sizes. Assumes nothing.
use mathlib.Core.Bool.{Bool, true, false, cond}
use mathlib.Core.List.{List}
use mathlib.Core.Path.{◌≡◌, refl, sym}
use Prim.Native.Nat.{ℕ}
use native.Mathlib.Omega.{arith}
use lib.Dec.{eqb}
use lib.ListN.{length}
use Rattle.image_map.specs.Places.{width_of}
use Rattle.colour_lines.specs.Sets.{set_size}
use Rattle.stream.specs.Headers.{parse_of}
use Rattle.stream.specs.declared.header.FujiHeader.{FujiHeader}
use Rattle.stream.specs.declared.header.Refusal.TheVariants.{Lossy, WrongCount, ShortScratch}
use Rattle.admission.specs.Beginnings.{is_short_scratch}
use Rattle.admission.specs.Writings.{with_parsed, writing_begins}
use Rattle.write_block.specs.WrittenAnswers.{LeftWritten, LeftMeasured}
use Rattle.theorem_one_to_one.specs.LengthsApart.{LengthsApart, LengthsEqual}
use Rattle.theorem_one_to_one.proofs.LengthsAgree.{agreement_of_calls}
use Rattle.std.specs.Prelude.{Err, Ok, Result}
use Rattle.stream.specs.declared.header.Refusal.{Refusal}

-- two calls begin alike, or one is refused by 10
abbrev begun : (lossless counted short : Bool) → FujiHeader → Result FujiHeader Refusal
begun lossless counted short h =
    cond lossless (cond counted (cond short (Err ShortScratch) (Ok h)) (Err WrongCount)) (Err Lossy)

by_tests : {X : Type 0} (l c s s' : Bool) (h : FujiHeader) → (begun l c s h ≡ Err ShortScratch → X)
    → (begun l c s' h ≡ Err ShortScratch → X) → (begun l c s h ≡ begun l c s' h → X) → X
by_tests false c s s' h f g k = k refl
by_tests true false s s' h f g k = k refl
by_tests true true true s' h f g k = f refl
by_tests true true false true h f g k = g refl
by_tests true true false false h f g k = k refl

begin_alike : {X : Type 0} (d : List ℕ) (n a b a' b' : ℕ) → (writing_begins d n a b ≡ Err ShortScratch → X)
    → (writing_begins d n a' b' ≡ Err ShortScratch → X) → (writing_begins d n a b ≡ writing_begins d n a' b' → X) → X
unfolding writing_begins
begin_alike {X = X} d n a b a' b' = go (parse_of d)
  where
    go : (p : Result FujiHeader Refusal) → (with_parsed p n a b ≡ Err ShortScratch → X) → (with_parsed p n a' b' ≡ Err ShortScratch → X)
        → (with_parsed p n a b ≡ with_parsed p n a' b' → X) → X
    go (Err x) f g k = k refl
    go (Ok h) f g k =
        by_tests h.lossless (eqb n (set_size (width_of h.xtrans) h.lines)) (is_short_scratch h.xtrans a b) (is_short_scratch h.xtrans a' b') h f g k

pub lengths_apart : LengthsApart
lengths_apart d t before after written before' after' measured L M ne ne' =
    let a : ℕ = length before.lines in
    let b : ℕ = length before.records in
    begin_alike d (length t) a b (length before'.lines) (length before'.records)
    (λ e. let R : LeftWritten t (Err ShortScratch) before after written = rw e at L in absurd (ne R.0))
    (λ e. let R : LeftMeasured t (Err ShortScratch) before' after' measured = rw e at M in absurd (ne' R.0))
    (λ e. agreement_of_calls d t a b before after written before' after' measured L (rw e M))

pub lengths_equal : LengthsEqual
lengths_equal d t before after n before' after' m L M =
    let A = lengths_apart d t before after (Ok n) before' after' (Ok m) L M (λ e. other n e) (λ e. other m e) in
    let e : Ok m ≡ Ok n = ((A.length_is n).0 refl).0 in
    let same : m ≡ n = cc in
    sym same
  where
    other : (k : ℕ) → Ok k ≡ Err ShortScratch → ⊥
    other k e = let no : ◌≡◌ {A = ℕ} 0 1 = cc in omega arith
